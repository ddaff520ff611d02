use Rattle.lrc_run.proofs.cluster_run.conclude_cluster_run.Goals as goal

pub returns-in-Ok-clause-report : goal.returns-in-Ok-clause-report
returns-in-Ok-clause-report g c = c.in-Ok.ensures.is

pub returns-in-Ok-clause-cluster : goal.returns-in-Ok-clause-cluster
returns-in-Ok-clause-cluster g c = record {
  cluster = c.args.cluster;
  lock_is = c.requires.lock;
  processors = c.args.processors.items;
  walked = c.requires.walked;
  told = c.in-Ok.ensures;
}
