use Rattle.test_crews.proofs.crews.Stepping.{by_load}
use Rattle.test_crews.proofs.crews.calls.load.Goals as goal

pub returns : goal.returns
returns g c =
    by_load c.args.cluster.now c.args.processor.now c.load.new.self c.args.address c.load.result c.requires
    c.load.ensures.err c.load.ensures.ok c.load.ensures.covers
