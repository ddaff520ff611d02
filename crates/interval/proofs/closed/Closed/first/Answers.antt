use Rattle.interval.proofs.Queues.Merged.{MergedQueuesHold}
use Rattle.interval.proofs.News.Gathered.{gathered_owned_queue}
use Rattle.interval.proofs.Queues.FirstFound.{first_found_number}
use Rattle.interval.proofs.closed.Closed.first.Goals as goal

pub returns-clause-earliest : goal.returns-clause-earliest
returns-clause-earliest c =
    let hold : MergedQueuesHold c.self.inside.queues.items c.self.inside.pushed c.args.self.now =
    record { seen = c.self.view_is; are = c.self.invariant } in
    first_found_number c.args.owner hold (gathered_owned_queue c.args.owner hold c.requires c.index.ensures) c.first.ensures
