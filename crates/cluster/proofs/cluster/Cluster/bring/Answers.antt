use Rattle.cluster.proofs.ReadyAccess.{ready_access_fetched_by}
use Rattle.cluster.proofs.cluster.Cluster.bring.Goals as goal

pub returns-clause-done : goal.returns-clause-done
returns-clause-done g c = λ due.
    ready_access_fetched_by c.args.processor.now c.make_room.new.processor c.fetch.new.self c.args.page c.fetch.result
    c.in_ok-make_room.ensures.room due c.fetch.ensures.refused c.fetch.ensures.ok c.fetch.ensures.covers
