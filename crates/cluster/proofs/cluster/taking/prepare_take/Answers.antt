use Rattle.book.specs.Messages.{brought_by_message}
use Rattle.cluster.proofs.PreparingRoom.{prepared_room_ok}
use Rattle.cluster.proofs.cluster.taking.prepare_take.Goals as goal

pub returns-clause-room : goal.returns-clause-room
returns-clause-room c =
    prepared_room_ok c.make_room_to_take.result c.count_due.new.counts (brought_by_message c.args.book.now c.args.p)
    c.make_room_to_take.new.replicas.items c.make_room_to_take.ensures.long c.count_due.ensures.each c.make_room_to_take.ensures.ok
