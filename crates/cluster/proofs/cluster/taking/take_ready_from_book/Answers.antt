use Rattle.cluster.proofs.PreparingRoom.{room_prepared_in_time, room_preparing_may_look, prepared_room_never_absent, prepared_room_brought}
use Rattle.cluster.proofs.cluster.taking.take_ready_from_book.Goals as goal

pub prepare_take-requires-clause-call : goal.prepare_take-requires-clause-call
prepare_take-requires-clause-call c = room_preparing_may_look c.args.book.now c.args.p c.requires.call

pub returns-clause-room : goal.returns-clause-room
returns-clause-room c =
    prepared_room_brought c.take.result c.args.book.now c.args.p c.prepare_take.new.replicas.items c.take.ensures.brings
    c.in_ok-prepare_take.ensures.room

pub returns-clause-only : goal.returns-clause-only
returns-clause-only c =
    let never = prepared_room_never_absent c.take.result c.args.book.now c.args.p c.requires.call c.requires.ready c.take.ensures.absent in
    room_prepared_in_time c.take.result never c.take.ensures.only
