use Rattle.std.proofs.Common.{inl, refl, ◌∙◌}
use Rattle.cluster.proofs.ReadyAccess.{ready_access_handed, ready_access_room_none, ready_access_room_some}
use Rattle.cluster.proofs.cluster.Cluster.make_room.Goals as goal

pub returns-then-room-eq0-clause-own : goal.returns-then-room-eq0-clause-own
returns-then-room-eq0-clause-own g c = c.flush.ensures.same.lock ∙ c.requires.own

pub returns-then-room-eq0-clause-room : goal.returns-then-room-eq0-clause-room
returns-then-room-eq0-clause-room g c =
    let m = c.args.processor.now in
    ready_access_handed m c.flush.new.processor c.flush.result
    (ready_access_room_none m c.room.result c.room.ensures c.if-room-eq0.true) c.flush.ensures

pub returns-else-room-eq0-clause-room : goal.returns-else-room-eq0-clause-room
returns-else-room-eq0-clause-room g c =
    inl (ready_access_room_some c.args.processor.now c.room.result c.room.ensures c.if-room-eq0.false, refl)
