use Rattle.std.proofs.Common.{Option, refl, false, [], arith}
use Rattle.turn.specs.declared.chair.ChairState.{ChairState}
use Rattle.turn.specs.Tickets.{TicketTurns}
use Rattle.turn.specs.ChairRuns.{chair_run}
use Rattle.turn.specs.SeatSteps.{fresh_stepping_seat}
use Rattle.turn.proofs.ChairPlaces.{chair_places_joined}
use Rattle.turn.proofs.DealingAndGatheringChairs.{gathering_last_chair, gathering_chair_before, gathering_one_chair}
use Rattle.turn.proofs.lock.TurnLock.gather.Goals as goal

pub loop-chair-init : goal.loop-chair-init
loop-chair-init g c =
    rw c.into_seat-whole.ensures (gathering_last_chair c.args.self.now.table.shared.table_id g.row.ENTRIES
    c.args.chairs.items c.pop.new.self.items c.in-Some.last c.in-Some.ensures.items c.requires.1)

pub join_seat-requires : goal.join_seat-requires
join_seat-requires g c =
    let lock = c.args.self.now in
    let wide = lock.wide in
    let more = lock.layout.more in
    let inv = c.loop-chair.invariant in
    let before = gathering_chair_before lock.table.shared.table_id g.row.ENTRIES c.args.chairs.items c.loop-chair.chairs.items
    c.pop-in-loop-chair.new.self.items c.loop-chair.whole c.in-Some-pop.chair c.into_seat.result inv
    c.in-Some-pop.ensures.items c.into_seat.ensures in (
      inv.own,
      before.0,
      before.1,
      omega arith,
      chair_places_joined (Option g.row.B.Denot) (ChairState g.row.B.Denot g.row.K-View.Denot) lock.table.shared.key.seats
          (TicketTurns g.K.Keeper.fact (g.W.Board.shows lock.table.shared.key.seats) lock.table.shared.key.entries)
          c.loop-chair.whole.id c.into_seat.result.id c.loop-chair.whole.me.0 c.into_seat.result.me.0
          (chair_run false 0 (fresh_stepping_seat g.K.Keeper.nobody) []) inv.live before.3 refl before.2,
    )

pub loop-chair-preserved : goal.loop-chair-preserved
loop-chair-preserved g c =
    let lock = c.args.self.now in
    let joined = c.join_seat.ensures in
    gathering_one_chair lock.table.shared.table_id g.row.ENTRIES c.args.chairs.items c.loop-chair.chairs.items
    c.pop-in-loop-chair.new.self.items c.loop-chair.whole c.in-Some-pop.chair c.into_seat.result
    c.loop-chair.invariant c.in-Some-pop.ensures.items c.into_seat.ensures
    c.join_seat.new.seat joined.0 joined.2
