use Rattle.std.proofs.Common.{Option, arith}
use Rattle.turn.specs.declared.chair.ChairState.{ChairState}
use Rattle.turn.specs.Tickets.{TicketTurns}
use Rattle.turn.proofs.ChairPlaces.{chair_places_split}
use Rattle.turn.proofs.DealingAndGatheringChairs.{dealing_chairs_is_live, dealing_chairs_deals_one}
use Rattle.turn.proofs.lock.TurnLock.deal.Goals as goal

pub split_seat-seat-requires : goal.split_seat-seat-requires
split_seat-seat-requires g c =
    let lock = c.args.self.now in
    let wide = lock.wide in
    let more = lock.layout.more in
    let d = c.loop.invariant.0 in
    let live = dealing_chairs_is_live (g.K.Keeper.first lock.table.shared.key.book.value) lock.table.shared.table_id g.row.ENTRIES
    lock.layout.seats c.loop.counter c.loop.rest c.loop.chairs.items d c.loop-test.true in (
      d.own,
      omega arith,
      chair_places_split (Option g.row.B.Denot) (ChairState g.row.B.Denot g.row.K-View.Denot)
          lock.table.shared.key.seats (TicketTurns g.K.Keeper.fact (g.W.Board.shows lock.table.shared.key.seats)
          lock.table.shared.key.entries) c.loop.rest.id c.loop.rest.me.0 live,
    )

pub loop-preserved : goal.loop-preserved
loop-preserved g c =
    let lock = c.args.self.now in
    let inv = c.loop.invariant in
    let cut = c.split_seat-seat.ensures in
    let pushed = c.push_reserved.ensures in
    let one = dealing_chairs_deals_one (g.K.Keeper.first lock.table.shared.key.book.value) lock.table.shared.table_id
    g.row.ENTRIES lock.layout.seats c.loop.counter c.loop.rest c.loop.chairs.items inv.0 c.loop-test.true
    c.split_seat-seat.new.seat c.split_seat-seat.result c.fresh.result cut.0 cut.2 cut.3 cut.4
    c.fresh.ensures in
    (rw pushed.items one, omega arith, omega arith)
