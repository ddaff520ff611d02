use Rattle.turn.proofs.DealingAndGatheringChairs.{dealing_chairs_begins}
use Rattle.turn.proofs.lock.TurnLock.open.Goals as goal

pub new-requires : goal.new-requires
new-requires g c =
    let words = c.in_ok-words.ensures in
    rw (c.as_slice.ensures.value, c.in_ok-slots.ensures, c.of.ensures)
    (dealing_chairs_begins g.row.B.Denot g.row.K-View.Denot g.K.Keeper.fact (g.W.Board.shows c.args.seats) g.row.ENTRIES
    c.args.seats c.in_ok-words.words.items c.args.book (g.K.Keeper.first c.args.book) c.requires.some
    c.requires.room words.next words.shows c.requires.fact)
