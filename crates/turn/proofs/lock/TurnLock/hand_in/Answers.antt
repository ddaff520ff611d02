use Rattle.std.proofs.Common.{◌≡◌, ℕ, ◌<◌, ◌+◌, ap, subst, sym, arith}
use Rattle.turn.proofs.AllowedSteps.{allowed_step_leaves_after}
use Rattle.turn.specs.Boards.{IsBoard}
use Rattle.turn.proofs.lock.TurnLock.hand_in.Goals as goal

pub pass-requires-clause-rule : goal.pass-requires-clause-rule
pass-requires-clause-rule g c =
    let lock = c.args.self.now in
    let sized = lock.sized in
    let some = lock.layout.some in
    let laid = lock.layout.wide in
    let n = lock.table.shared.key.seats in
    let positive : 0 < n = omega arith in
    let next = c.args.number + 1 in
    let board = subst (λ (k : ℕ). IsBoard (g.W.Board.width k) (g.W.Board.shows k) (g.W.Board.at k)
    g.W.Board.passed) (sym sized.0) c.lawful.ensures in
    let word : g.W.Board.at n next ≡ g.W.Board.at lock.layout.seats next =
    ap (λ (k : ℕ). g.W.Board.at k next) sized.0 in
    let inside = c.requires.inside in
    let put = c.exchange-taken.ensures in
    let P = allowed_step_leaves_after g.row.B.Denot g.row.K-View.Denot g.K.Keeper.fact (g.W.Board.width n) (g.W.Board.shows n)
    (g.W.Board.at n) g.W.Board.passed board n lock.table.shared.key.entries lock.table.shared.table_id.slots
    c.exchange-taken.new.seat.id
    g.M.Outcome.then c.args.number inside.0 c.args.book c.args.seat.now.me c.exchange-taken.new.seat.me inside.1
    put.3 inside.2 in
    rw word at P
