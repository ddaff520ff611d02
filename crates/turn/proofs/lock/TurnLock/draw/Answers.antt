use Rattle.std.proofs.Common.{◌<◌, ℕ, subst, sym, arith}
use Rattle.turn.proofs.AllowedSteps.{allowed_step_draws}
use Rattle.turn.specs.Boards.{IsBoard}
use Rattle.turn.proofs.lock.TurnLock.draw.Goals as goal

pub fetch_add-requires : goal.fetch_add-requires
fetch_add-requires g c =
    let lock = c.args.self.now in
    let sized = lock.sized in
    let wide = lock.wide in
    let some = lock.layout.some in
    let laid = lock.layout.wide in
    let n = lock.table.shared.key.seats in
    let positive : 0 < n = omega arith in
    let left = c.requires.left in
    let here = c.lawful.ensures in
    let board = subst (λ (k : ℕ). IsBoard (g.W.Board.width k) (g.W.Board.shows k) (g.W.Board.at k)
    g.W.Board.passed) (sym sized.0) c.lawful.ensures in
    let within = here.within 0 in (
      c.requires.own,
      omega arith,
      allowed_step_draws _ _ g.K.Keeper.fact (g.W.Board.width n) (g.W.Board.shows n)
          (g.W.Board.at n) g.W.Board.passed board n lock.table.shared.key.entries _ _ c.args.seat.now.me
          c.requires.outside (omega arith),
    )
