use Rattle.std.proofs.Common.{◌≡◌, eqb, Option, ℕ, ◌<◌, ap, sym, ◌∙◌, subst, arith}
use Rattle.atomic_table.specs.Table.{Me}
use Rattle.turn.specs.declared.chair.ChairState.{ChairState}
use Rattle.turn.specs.declared.chair.ChairRun.{ChairRun}
use Rattle.turn.specs.SeatSteps.{SeatStepsIn}
use Rattle.turn.proofs.AllowedSteps.{allowed_step_both_cases, allowed_step_looks}
use Rattle.turn.specs.Boards.{IsBoard}
use Rattle.turn.proofs.lock.TurnLock.look.Goals as goal

pub load-requires : goal.load-requires
load-requires g c =
    let lock = c.args.self.now in
    let sized = lock.sized in
    let wide = lock.wide in
    let some = lock.layout.some in
    let laid = lock.layout.wide in
    let n = lock.table.shared.key.seats in
    let positive : 0 < n = omega arith in
    let number = c.args.number in
    let here = c.lawful.ensures in
    let board = subst (λ (k : ℕ). IsBoard (g.W.Board.width k) (g.W.Board.shows k) (g.W.Board.at k)
    g.W.Board.passed) (sym sized.0) c.lawful.ensures in
    let within = here.within number in
    let word_is = c.requires.word in
    let word : g.W.Board.at n number ≡ c.args.word = ap (λ (k : ℕ). g.W.Board.at k number) sized.0 ∙ sym word_is in
    let P = allowed_step_looks g.row.B.Denot g.row.K-View.Denot g.K.Keeper.fact (g.W.Board.width n) (g.W.Board.shows n)
    (g.W.Board.at n) g.W.Board.passed board n lock.table.shared.key.entries lock.table.shared.table_id.slots
    c.args.seat.now.id number c.args.seat.now.me c.requires.waits in
    (c.requires.own, omega arith, rw word at P)

pub returns : goal.returns
returns g c =
    let told = c.load.ensures in
    let waits = ap (λ (m : Me (Option g.row.B.Denot)
    (ChairRun (ChairState g.row.B.Denot g.row.K-View.Denot))). m.0.lead.stage) c.requires.waits in
    let found = allowed_step_both_cases (SeatStepsIn g.K.Keeper.fact c.args.number c.args.seat.now.me c.load.new.seat.me)
    (c.load.new.seat.me ≡ c.args.seat.now.me) (eqb c.load.result c.args.number) (told.2 c.args.number waits) in
    record { own = told.0; enter = found.0; look = found.1 }
