use Rattle.std.proofs.Common.{◌≤◌, ◌-◌, ◌∙◌, ℕ, List, ap, length, subst, sym}
use Rattle.std.specs.Prelude.{IfOk}
use Rattle.std.specs.Global.{Vec}
use Rattle.lrc_picture.specs.Arrows.{AreArrowPlaces}
use Rattle.lrc_commands.proofs.DrawnHistories.{drawn_history_hand_overs_within}
use Rattle.lrc_commands.proofs.drawing.drawing_arrows.Goals as goal

pub drawing_rows_from-requires-clause-places : goal.drawing_rows_from-requires-clause-places
drawing_rows_from-requires-clause-places c =
    rw c.deref.ensures.value (drawn_history_hand_overs_within c.args.history.now.events c.in_ok-rows.rows.items c.in_ok-rows.ensures)

pub drawing_rows_from-requires-clause-opening : goal.drawing_rows_from-requires-clause-opening
drawing_rows_from-requires-clause-opening c =
    let same = ap (λ (rows : List (Vec ℕ)). length rows) c.deref.ensures.value ∙ c.in_ok-rows.ensures.long in
    subst (λ n. c.opening.result ≤ n) (sym same) c.opening.ensures.within

pub returns : goal.returns
returns c =
    let same = ap (λ (rows : List (Vec ℕ)). length rows) c.deref.ensures.value ∙ c.in_ok-rows.ensures.long in
    let drawn = λ (n m : ℕ). IfOk c.drawing_rows_from.result (λ (v : Vec (Vec ℕ)). AreArrowPlaces (n - m) v.items) in
    subst (λ m. drawn (length c.args.history.now.events) m) c.opening.ensures.value
    (subst (λ n. drawn n c.opening.result) same c.drawing_rows_from.ensures)
