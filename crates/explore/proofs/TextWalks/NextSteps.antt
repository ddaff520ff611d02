-- The next step of a processor in a walk, and how many are left of all.
use Rattle.std.proofs.Common.{ℕ, ◌≡◌, ◌+◌, ◌-◌, ◌<◌, ◌≤◌, inl, inr, Some, List, [], ◌∷◌, zero, suc, length, slice_get, slice_index_or, slice_set, sym, ap, subst, ◌∙◌, arith}
use Rattle.std.specs.Prelude.{IfSome, MatchOption, None, Option, option_map}
use Rattle.std.specs.Global.{Vec}
use Rattle.std.proofs.lemmas.Bool.{cases_lt}
use Rattle.std.proofs.lemmas.Option.{none-some, same_Some, slice_get_within}
use Rattle.explore.specs.declared.prefixes.script_call.ScriptCall.{ScriptCall}
use Rattle.explore.specs.declared.text.walked_rows.WalkedRow.{WalkedRow}
use Rattle.explore.specs.TextWalks.{HasTextWalkStep, IsTextWalkFurther, IsTextWalkRowThrough}
use Rattle.explore.proofs.MachineSteps.{machine_step_none_of, machine_step_read_at, machine_step_some_at}

-- what is found at the row's place is the next step, and else there is none
pub next_steps_told : (steps : List (Vec ScriptCall)) (rows : List WalkedRow) (p : ℕ) (row : WalkedRow) (calls : Vec ScriptCall)
    → slice_get rows p ≡ Some row → slice_get steps p ≡ Some calls → (o : Option ScriptCall) → o ≡ slice_get calls.items row.place
    → MatchOption o (IsTextWalkRowThrough steps rows p) (λ step. HasTextWalkStep steps rows p step)
next_steps_told steps rows p row calls row_at calls_at (Some step) is = record {
  row = row;
  row_at = row_at;
  calls = calls;
  calls_at = calls_at;
  at = sym is;
}
next_steps_told steps rows p row calls row_at calls_at None is = λ other those at there.
    let same = same_Some row other (sym row_at ∙ at) in
    let also = same_Some calls those (sym calls_at ∙ there) in
    subst (λ (r : WalkedRow). length those.items ≤ r.place) same
    (subst (λ (v : Vec ScriptCall). length v.items ≤ row.place) also
    (elim (cases_lt row.place (length calls.items)) [
      | inl lt ↦ (let found = machine_step_some_at calls.items row.place lt in absurd (none-some found.0 (is ∙ found.1)))
      | inr over ↦ over
    ]))

-- how many steps are left
abbrev pub next_steps_left : List (Vec ScriptCall) → List WalkedRow → ℕ
next_steps_left [] rows = 0
next_steps_left (x ∷ steps) [] = 0
next_steps_left (x ∷ steps) (row ∷ rows) = (length x.items - row.place) + next_steps_left steps rows

next_steps_set : (steps : List (Vec ScriptCall)) (rows : List WalkedRow) (p : ℕ) (row after : WalkedRow) (calls : Vec ScriptCall)
    → slice_get rows p ≡ Some row → slice_get steps p ≡ Some calls → row.place < length calls.items → after.place ≡ row.place + 1
    → next_steps_left steps (slice_set rows p after) < next_steps_left steps rows
next_steps_set [] rows p row after calls at there lt next = absurd (none-some calls there)
next_steps_set (x ∷ steps) [] p row after calls at there lt next = absurd (none-some row at)
next_steps_set (x ∷ steps) (r ∷ rows) zero row after calls at there lt next =
    let place = ap (λ (y : WalkedRow). y.place) (same_Some r row at) in
    let long = ap (λ (v : Vec ScriptCall). length v.items) (same_Some x calls there) in
    omega arith
next_steps_set (x ∷ steps) (r ∷ rows) (suc p) row after calls at there lt next =
    let fewer = next_steps_set steps rows p row after calls at there lt next in
    omega arith

-- they get fewer by each
pub next_steps_fewer : (steps : List (Vec ScriptCall)) (old new : List WalkedRow) (p : ℕ) (step : ScriptCall) → HasTextWalkStep steps old p step
    → IsTextWalkFurther old new p → next_steps_left steps new < next_steps_left steps old
next_steps_fewer steps old new p step here further =
    let same = same_Some here.row further.before (sym here.row_at ∙ further.at) in
    let next = further.next ∙ ap (λ (r : WalkedRow). r.place + 1) (sym same) in
    subst (λ rows. next_steps_left steps rows < next_steps_left steps old) (sym further.set)
    (next_steps_set steps old p here.row further.after here.calls here.row_at here.calls_at
    (slice_get_within here.calls.items here.row.place step here.at) next)

-- what is read at a place of a list is found there
pub next_steps_found : {A : Type 0} (P : A → Type 0) (calls : List ScriptCall) (place : ℕ) (f : A → ScriptCall) (o : Option A)
    → MatchOption o (length calls ≤ place) (λ x. (place < length calls) × P x) → IfSome o (λ x. f x ≡ slice_index_or calls place (f x))
    → option_map f o ≡ slice_get calls place
next_steps_found P calls place f None over read =
    sym (machine_step_none_of (slice_get calls place) (λ x is. let lt = slice_get_within calls place x is in absurd (omega arith)))
next_steps_found P calls place f (Some x) within read = sym (machine_step_read_at calls place (f x) within.0 read)
