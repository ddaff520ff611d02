-- What a walk knows of the order of steps, after one step more.
use Rattle.std.proofs.Common.{ℕ, ◌≡◌, ◌≢◌, ◌+◌, ◌<◌, ◌≤◌, ◌⊎◌, inl, inr, false, cond, IsTrue, Some, List, [], ◌∷◌, zero, suc, length, slice_get, slice_index, slice_index_or, slice_set, refl, sym, ap, subst, ◌∙◌, arith}
use Rattle.std.specs.Global.{Vec}
use Rattle.std.proofs.lemmas.Bool.{cases_eq, false≢true}
use Rattle.std.proofs.lemmas.List.{get_or-set_other, length-set}
use Rattle.std.proofs.lemmas.Option.{same_Some, slice_get_within}
use Rattle.base.proofs.SliceSets.{slice_get-set_other, slice_get-set_same}
use Rattle.journal.specs.declared.event.Kind.TheVariants.{Set, Await}
use Rattle.explore.specs.declared.prefixes.script_call.ScriptCall.{ScriptCall}
use Rattle.explore.specs.declared.prefixes.script_call.ScriptCall.TheVariants.{Call}
use Rattle.explore.specs.declared.text.walked_rows.WalkedRow.{WalkedRow}
use Rattle.explore.specs.declared.text.walked_flags.WalkedFlag.{WalkedFlag}
use Rattle.explore.specs.TextGuards.ComesBeforeByText.{own, awaited}
use Rattle.explore.specs.TextGuards.{ComesBeforeByText, IsTextCallAt, text_guard_departures_at, text_guard_held_after_step, text_guard_held_at, text_guard_step_departs}
use Rattle.explore.specs.TextWalks.{AreFlagSettersNoted, AreTextWalkRowsNew, HasTextWalkStep, IsFlagSetDue, IsFlagSetPassed, IsTextWalkFlagMet, IsTextWalkOrder, IsTextWalkRow}
use Rattle.explore.specs.WalkedWords.{walked_row_holds}
use Rattle.explore.proofs.Locksets.Noted.{lockset_noted_holds_step, lockset_noted_phase_step}

-- a row that is past the step, of which these steps of others were made
pub record IsOrderRowPassed (row after : WalkedRow) (known : List ℕ) (p : ℕ) (step : ScriptCall) : Type 0 where
  pub place : after.place ≡ row.place + 1
  pub phase : after.phase ≡ row.phase + cond (text_guard_step_departs step) 1 0
  pub held : (l : ℕ) → walked_row_holds after l ≡ text_guard_held_after_step l (walked_row_holds row l) step
  pub made : after.made ≡ slice_set known p (row.place + 1)

-- what is written isn't exceeded
order_passed_written : (xs : List ℕ) (p v : ℕ) → slice_index (slice_set xs p v) p ≤ v
order_passed_written [] p v = omega arith
order_passed_written (x ∷ xs) zero v = omega arith
order_passed_written (x ∷ xs) (suc p) v = order_passed_written xs p v

-- what is found in rows of which one is set
pub order_passed_found : (rows : List WalkedRow) (p : ℕ) (row after : WalkedRow) → slice_get rows p ≡ Some row → (q : ℕ) (r : WalkedRow)
    → slice_get (slice_set rows p after) q ≡ Some r → ((q ≡ p) × (after ≡ r)) ⊎ ((q ≢ p) × (slice_get rows q ≡ Some r))
order_passed_found rows p row after at q r there = elim (cases_eq q p) [
  | inl is ↦
      (let now = slice_get-set_same rows p after (slice_get_within rows p row at) in
      inl (is, same_Some after r (sym now ∙ ap (slice_get (slice_set rows p after)) (sym is) ∙ there)))
  | inr isnt ↦ inr (isnt, sym (slice_get-set_other rows p q after isnt) ∙ there)
]

module _ (steps : List (Vec ScriptCall)) (rows : List WalkedRow) (flags flags' : List WalkedFlag) (p : ℕ) (step : ScriptCall)
    (here : HasTextWalkStep steps rows p step) (after : WalkedRow) (made : List ℕ) (passed : IsOrderRowPassed here.row after made p step)
    (met : IsTextWalkFlagMet flags flags' here.row.made made p step) (order : IsTextWalkOrder steps rows flags) where
  order_passed_call_at : (k : ScriptCall) → step ≡ k → slice_get here.calls.items here.row.place ≡ Some k
  order_passed_call_at k is = here.at ∙ ap (λ (x : ScriptCall). Some x) is

  order_passed_row : IsTextWalkRow here.calls.items after
  order_passed_row =
      let old = order.each p here.row here.calls here.row_at here.calls_at in
      let lt = slice_get_within here.calls.items here.row.place step here.at in
      let place = passed.place in
      record {
        within = omega arith;
        phase =
            lockset_noted_phase_step here.calls.items here.row.place here.row.phase after.phase step passed.phase old.phase here.at
            ∙ ap (text_guard_departures_at here.calls.items) (sym place);
        held = λ l.
            lockset_noted_holds_step here.calls.items here.row.place l (walked_row_holds here.row l) (walked_row_holds after l) step (passed.held l) (old.held l) here.at
            ∙ ap (λ n. text_guard_held_at here.calls.items n l) (sym place);
      }

  order_passed_each : (q : ℕ) (row : WalkedRow) (calls : Vec ScriptCall) → slice_get (slice_set rows p after) q ≡ Some row
      → slice_get steps q ≡ Some calls → IsTextWalkRow calls.items row
  order_passed_each q row calls at calls_at = elim (order_passed_found rows p here.row after here.row_at q row at) [
    | inl mine ↦
        (let same = same_Some here.calls calls (sym here.calls_at ∙ ap (slice_get steps) (sym mine.0) ∙ calls_at) in
        subst (λ (r : WalkedRow). IsTextWalkRow calls.items r) mine.1
        (subst (λ (x : Vec ScriptCall). IsTextWalkRow x.items after) same order_passed_row))
    | inr other ↦ order.each q row calls other.1 calls_at
  ]

  -- what p knows at its next step
  order_passed_made_own : (r i k : ℕ) → i < slice_index after.made r → after.place ≤ k → ComesBeforeByText steps r i p k
  order_passed_made_own r i k lt le =
      let place = passed.place in
      let below = subst (λ (xs : List ℕ). i < slice_index xs r) passed.made lt in
      elim (cases_eq r p) [
        | inl is ↦
            (let small = order_passed_written made p (here.row.place + 1) in
            let at_own = subst (λ n. i < slice_index (slice_set made p (here.row.place + 1)) n) is below in
            subst (λ n. ComesBeforeByText steps n i p k) (sym is) (own (omega arith)))
        | inr isnt ↦ elim (met.learns r i (subst (λ n. i < n) (get_or-set_other made p r (here.row.place + 1) 0 isnt) below)) [
          | inl before ↦ order.made p r i k here.row here.row_at before (omega arith)
          | inr now ↦
              awaited here.row.place now.0 (omega arith)
              (record { row = here.calls; row_at = here.calls_at; at = order_passed_call_at (Call (Await now.0)) now.1 })
              (λ q m set. order.passed now.0 q r i m (now.2 q) set)
        ]
      ]

  order_passed_made : (q r i k : ℕ) (row : WalkedRow) → slice_get (slice_set rows p after) q ≡ Some row → i < slice_index row.made r → row.place ≤ k
      → ComesBeforeByText steps r i q k
  order_passed_made q r i k row at lt le = elim (order_passed_found rows p here.row after here.row_at q row at) [
    | inl mine ↦
        subst (λ n. ComesBeforeByText steps r i n k) (sym mine.0)
        (order_passed_made_own r i k (subst (λ (x : WalkedRow). i < slice_index x.made r) (sym mine.1) lt)
        (subst (λ (x : WalkedRow). x.place ≤ k) (sym mine.1) le))
    | inr other ↦ order.made q r i k row other.1 lt le
  ]

  -- a set that p makes later, if one is due
  order_passed_due_own : (f m : ℕ) → IsFlagSetDue flags' f p → IsTextCallAt steps p m (Set f) → after.place ≤ m
  order_passed_due_own f m due call =
      let was = met.due f p due in
      let least = order.due f p m here.row was.0 here.row_at call in
      let place = passed.place in
      elim (cases_eq m here.row.place) [
        | inl is ↦
            (let same = same_Some call.row here.calls (sym call.row_at ∙ here.calls_at) in
            let there = subst (λ (x : Vec ScriptCall). slice_get x.items m ≡ Some (Call (Set f))) same call.at in
            let sets = same_Some step (Call (Set f)) (sym here.at ∙ ap (slice_get here.calls.items) (sym is) ∙ there) in
            absurd (was.1 sets refl))
        | inr isnt ↦ omega arith
      ]

  order_passed_due : (f q m : ℕ) (row : WalkedRow) → IsFlagSetDue flags' f q → slice_get (slice_set rows p after) q ≡ Some row
      → IsTextCallAt steps q m (Set f) → row.place ≤ m
  order_passed_due f q m row due at call = elim (order_passed_found rows p here.row after here.row_at q row at) [
    | inl mine ↦
        subst (λ (x : WalkedRow). x.place ≤ m) mine.1
        (order_passed_due_own f m (subst (λ n. IsFlagSetDue flags' f n) mine.0 due) (subst (λ n. IsTextCallAt steps n m (Set f)) mine.0 call))
    | inr other ↦ order.due f q m row (met.due f q due).0 other.1 call
  ]

  order_passed_passed : (f q r i m : ℕ) → IsFlagSetPassed flags' f q r i → IsTextCallAt steps q m (Set f) → ComesBeforeByText steps r i q m
  order_passed_passed f q r i m told call = elim (met.passed f q r i told) [
    | inl old ↦ order.passed f q r i m old call
    | inr now ↦
        (let call' = subst (λ n. IsTextCallAt steps n m (Set f)) now.0 call in
        subst (λ n. ComesBeforeByText steps r i n m) (sym now.0)
        (order.made p r i m here.row here.row_at now.2 (order.due f p m here.row now.1 here.row_at call')))
  ]

  pub order_passed_next : IsTextWalkOrder steps (slice_set rows p after) flags'
  order_passed_next = record {
    long = length-set rows p after ∙ order.long;
    each = order_passed_each;
    made = order_passed_made;
    due = order_passed_due;
    passed = order_passed_passed;
  }

-- before the first step
pub order_passed_start : (steps : List (Vec ScriptCall)) (rows : List WalkedRow) (flags : List WalkedFlag) → AreTextWalkRowsNew (length steps) rows
    → AreFlagSettersNoted flags steps (length steps) → IsTextWalkOrder steps rows flags
order_passed_start steps rows flags new setters = record {
  long = new.long;
  each = λ p row calls at calls_at.
      let fresh = new.each p row at in
      let place = fresh.place in
      record {
        within = omega arith;
        phase = fresh.phase ∙ ap (text_guard_departures_at calls.items) (sym place);
        held = λ l. fresh.held l ∙ ap (λ n. text_guard_held_at calls.items n l) (sym place);
      };
  made = λ q r i k row at lt le. let none = (new.each q row at).made r in absurd (omega arith);
  due = λ f q m row due at call. let place = (new.each q row at).place in omega arith;
  passed = λ f q r i m told call.
      let due = setters q call.row (slice_get_within steps q call.row call.row_at) call.row_at m (Call (Set f))
      (slice_get_within call.row.items m (Call (Set f)) call.at) call.at f refl in
      let same = same_Some due.flag told.flag (sym due.at ∙ told.at) in
      absurd (false≢true (sym told.passed ∙ subst (λ (x : WalkedFlag). IsTrue (slice_index_or x.due q false)) same due.due));
}
