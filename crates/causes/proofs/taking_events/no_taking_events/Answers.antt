use Rattle.std.proofs.Common.{◌≡◌, ℕ, inl, inr, [], ◌∷◌, ◌++◌, List, Some, slice_get, subst, sym, ap, ◌∙◌, arith}
use Rattle.std.specs.Global.{Vec}
use Rattle.base.proofs.SlicesAndCounts.{slice_push_cases}
use Rattle.causes.specs.declared.taking_events.Taking.{Taking}
use Rattle.causes.proofs.TakingRows.{taking_row_start}
use Rattle.causes.proofs.taking_events.no_taking_events.Goals as goal

-- nothing stands in these rows
abbrev AreEmpty : List (Vec Taking) → Type 0
AreEmpty rows = (n : ℕ) (row : Vec Taking) → slice_get rows n ≡ Some row → row.items ≡ []

-- an empty row more
empty_next : (rows : List (Vec Taking)) (row : Vec Taking) → AreEmpty rows → row.items ≡ []
    → AreEmpty (rows ++ row ∷ [])
empty_next rows row empty none n other at = elim (slice_push_cases rows row n other at) [
  | inl old ↦ empty n other old.1
  | inr new ↦ ap (λ (x : Vec Taking). x.items) (sym new.1) ∙ none
]

pub loop-preserved : goal.loop-preserved
loop-preserved c = record {
  long = (let len = c.in_ok-push.ensures.len in let long = c.loop.invariant.long in omega arith);
  empty =
      subst AreEmpty (sym c.in_ok-push.ensures.items)
      (empty_next c.loop.takings.items c.new.result c.loop.invariant.empty c.new.ensures.items);
}

pub returns : goal.returns
returns c = λ j. record {
  long = (let long = c.loop.invariant.long in let end = c.loop-test.false in let top = c.loop.auto.counter-end in
      omega (arith, c.loop.takings.ok.0));
  each = λ q row at. taking_row_start j q row.items (c.loop.invariant.empty q row at);
}
