use Rattle.std.proofs.Common.{◌≡◌, ℕ, inl, inr, [], ◌∷◌, ◌++◌, List, Some, slice_get, subst, sym, ap, ◌∙◌, arith}
use Rattle.std.specs.Global.{Vec}
use Rattle.base.proofs.SlicesAndCounts.{slice_push_cases}
use Rattle.causes.specs.declared.store_rows.NumberedStore.{NumberedStore}
use Rattle.causes.proofs.store_rows.no_store_rows.Goals as goal

-- nothing stands in these rows
abbrev AreEmpty : List (Vec NumberedStore) → Type 0
AreEmpty rows = (n : ℕ) (row : Vec NumberedStore) → slice_get rows n ≡ Some row → row.items ≡ []

-- an empty row more
empty_next : (rows : List (Vec NumberedStore)) (row : Vec NumberedStore) → AreEmpty rows → row.items ≡ []
    → AreEmpty (rows ++ row ∷ [])
empty_next rows row empty none n other at = elim (slice_push_cases rows row n other at) [
  | inl old ↦ empty n other old.1
  | inr new ↦ ap (λ (x : Vec NumberedStore). x.items) (sym new.1) ∙ none
]

pub loop-preserved : goal.loop-preserved
loop-preserved c = record {
  long = (let len = c.in_ok-push.ensures.len in let long = c.loop.invariant.long in omega arith);
  empty =
      subst AreEmpty (sym c.in_ok-push.ensures.items)
      (empty_next c.loop.rows.items c.new.result c.loop.invariant.empty c.new.ensures.items);
}
