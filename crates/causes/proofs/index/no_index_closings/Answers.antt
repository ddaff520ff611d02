use Rattle.std.proofs.Common.{◌≡◌, ℕ, inl, inr, [], ◌∷◌, ◌++◌, List, subst, sym, ap, ◌∙◌, arith}
use Rattle.std.specs.Global.{Vec}
use Rattle.base.proofs.SlicesAndCounts.{slice_push_cases}
use Rattle.causes.specs.Index.{AreIndexRowsEmpty}
use Rattle.causes.proofs.index.no_index_closings.Goals as goal

-- an empty row more
empty_next : (rows : List (Vec ℕ)) (row : Vec ℕ) → AreIndexRowsEmpty rows → row.items ≡ [] → AreIndexRowsEmpty (rows ++ row ∷ [])
empty_next rows row empty none n other at = elim (slice_push_cases rows row n other at) [
  | inl old ↦ empty n other old.1
  | inr new ↦ ap (λ (x : Vec ℕ). x.items) (sym new.1) ∙ none
]

pub loop-preserved : goal.loop-preserved
loop-preserved c = record {
  long = (let len = c.in_ok-push.ensures.len in let long = c.loop.invariant.long in omega arith);
  empty =
      subst AreIndexRowsEmpty (sym c.in_ok-push.ensures.items)
      (empty_next c.loop.closings.items c.new.result c.loop.invariant.empty c.new.ensures.items);
}
