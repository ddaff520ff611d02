use Rattle.std.proofs.Common.{◌≡◌, ℕ, inl, inr, [], ◌∷◌, ◌++◌, List, Option, Some, slice_get, subst, sym, arith}
use Rattle.std.specs.Prelude.{None}
use Rattle.base.proofs.SlicesAndCounts.{slice_push_cases}
use Rattle.causes.specs.declared.origin.WordOrigin.{WordOrigin}
use Rattle.causes.proofs.origin.no_origins.Goals as goal

-- none of these words has an origin
abbrev HaveNone : List (Option WordOrigin) → Type 0
HaveNone words = (n : ℕ) (o : Option WordOrigin) → slice_get words n ≡ Some o → o ≡ None

-- a word more
none_next : (words : List (Option WordOrigin)) → HaveNone words → HaveNone (words ++ None ∷ [])
none_next words none n o at = elim (slice_push_cases words None n o at) [
  | inl old ↦ none n o old.1
  | inr new ↦ sym new.1
]

pub loop-preserved : goal.loop-preserved
loop-preserved c = record {
  long = (let len = c.in_ok-push.ensures.len in let long = c.loop.invariant.long in omega arith);
  none = subst HaveNone (sym c.in_ok-push.ensures.items) (none_next c.loop.words.items c.loop.invariant.none);
}
