-- What is gone through and kept of a word's accesses.
use Rattle.std.proofs.Common.{◌≡◌, ℕ, ◌+◌, ◌<◌, inl, inr, List, [], ◌∷◌, ◌++◌, Some, length, slice_get, slice_set, subst, sym, ap, ◌∙◌, arith}
use Rattle.std.proofs.lemmas.Bool.{cases_eq, cases_lt}
use Rattle.std.proofs.lemmas.Option.{same_Some, slice_get_within}
use Rattle.base.proofs.SliceSets.{slice_get-set_found, slice_get-set_other, slice_get-set_same}
use Rattle.base.proofs.SlicesAndCounts.{slice_get-append_left, slice_get-last, slice_push_cases}
use Rattle.judge.specs.declared.locksets.watched_word.LockedAccess.{LockedAccess}
use Rattle.judge.specs.Locksets.Watched.{IsWatchedKept, IsWatchedAlike}

-- one access more was gone through
pub kept_accesses_next : (P : LockedAccess → Type 0) (xs : List LockedAccess) (i : ℕ) (x : LockedAccess) → slice_get xs i ≡ Some x
    → ((k : ℕ) (y : LockedAccess) → k < i → slice_get xs k ≡ Some y → P y) → P x
    → (k : ℕ) (y : LockedAccess) → k < i + 1 → slice_get xs k ≡ Some y → P y
kept_accesses_next P xs i x at old now k y lt there = elim (cases_lt k i) [
  | inl less ↦ old k y less there
  | inr le ↦
      (let same : k ≡ i = omega arith in
      subst P (same_Some x y (sym at ∙ (ap (slice_get xs) (sym same) ∙ there))) now)
]

-- an access in the place of one like it
pub kept_accesses_set : (xs : List LockedAccess) (i : ℕ) (x y : LockedAccess) → slice_get xs i ≡ Some x → IsWatchedAlike x y
    → IsWatchedKept xs y (slice_set xs i y)
kept_accesses_set xs i x y at like = record {
  has = (i, slice_get-set_same xs i y (slice_get_within xs i x at));
  only = λ z has. elim (cases_eq has.0 i) [
    | inl is ↦ inl (sym (slice_get-set_found xs i y z (ap (slice_get (slice_set xs i y)) (sym is) ∙ has.1)))
    | inr isnt ↦ inr (has.0, sym (slice_get-set_other xs i has.0 y isnt) ∙ has.1)
  ];
  rest = λ z has. elim (cases_eq has.0 i) [
    | inl is ↦ inr (subst (λ w. IsWatchedAlike w y) (same_Some x z (sym at ∙ (ap (slice_get xs) (sym is) ∙ has.1))) like)
    | inr isnt ↦ inl (has.0, slice_get-set_other xs i has.0 y isnt ∙ has.1)
  ];
}

-- an access behind the others
pub kept_accesses_push : (xs : List LockedAccess) (y : LockedAccess) → IsWatchedKept xs y (xs ++ y ∷ [])
kept_accesses_push xs y = record {
  has = (length xs, slice_get-last xs y);
  only = λ z has. elim (slice_push_cases xs y has.0 z has.1) [
    | inl old ↦ inr (has.0, old.1)
    | inr new ↦ inl (sym new.1)
  ];
  rest = λ z has. inl (has.0, slice_get-append_left xs (y ∷ []) has.0 (slice_get_within xs has.0 z has.1) ∙ has.1);
}
