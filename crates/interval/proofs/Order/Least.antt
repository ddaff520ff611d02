-- The earliest of the intervals of a rising list that pass a test.
use Rattle.std.proofs.Common.{◌≡◌, ◌≤◌, suc, Bool, true, false, inl, inr, Some, List, ◌∷◌, [], find, refl, ap, arith, ◌∙◌}
use Rattle.std.proofs.lemmas.Bool.{cond-true, cond-false, cases_Bool}
use Rattle.base.specs.InOrderOnce.{Has}
use Rattle.base.proofs.JoinedLists.{joined_list_has-nil, joined_list_has-cons}
use Rattle.interval.specs.declared.interval.KeptInterval.{KeptInterval}
use Rattle.interval.proofs.Order.RisingByPlace.{Rises, rises_first, rises_rest}

-- none that passes was closed before k
abbrev pub IsLeast : (KeptInterval → Bool) → List KeptInterval → KeptInterval → Type 0
IsLeast p xs k = (j : KeptInterval) → Has xs j → p j ≡ true → k.place ≤ j.place

-- what is closed before the earliest doesn't pass
least_skipped : (p : KeptInterval → Bool) (x : KeptInterval) (xs : List KeptInterval) (k : KeptInterval) → Rises (x ∷ xs) → Has xs k → IsLeast p (x ∷ xs) k
    → p x ≡ false
least_skipped p x xs k rises later least = elim (cases_Bool (p x)) [
  | inl t ↦ (let early = least x (0, refl) t in let after = rises_first x xs rises k later in absurd (omega arith))
  | inr f ↦ f
]

-- the earliest is found first
pub find_least : (p : KeptInterval → Bool) (xs : List KeptInterval) (k : KeptInterval) → Rises xs → Has xs k → p k ≡ true → IsLeast p xs k
    → find p xs ≡ Some k
find_least p [] k rises here passes least = absurd (joined_list_has-nil k here)
find_least p (x ∷ xs) k rises here passes least = elim ((joined_list_has-cons x xs k).0 here) [
  | inl same ↦ cond-true (p x) (Some x) (find p xs) (ap p same ∙ passes) ∙ ap Some same
  | inr later ↦ cond-false (p x) (Some x) (find p xs) (least_skipped p x xs k rises later least)
      ∙ find_least p xs k (rises_rest x xs rises) later passes (λ j h. least j (suc h.0, h.1))
]
