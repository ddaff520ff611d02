-- What lists of those who wait tell.
use Rattle.std.proofs.Common.{◌≡◌, ℕ, zero, suc, ◌+◌, ◌<◌, ◌⊎◌, inl, inr, ◌↔◌, EachIndex, List, [], ◌∷◌, length, map, Bool, true, false, Option, Some, None, IsTrue, slice_get, slice_set, slice_index_or, subst, sym, refl, ap, ◌∙◌, arith}
use Rattle.std.proofs.lemmas.Bool.{cases_eq, true≢false}
use Rattle.std.proofs.lemmas.Option.{none-some, same_Some, slice_get-get_or, slice_get-map}
use Rattle.std.specs.Option.{option_map}
use Rattle.base.specs.Limits.{most_processors}
use Rattle.base.specs.InOrderOnce.{Has}
use Rattle.base.proofs.JoinedLists.{joined_list_has-nil, joined_list_has-cons}
use Rattle.base.proofs.SliceSets.{slice_get-set_same, slice_get-set_other}
use Rattle.transit.specs.Letters.{Letter}
use Rattle.journal.specs.declared.closing_and_awaited.Awaited.{Awaited}
use Rattle.journal.specs.declared.closing_and_awaited.Awaited.TheVariants.{Grant, Departure, Signal}
use Rattle.journal.specs.ClosingKinds.{closing_awaits_kind}
use Rattle.book.specs.Messages.{message_has_come}
use Rattle.book.specs.Waiters.{waiters_from}

-- p waits for what has not come
abbrev pub WaitsInVainAtPlace : List (Option Awaited) → List (Option (List ℕ)) → List (Option Letter) → ℕ → Type 0
WaitsInVainAtPlace awaits flags mail p =
    (a : Awaited) × (slice_get awaits p ≡ Some (Some a)) × (message_has_come flags mail p (closing_awaits_kind a) ≡ false)

-- p waits for this, which has come
abbrev pub IsDoneWaitingAtPlace : List (Option Awaited) → List (Option (List ℕ)) → List (Option Letter) → Awaited → ℕ → Type 0
IsDoneWaitingAtPlace awaits flags mail a p =
    (slice_get awaits p ≡ Some (Some a)) × (message_has_come flags mail p (closing_awaits_kind a) ≡ true)

-- and is one of the first 16 processors
abbrev pub IsWaitingPlaceWithinMost : List (Option Awaited) → List (Option (List ℕ)) → List (Option Letter) → Awaited → ℕ → Type 0
IsWaitingPlaceWithinMost awaits flags mail a p =
    (p < most_processors) × (slice_get awaits p ≡ Some (Some a)) × (message_has_come flags mail p (closing_awaits_kind a) ≡ true)

-- what is read at p's place stands there
pub waiting_place_read_at : (awaits : List (Option Awaited)) (p : ℕ) (o : Option Awaited) → p < length awaits
    → slice_index_or awaits p None ≡ o → slice_get awaits p ≡ Some o
waiting_place_read_at awaits p o lt is = slice_get-get_or awaits p None lt ∙ ap (λ (x : Option Awaited). Some x) is

-- where p waits for nothing, not all wait in vain
pub waiting_place_idle : (awaits : List (Option Awaited)) (flags : List (Option (List ℕ))) (mail : List (Option Letter)) (p : ℕ)
    → p < length awaits → slice_get awaits p ≡ Some None → IsTrue false ↔ EachIndex awaits (WaitsInVainAtPlace awaits flags mail)
waiting_place_idle awaits flags mail p lt at = (
  (λ e. absurd (true≢false (sym e))),
  (λ all. (let v = all p lt in absurd (none-some v.0 (same_Some None (Some v.0) (sym at ∙ v.1))))),
)

-- nor where what p waits for has come
pub waiting_place_done_not_vain : (awaits : List (Option Awaited)) (flags : List (Option (List ℕ))) (mail : List (Option Letter)) (p : ℕ)
    (a : Awaited) → p < length awaits → slice_get awaits p ≡ Some (Some a) → message_has_come flags mail p (closing_awaits_kind a) ≡ true
    → IsTrue false ↔ EachIndex awaits (WaitsInVainAtPlace awaits flags mail)
waiting_place_done_not_vain awaits flags mail p a lt at come = (
  (λ e. absurd (true≢false (sym e))),
  (λ all. (let v = all p lt in
      let same = same_Some a v.0 (same_Some (Some a) (Some v.0) (sym at ∙ v.1)) in
      absurd (true≢false (sym (subst (λ (x : Awaited). message_has_come flags mail p (closing_awaits_kind x) ≡ true) same come) ∙ v.2)))),
)

waiting_place_kind_same : (x a : Awaited) → closing_awaits_kind x ≡ closing_awaits_kind a → x ≡ a
waiting_place_kind_same (Grant l) (Grant m) e = cc
waiting_place_kind_same Departure Departure e = refl
waiting_place_kind_same (Signal f) (Signal g) e = cc
waiting_place_kind_same _ _ e = absurd cc

-- p waits for this by the list of what all wait for, and by the list of the events that end the waits
pub waiting_place_map : (awaits : List (Option Awaited)) (p : ℕ) (a : Awaited)
    → slice_get (map (option_map closing_awaits_kind) awaits) p ≡ Some (Some (closing_awaits_kind a)) ↔ slice_get awaits p ≡ Some (Some a)
waiting_place_map awaits p a = (
  (λ at. found (slice_get awaits p) refl (sym (slice_get-map (option_map closing_awaits_kind) awaits p) ∙ at)),
  (λ at. slice_get-map (option_map closing_awaits_kind) awaits p ∙ ap (option_map (option_map closing_awaits_kind)) at),
)
  where
    found : (o : Option (Option Awaited)) → slice_get awaits p ≡ o
        → option_map (option_map closing_awaits_kind) o ≡ Some (Some (closing_awaits_kind a)) → slice_get awaits p ≡ Some (Some a)
    found None is at = absurd cc
    found (Some None) is at = absurd (none-some (closing_awaits_kind a) (same_Some None (Some (closing_awaits_kind a)) at))
    found (Some (Some x)) is at =
        is ∙ ap (λ (y : Awaited). Some (Some y))
        (waiting_place_kind_same x a (same_Some (closing_awaits_kind x) (closing_awaits_kind a) (same_Some (Some (closing_awaits_kind x)) (Some (closing_awaits_kind a)) at)))

-- the numbers below n of which Q holds are found
abbrev pub AreWaitingPlacesFound : (ℕ → Type 0) → ℕ → List ℕ → Type 0
AreWaitingPlacesFound Q n found = (q : ℕ) → Has found q ↔ ((q < n) × Q q)

-- one more is
pub waiting_places_one_found : (Q : ℕ → Type 0) (n : ℕ) (old new : List ℕ) → ((q : ℕ) → Q q → q < most_processors) → AreWaitingPlacesFound Q n old
    → ((q : ℕ) → Has new q ↔ (((q ≡ n) × (q < most_processors)) ⊎ Has old q)) → (n < most_processors → Q n)
    → AreWaitingPlacesFound Q (n + 1) new
waiting_places_one_found Q n old new few are added here q = (
  (λ has. elim ((added q).0 has) [
    | inl own ↦ (
      omega (arith, own.0),
      subst Q (sym own.0) (here (subst (λ (x : ℕ). x < most_processors) own.0 own.1)),
    )
    | inr was ↦ (let both = (are q).0 was in (omega (arith, both.0), both.1))
  ]),
  (λ both. elim (cases_eq q n) [
    | inl is ↦ (added q).1 (inl (is, few q both.1))
    | inr isnt ↦ (added q).1 (inr ((are q).1 (omega (arith, both.0), both.1)))
  ]),
)

-- one more is not
pub waiting_places_not_found : (Q : ℕ → Type 0) (n : ℕ) (old new : List ℕ) → AreWaitingPlacesFound Q n old → new ≡ old → ¬ Q n
    → AreWaitingPlacesFound Q (n + 1) new
waiting_places_not_found Q n old new are same isnt q = (
  (λ has. (let both = (are q).0 (subst (λ (xs : List ℕ). Has xs q) same has) in (omega (arith, both.0), both.1))),
  (λ both. elim (cases_eq q n) [
    | inl is ↦ absurd (isnt (subst Q is both.1))
    | inr apart ↦ subst (λ (xs : List ℕ). Has xs q) (sym same) ((are q).1 (omega (arith, both.0), both.1))
  ]),
)

-- a number that is found is the place of a mark
waiting_place_of_has : (n : ℕ) (marks : List Bool) (x : ℕ) → Has (waiters_from n marks) x
    → (k : ℕ) × (slice_get marks k ≡ Some true) × (x ≡ n + k)
waiting_place_of_has n [] x has = absurd (joined_list_has-nil x has)
waiting_place_of_has n (true ∷ marks) x has = elim ((joined_list_has-cons n (waiters_from (n + 1) marks) x).0 has) [
  | inl is ↦ (0, refl, omega arith)
  | inr rest ↦ (let w = waiting_place_of_has (n + 1) marks x rest in (suc w.0, w.1, omega (arith, w.2)))
]
waiting_place_of_has n (false ∷ marks) x has =
    let w = waiting_place_of_has (n + 1) marks x has in (suc w.0, w.1, omega (arith, w.2))

waiting_place_has : (n : ℕ) (marks : List Bool) (k : ℕ) → slice_get marks k ≡ Some true → Has (waiters_from n marks) (n + k)
waiting_place_has n [] k at = absurd (none-some true at)
waiting_place_has n (true ∷ marks) zero at = let e : n ≡ n + 0 = omega arith in (0, ap (λ (m : ℕ). Some m) e)
waiting_place_has n (false ∷ marks) zero at = absurd cc
waiting_place_has n (true ∷ marks) (suc k) at =
    let e : n + 1 + k ≡ n + suc k = omega arith in
    (joined_list_has-cons n (waiters_from (n + 1) marks) (n + suc k)).1
    (inr (subst (λ (m : ℕ). Has (waiters_from (n + 1) marks) m) e (waiting_place_has (n + 1) marks k at)))
waiting_place_has n (false ∷ marks) (suc k) at =
    let e : n + 1 + k ≡ n + suc k = omega arith in
    subst (λ (m : ℕ). Has (waiters_from (n + 1) marks) m) e (waiting_place_has (n + 1) marks k at)

-- a number is found exactly if its place is marked
pub waiting_place_marked : (marks : List Bool) (q : ℕ) → Has (waiters_from 0 marks) q ↔ (slice_get marks q ≡ Some true)
waiting_place_marked marks q = (
  (λ has. (let w = waiting_place_of_has 0 marks q has in
      let is : w.0 ≡ q = omega (arith, w.2) in
      subst (λ (k : ℕ). slice_get marks k ≡ Some true) is w.1)),
  (λ at. (let e : 0 + q ≡ q = omega arith in
      subst (λ (m : ℕ). Has (waiters_from 0 marks) m) e (waiting_place_has 0 marks q at))),
)

-- a mark is set
pub waiting_place_added : (marks : List Bool) (p : ℕ) → p < length marks → (q : ℕ)
    → Has (waiters_from 0 (slice_set marks p true)) q ↔ (((q ≡ p) × (q < length marks)) ⊎ Has (waiters_from 0 marks) q)
waiting_place_added marks p lt q = (there, back)
  where
    at_place : (ms : List Bool) (k : ℕ) → slice_get ms k ≡ Some true → Has (waiters_from 0 ms) k
    at_place ms k at = let e : 0 + k ≡ k = omega arith in
        subst (λ (m : ℕ). Has (waiters_from 0 ms) m) e (waiting_place_has 0 ms k at)

    there : Has (waiters_from 0 (slice_set marks p true)) q → ((q ≡ p) × (q < length marks)) ⊎ Has (waiters_from 0 marks) q
    there has =
        let w = waiting_place_of_has 0 (slice_set marks p true) q has in
        let is : w.0 ≡ q = omega (arith, w.2) in
        elim (cases_eq q p) [
          | inl same ↦ inl (same, omega arith)
          | inr apart ↦ inr (at_place marks q (sym (slice_get-set_other marks p q true apart)
              ∙ subst (λ (m : ℕ). slice_get (slice_set marks p true) m ≡ Some true) is w.1))
        ]

    back : ((q ≡ p) × (q < length marks)) ⊎ Has (waiters_from 0 marks) q → Has (waiters_from 0 (slice_set marks p true)) q
    back (inl own) =
        subst (λ (m : ℕ). Has (waiters_from 0 (slice_set marks p true)) m) (sym own.0)
        (at_place (slice_set marks p true) p (slice_get-set_same marks p true lt))
    back (inr has) =
        let w = waiting_place_of_has 0 marks q has in
        let is : w.0 ≡ q = omega (arith, w.2) in
        elim (cases_eq q p) [
          | inl same ↦ subst (λ (m : ℕ). Has (waiters_from 0 (slice_set marks p true)) m) (sym same)
              (at_place (slice_set marks p true) p (slice_get-set_same marks p true lt))
          | inr apart ↦ at_place (slice_set marks p true) q (slice_get-set_other marks p q true apart
              ∙ subst (λ (m : ℕ). slice_get marks m ≡ Some true) is w.1)
        ]
