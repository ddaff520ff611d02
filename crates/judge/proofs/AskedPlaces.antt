-- Places of which it may still be asked, a processor at a time.
use Rattle.std.proofs.Common.{ℕ, ◌≡◌, ◌≢◌, ◌+◌, inl, inr, min, List, [], ◌∷◌, ◌++◌, length, sym, refl, subst, arith}
use Rattle.std.proofs.lemmas.Bool.{cases_eq, cases_lt}
use Rattle.base.specs.InOrderOnce.{Has}
use Rattle.base.proofs.JoinedLists.{joined_list_has-append, joined_list_has-cons, joined_list_has-nil}
use Rattle.journal.specs.declared.event.Event.{Event}
use Rattle.journal.specs.Sizes.{Sizes}
use Rattle.judge.specs.declared.asked_places.AskedPlaces.{AskedPlaces}
use Rattle.judge.specs.AskedPlaces.{AreAskedPlaces, IsAskedEntry, IsAskedFetch}
use Rattle.judge.specs.Cuts.{IsCutOf}
use Rattle.judge.specs.DueCounts.{IsDueFetchedCut}

-- before the first processor there is none but the end
pub asked_places_start : (s : Sizes) (j : List Event) (n q : ℕ) (asked : AskedPlaces) → asked.all_from ≡ length j
    → asked.fetched.items ≡ [] → AreAskedPlaces s j n q 0 asked
asked_places_start s j n q asked end none = record {
  known = λ p lt. absurd (omega arith);
  least = inl end;
  fetched = λ p lt. absurd (omega arith);
  only = λ v h. absurd (joined_list_has-nil v (subst (λ xs. Has xs v) none h));
}

asked_places_entry_more : {j : List Event} {q count v : ℕ} → IsAskedEntry j q count v → IsAskedEntry j q (count + 1) v
asked_places_entry_more h = let lt = h.1 in (h.0, omega arith, h.2, h.3)

asked_places_fetch_more : {s : Sizes} {j : List Event} {n q count v : ℕ} → IsAskedFetch s j n q count v → IsAskedFetch s j n q (count + 1) v
asked_places_fetch_more h = let lt = h.1 in (h.0, omega arith, h.2, h.3)

-- the processor itself is passed over
pub asked_places_own : (s : Sizes) (j : List Event) (n q p : ℕ) (asked : AskedPlaces) → p ≡ q → AreAskedPlaces s j n q p asked
    → AreAskedPlaces s j n q (p + 1) asked
asked_places_own s j n q p asked own are = record {
  known = λ r lt other. are.known r (omega (arith, lt, other, own)) other;
  least = elim are.least [ inl end ↦ inl end | inr h ↦ inr (asked_places_entry_more h) ];
  fetched = λ r lt other. are.fetched r (omega (arith, lt, other, own)) other;
  only = λ v h. asked_places_fetch_more (are.only v h);
}

-- another one's places are added
pub asked_places_add : {s : Sizes} {j : List Event} {n q p : ℕ} {old new : AskedPlaces} {t u : ℕ → ℕ} → q ≢ p → IsCutOf j p t
    → IsDueFetchedCut s j p n u → new.all_from ≡ min old.all_from (t q) → new.fetched.items ≡ old.fetched.items ++ u q ∷ []
    → AreAskedPlaces s j n q p old → AreAskedPlaces s j n q (p + 1) new
asked_places_add {s = s} {j = j} {n = n} {q = q} {p = p} {old = old} {new = new} {t = t} {u = u} apart cut had least more are = record {
  known = λ r lt other. elim (cases_eq r p) [
    | inl is ↦ (t, subst (λ x. IsCutOf j x t) (sym is) cut, omega (arith, least))
    | inr isnt ↦
        (let was = are.known r (omega arith) other in let le = was.2 in (was.0, was.1, omega (arith, least, le)))
  ];
  least = elim (cases_lt (t q) old.all_from) [
    | inl lt ↦ inr (p, omega arith, apart, (t, cut, omega (arith, least, lt)))
    | inr le ↦
        (let same : new.all_from ≡ old.all_from = omega (arith, least, le) in
        elim are.least [
          | inl end ↦ inl (omega (arith, same, end))
          | inr h ↦ inr (subst (IsAskedEntry j q (p + 1)) (sym same) (asked_places_entry_more h))
        ])
  ];
  fetched = λ r lt other. elim (cases_eq r p) [
    | inl is ↦ (
      u,
      subst (λ x. IsDueFetchedCut s j x n u) (sym is) had,
      subst (λ xs. Has xs (u q)) (sym more) ((joined_list_has-append old.fetched.items (u q ∷ []) (u q)).1 (inr (0, refl))),
    )
    | inr isnt ↦
        (let was = are.fetched r (omega arith) other in (
          was.0,
          was.1,
          subst (λ xs. Has xs (was.0 q)) (sym more) ((joined_list_has-append old.fetched.items (u q ∷ []) (was.0 q)).1 (inl was.2)),
        ))
  ];
  only = λ v h. elim ((joined_list_has-append old.fetched.items (u q ∷ []) v).0 (subst (λ xs. Has xs v) more h)) [
    | inl was ↦ asked_places_fetch_more (are.only v was)
    | inr now ↦ elim ((joined_list_has-cons (u q) [] v).0 now) [
      | inl is ↦ (p, omega arith, apart, (u, had, sym is))
      | inr none ↦ absurd (joined_list_has-nil v none)
    ]
  ];
}
