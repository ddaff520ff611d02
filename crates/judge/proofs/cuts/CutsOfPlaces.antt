-- Cuts over sets of places: what they cover stays as the history goes on, and cuts are joined entry by entry.
use Rattle.std.proofs.Common.{◌≡◌, ℕ, ◌<◌, ◌≤◌, max, ◌⊎◌, inl, inr, ◌↔◌, List, [], ◌++◌, length, length-append, arith}
use Rattle.std.proofs.lemmas.Bool.{cases_lt}
use Rattle.std.proofs.lemmas.Option.{slice_get_within}
use Rattle.journal.specs.declared.event.Event.{Event}
use Rattle.journal.specs.Events.{EventAt}
use Rattle.journal.proofs.Order.EventPlacesAndCounts.{event_place_shorter}
use Rattle.judge.specs.Cuts.{IsCutIn}

-- t, with its entries raised to u's
abbrev pub IsRaisedCut : (ℕ → ℕ) → (ℕ → ℕ) → (ℕ → ℕ) → Type 0
IsRaisedCut t u v = (q : ℕ) → v q ≡ max (t q) (u q)

-- it is raised to no more than both
pub raised_cut_within : (n : ℕ) (t u v : ℕ → ℕ) → IsRaisedCut t u v → ((q : ℕ) → t q ≤ n) → ((q : ℕ) → u q ≤ n)
    → (q : ℕ) → v q ≤ n
raised_cut_within n t u v raised old other q =
    let x = old q in let y = other q in let is = raised q in omega arith

-- before the first event zeros are the cut of any places
pub cut_of_places_start : (among : ℕ → Type 0) (t : ℕ → ℕ) → ((q : ℕ) → t q ≡ 0) → IsCutIn [] among t
cut_of_places_start among t zeros = record {
  covers = λ i e at. (let lt = slice_get_within [] i e at in absurd (omega arith));
  within = λ q. (let zero = zeros q in omega arith);
}

-- equal sets have equal cuts
pub cut_of_places_same : (j : List Event) (some others : ℕ → Type 0) (t : ℕ → ℕ) → ((i : ℕ) → some i ↔ others i)
    → IsCutIn j some t → IsCutIn j others t
cut_of_places_same j some others t is a = record {
  covers = λ i e at. ((λ h. (a.covers i e at).0 ((is i).1 h)), (λ lt. (is i).0 ((a.covers i e at).1 lt)));
  within = a.within;
}

-- equal entries are one cut
pub cut_of_places_equal : (j : List Event) (some : ℕ → Type 0) (t u : ℕ → ℕ) → ((q : ℕ) → t q ≡ u q) → IsCutIn j some t
    → IsCutIn j some u
cut_of_places_equal j some t u is a = record {
  covers = λ i e at. (let same = is e.processor in
      (λ h. (let lt = (a.covers i e at).0 h in omega arith), λ lt. (a.covers i e at).1 (omega arith)));
  within = λ q. (let same = is q in let within = a.within q in omega arith);
}

-- a set of places keeps its cut as the history goes on
pub cut_of_places_longer : (j es : List Event) (some others : ℕ → Type 0) (t : ℕ → ℕ) → ((i : ℕ) → some i ↔ others i)
    → ((i : ℕ) → some i → i < length j) → IsCutIn j some t → IsCutIn (j ++ es) others t
cut_of_places_longer j es some others t is inside a = record { covers = covers; within = within }
  where
    covers : (i : ℕ) (e : Event) → EventAt (j ++ es) i e → others i ↔ (i < t e.processor)
    covers i e at = elim (cases_lt i (length j)) [
      | inl lt ↦
          (let here = a.covers i e (event_place_shorter j es i e lt at) in
          (λ h. here.0 ((is i).1 h), λ below. (is i).0 (here.1 below)))
      | inr le ↦
          (let top = a.within e.processor in
          (λ h. (let lt = inside i ((is i).1 h) in absurd (omega arith)), λ below. absurd (omega arith)))
    ]

    within : (q : ℕ) → t q ≤ length (j ++ es)
    within q = let top = a.within q in let sum = length-append j es in omega arith

-- the places of both sets: the one's cut, raised to the other's
pub cut_of_places_joined : {j : List Event} {some others : ℕ → Type 0} {t u v : ℕ → ℕ}
    → IsRaisedCut t u v → IsCutIn j some t → IsCutIn j others u → IsCutIn j (λ i. some i ⊎ others i) v
cut_of_places_joined {j} {some} {others} {t} {u} {v} raised a b = record {
  covers = λ i e at. (there i e at, back i e at);
  within = raised_cut_within (length j) t u v raised a.within b.within;
}
  where
    there : (i : ℕ) (e : Event) → EventAt j i e → some i ⊎ others i → i < v e.processor
    there i e at (inl h) =
        let lt = (a.covers i e at).0 h in
        let is = raised e.processor in
        omega arith
    there i e at (inr h) =
        let lt = (b.covers i e at).0 h in
        let is = raised e.processor in
        omega arith

    back : (i : ℕ) (e : Event) → EventAt j i e → i < v e.processor → some i ⊎ others i
    back i e at lt = let is = raised e.processor in elim (cases_lt i (t e.processor)) [
      | inl below ↦ inl ((a.covers i e at).1 below)
      | inr above ↦ inr ((b.covers i e at).1 (omega arith))
    ]
