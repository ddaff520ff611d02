-- Places of which it may still be asked what a processor had stored in a page before them.
use Rattle.std.proofs.Common.{ℕ, ◌≡◌, ◌≢◌, ◌<◌, ◌≤◌, ◌⊎◌, inl, inr, List, [], ◌∷◌, ◌++◌, length, refl, sym, ap, ◌∙◌, subst, arith}
use Rattle.std.proofs.lemmas.Bool.{cases_eq}
use Rattle.journal.specs.declared.event.Event.{Event}
use Rattle.journal.specs.declared.event.Kind.{Kind}
use Rattle.journal.specs.declared.event.Kind.TheVariants.{Fetch, Store}
use Rattle.journal.specs.BroughtCopy.{BroughtToCopy}
use Rattle.journal.specs.DidEvent.{did, event}
use Rattle.journal.specs.Pasts.{InPast}
use Rattle.journal.specs.Sizes.{Sizes}
use Rattle.journal.proofs.CopyOfPage.Brought.{brought_longer, brought_push}
use Rattle.journal.proofs.CopyOfPage.PageStores.{page_stores_to}
use Rattle.journal.proofs.Order.EventPlacesAndCounts.{event_place_at_end, event_place_inside, event_place_longer}
use Rattle.journal.proofs.Order.IntoPast.{into_past_longer, into_past_reaches_new}
use Rattle.judge.specs.Cuts.{IsCutOf}
use Rattle.judge.specs.DueCounts.{IsDueFetchedCut}
use Rattle.judge.specs.StoredSteps.{IsStoredAsked, IsStoredAt, MayAskStored}
use Rattle.judge.proofs.StoredLimits.{stored_limit_of_cut, stored_limit_shorter}

-- ---- stores of the page

pub stored_asks_inside : {s : Sizes} {j : List Event} {n q : ℕ} (i : ℕ) → IsStoredAt s j n q i → i < length j
stored_asks_inside {j = j} {q = q} i at = event_place_inside j i (event q (Store at.address at.value)) at.does

pub stored_asks_longer : {s : Sizes} {j : List Event} {n q : ℕ} (e : Event) (i : ℕ) → IsStoredAt s j n q i
    → IsStoredAt s (j ++ e ∷ []) n q i
stored_asks_longer {j = j} {q = q} e i at = record {
  address = at.address;
  value = at.value;
  does = event_place_longer j (e ∷ []) i (event q (Store at.address at.value)) at.does;
  in_page = at.in_page;
}

-- ---- what is asked after one event more was asked before it

-- it is a fetch of page n, or isn't
stored_asks_kind_fetches : (k : Kind) (n : ℕ)
    → ((w : ℕ) × (r : ℕ) × (d : ℕ) × (k ≡ Fetch w n r d)) ⊎ ((w r d : ℕ) → k ≢ Fetch w n r d)
stored_asks_kind_fetches (Fetch w m r d) n = elim (cases_eq m n) [
  | inl is ↦ inl (w, r, d, ap (λ x. Fetch w x r d) is)
  | inr isnt ↦ inr (λ v s c same. isnt cc)
]
stored_asks_kind_fetches k n = inr (λ w r d same. cc)

-- it is p's fetch of page n, or isn't
stored_asks_fetches : (e : Event) (p n : ℕ)
    → ((w : ℕ) × (r : ℕ) × (d : ℕ) × (e ≡ event p (Fetch w n r d))) ⊎ ((w r d : ℕ) → e ≢ event p (Fetch w n r d))
stored_asks_fetches e p n = elim (cases_eq e.processor p) [
  | inl mine ↦ elim (stored_asks_kind_fetches e.kind n) [
    | inl f ↦ inl (f.0, f.1, f.2, ap (λ x. event x e.kind) mine ∙ ap (event p) f.3)
    | inr none ↦ inr (λ w r d is. none w r d (ap (λ (x : Event). x.kind) is))
  ]
  | inr other ↦ inr (λ w r d is. other (ap (λ (x : Event). x.processor) is))
]

-- a fetch brings what its processor knows
stored_asks_brought_now : (j : List Event) (p n w r d i : ℕ) → InPast j p i → BroughtToCopy (did j p (Fetch w n r d)) p n i
stored_asks_brought_now j p n w r d i past =
    let e = event p (Fetch w n r d) in
    inr (length j, (w, r, d, event_place_at_end j e), (into_past_reaches_new j e i refl).1 past)

pub stored_asks_shorter : {s : Sizes} {j : List Event} {n q v : ℕ} (e : Event) → v ≤ length j → IsStoredAsked s (j ++ e ∷ []) n q v
    → IsStoredAsked s j n q v
stored_asks_shorter {s = s} {j = j} {n = n} {q = q} {v = v} e top asked = record {
  limit = stored_limit_shorter j (e ∷ []) q v top asked.limit;
  by = asked.by;
  present = asked.present;
  other = asked.other;
  may = may;
}
  where
    p : ℕ
    p = asked.by

    may : MayAskStored s j p n q v
    may = elim asked.may [
      | inl known ↦ inl (λ i at past. known i (stored_asks_longer e i at) (into_past_longer j (e ∷ []) p i past))
      | inr had ↦ elim (stored_asks_fetches e p n) [
        | inl f ↦ inl (λ i at past. (had i (stored_asks_longer e i at)).0
            (subst (λ x. BroughtToCopy (j ++ x ∷ []) p n i) (sym f.3) (stored_asks_brought_now j p n f.0 f.1 f.2 i past)))
        | inr none ↦ inr (λ i at. let was = had i (stored_asks_longer e i at) in (
          λ b. was.0 (brought_longer j (e ∷ []) p n i b),
          λ lt. elim (brought_push s j e p n i none (page_stores_to s (j ++ e ∷ []) n i q at.address at.value
              (event_place_longer j (e ∷ []) i (event q (Store at.address at.value)) at.does) at.in_page) (was.1 lt)) [
                | inl old ↦ old
                | inr new ↦ absurd (let last = new.0 in omega arith)
              ],
        ))
      ]
    ]

-- ---- what is asked by a fetch that comes next

-- what its processor knows
pub stored_asks_of_cut : {s : Sizes} {j : List Event} {p : ℕ} {t : ℕ → ℕ} (n q : ℕ) → IsCutOf j p t → p < s.processors → q ≢ p
    → IsStoredAsked s j n q (t q)
stored_asks_of_cut {p = p} n q cut lt apart = record {
  limit = stored_limit_of_cut cut q apart;
  by = p;
  present = lt;
  other = apart;
  may = inl (λ i at past. (cut.covers i (event q (Store at.address at.value)) at.does apart).0 past);
}

-- and what it knew at its last fetch of the page
pub stored_asks_of_fetched : {s : Sizes} {j : List Event} {p n : ℕ} {t : ℕ → ℕ} (q : ℕ) → IsDueFetchedCut s j p n t → p < s.processors
    → q ≢ p → IsStoredAsked s j n q (t q)
stored_asks_of_fetched {p = p} q fetched lt apart = record {
  limit = fetched.limits q apart;
  by = p;
  present = lt;
  other = apart;
  may = inr (λ i at. fetched.brought q i at.address at.value apart at.does at.in_page);
}
