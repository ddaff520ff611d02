-- When a copy's gap doesn't grow, and when it is empty.
use Rattle.std.proofs.Common.{◌≡◌, ℕ, inl, inr, List, [], ◌∷◌, ◌++◌, length, false, subst, sym, refl, ap, ◌∙◌}
use Rattle.base.proofs.SlicesAndCounts.{slice_push_cases}
use Rattle.journal.specs.declared.event.Event.{Event}
use Rattle.journal.specs.declared.event.Kind.TheVariants.{Fetch}
use Rattle.journal.specs.BroughtCopy.{BroughtCopyHasNoGap}
use Rattle.journal.specs.DidEvent.{did, event}
use Rattle.journal.specs.Events.{EventAt, event_interval_at, event_takes}
use Rattle.journal.specs.PageImages.{GapCounts, InGap, StoredInGapOfPageImage}
use Rattle.journal.specs.Pasts.{InPast}
use Rattle.journal.specs.Sizes.{Sizes}
use Rattle.journal.proofs.CopyOfPage.Brought.{brought_gap_is, brought_longer}
use Rattle.journal.proofs.CopyOfPage.PageStores.{page_stores_shorter}
use Rattle.journal.proofs.Order.EventPlacesAndCounts.{event_place_at_end}
use Rattle.journal.proofs.Order.IntoPast.{into_past_own_push, into_past_reaches_push, into_past_up_to_shorter, into_past_within}
use Rattle.judge.proofs.ValueCounts.{value_count_none, value_count_zero}

-- by an event by which p takes nothing
pub gap_shrinks : (s : Sizes) (j : List Event) (e : Event) (p n i : ℕ) → (e.processor ≡ p → event_takes e.kind ≡ false)
    → InGap s (j ++ e ∷ []) p n i → InGap s j p n i
gap_shrinks s j e p n i quiet g = elim (slice_push_cases j e g.past.own g.past.event g.past.at) [
  | inl a ↦ within (record {
    own = g.past.own;
    event = g.past.event;
    at = a.1;
    mine = g.past.mine;
    reaches = into_past_up_to_shorter j (e ∷ []) g.past.own i a.0 g.past.reaches;
  })
  | inr b ↦
      (let mine : e.processor ≡ p = ap (λ (f : Event). f.processor) b.1 ∙ g.past.mine in
      elim ((into_past_own_push j e i (quiet mine)).0 (subst (λ q. InPast (j ++ e ∷ []) q i) (sym mine) g.past)) [
        | inl past ↦ within (subst (λ q. InPast j q i) mine past)
        | inr is ↦ absurd (g.others (e, subst (λ m. EventAt (j ++ e ∷ []) m e) (sym is) (event_place_at_end j e), mine))
      ])
]
  where
    within : InPast j p i → InGap s j p n i
    within past =
        (brought_gap_is s j p n i).1 (
          past,
          page_stores_shorter s j (e ∷ []) n i (into_past_within j p i past) g.store,
          λ b.
              ((brought_gap_is s (j ++ e ∷ []) p n i).0 g).2 (brought_longer j (e ∷ []) p n i b),
        )

-- so a copy that lacks nothing goes on to lack nothing
pub no_gap_on : (s : Sizes) (j : List Event) (e : Event) (p n : ℕ) → (e.processor ≡ p → event_takes e.kind ≡ false)
    → BroughtCopyHasNoGap s j p n → BroughtCopyHasNoGap s (j ++ e ∷ []) p n
no_gap_on s j e p n quiet none i g = none i (gap_shrinks s j e p n i quiet g)

-- after a fetch it lacks nothing
pub no_gap_fetched : (s : Sizes) (j : List Event) (p n w r d : ℕ) → BroughtCopyHasNoGap s (did j p (Fetch w n r d)) p n
no_gap_fetched s j p n w r d i g = elim ((into_past_own_push j e i refl).0 g.past) [
  | inl past ↦ g.new (length j) (w, r, d, event_place_at_end j e) ((into_past_reaches_push j e i).1 (inl past))
  | inr is ↦ g.others (e, subst (λ m. EventAt (j ++ e ∷ []) m e) (sym is) (event_place_at_end j e), refl)
]
  where
    e : Event
    e = event p (Fetch w n r d)

-- nor if no record is counted
pub no_gap_counted : (s : Sizes) (j : List Event) (p n w d : ℕ) → GapCounts s j p n w 0 d → BroughtCopyHasNoGap s j p n
no_gap_counted s j p n w d counts i g =
    value_count_zero (λ (x : ℕ × ℕ). (a : ℕ) × StoredInGapOfPageImage s j p n (x.0, x.1, a))
    (g.store.by, event_interval_at j g.store.by i) counts.records_are (g.store.address, (i, g.store.value, g.store.does, g, refl))

-- then nothing is counted
pub no_gap_counts : (s : Sizes) (j : List Event) (p n : ℕ) → BroughtCopyHasNoGap s j p n → GapCounts s j p n 0 0 0
no_gap_counts s j p n none = record {
  writers_are = value_count_none (λ (q : ℕ). (k : ℕ) × (a : ℕ) × StoredInGapOfPageImage s j p n (q, k, a)) (λ q x. none x.2.0 x.2.3);
  records_are = value_count_none (λ (x : ℕ × ℕ). (a : ℕ) × StoredInGapOfPageImage s j p n (x.0, x.1, a)) (λ x y. none y.1.0 y.1.3);
  words_are = value_count_none (StoredInGapOfPageImage s j p n) (λ x y. none y.0 y.3);
}
