-- The counts of fetches.
use Rattle.std.proofs.Common.{ℕ, ◌≡◌, ◌≢◌, ◌<◌, ◌↔◌, inl, inr, List, [], ◌∷◌, ◌++◌, Some, length, arith, sym, ap, subst, ◌∙◌, append_assoc, append-nil}
use Rattle.std.proofs.lemmas.Option.{none-some}
use Rattle.std.proofs.lemmas.List.{take-append-le}
use Rattle.std.proofs.Math.Seq.{take-append_seam}
use Rattle.journal.specs.declared.event.Event.{Event}
use Rattle.journal.specs.declared.event.Kind.TheVariants.{Fetch}
use Rattle.journal.specs.DidEvent.{event}
use Rattle.journal.specs.Sizes.{Sizes}
use Rattle.journal.specs.Events.{EventAt}
use Rattle.journal.specs.WellFormed.{Does}
use Rattle.journal.specs.PageImages.{InGap, HasPageImageCount, StoredInGapOfPageImage, GapCounts}
use Rattle.journal.proofs.OwnBlocks.{IsBlock}
use Rattle.journal.specs.FetchesCountGaps.{FetchesCountGaps, BlockFetchesCountGaps}
use Rattle.base.proofs.SlicesAndCounts.{slice_push_cases, slice_push_induction}
use Rattle.journal.proofs.Order.EventPlacesAndCounts.{event_place_inside, event_place_longer, event_place_shorter, event_place_at_end}
use Rattle.journal.proofs.Order.BlockPasts.{block_pasts_front, block_pasts_last}
use Rattle.journal.proofs.CopyOfPage.CompleteCopies.{complete_copy_block_gap}
use Rattle.journal.proofs.Missing.MissingGaps.{missing_gaps_of_others, missing_gap_stored_longer}

-- a count of other values that are the same
pub gaps_counted_same : {A : Type 0} (values others : A → Type 0) (n : ℕ) → ((x : A) → values x ↔ others x)
    → HasPageImageCount values n → HasPageImageCount others n
gaps_counted_same values others n same c =
    record {
      list = c.list;
      each = λ x. (λ h. (same x).0 ((c.each x).0 h), λ v. (c.each x).1 ((same x).1 v));
      once = c.once;
      length_is = c.length_is;
    }

-- events that leave the gap leave its counts
pub gaps_counted_on : {s : Sizes} {j : List Event} {p n w r d : ℕ} → GapCounts s j p n w r d → (es : List Event)
    → ((i : ℕ) → InGap s (j ++ es) p n i ↔ InGap s j p n i) → GapCounts s (j ++ es) p n w r d
gaps_counted_on {s} {j} {p} {n} {w} {r} {d} c es same = record {
  writers_are =
      gaps_counted_same (λ (q : ℕ). (k : ℕ) × (a : ℕ) × StoredInGapOfPageImage s j p n (q, k, a))
      (λ (q : ℕ). (k : ℕ) × (a : ℕ) × StoredInGapOfPageImage s (j ++ es) p n (q, k, a)) w
      (λ q. (λ x. (x.0, x.1, (on (q, x.0, x.1)).1 x.2), λ x. (x.0, x.1, (on (q, x.0, x.1)).0 x.2))) c.writers_are;
  records_are =
      gaps_counted_same (λ (x : ℕ × ℕ). (a : ℕ) × StoredInGapOfPageImage s j p n (x.0, x.1, a))
      (λ (x : ℕ × ℕ). (a : ℕ) × StoredInGapOfPageImage s (j ++ es) p n (x.0, x.1, a)) r
      (λ x. (λ g. (g.0, (on (x.0, x.1, g.0)).1 g.1), λ g. (g.0, (on (x.0, x.1, g.0)).0 g.1))) c.records_are;
  words_are =
      gaps_counted_same (StoredInGapOfPageImage s j p n) (StoredInGapOfPageImage s (j ++ es) p n) d (λ z. ((on z).1, (on z).0)) c.words_are;
}
  where
    on : (z : ℕ × ℕ × ℕ) → StoredInGapOfPageImage s (j ++ es) p n z ↔ StoredInGapOfPageImage s j p n z
    on = missing_gap_stored_longer s j es p n same

-- so others' events
pub gaps_counted_others : {s : Sizes} {j : List Event} {p n w r d : ℕ} → GapCounts s j p n w r d → (es : List Event)
    → ((k : ℕ) (e : Event) → EventAt es k e → e.processor ≢ p) → GapCounts s (j ++ es) p n w r d
gaps_counted_others {s} {j} {p} {n} c es away = gaps_counted_on c es (λ i. missing_gaps_of_others s j es p n i away)

-- a journal without events has no fetch
pub gaps_counted_start : (s : Sizes) → FetchesCountGaps s []
gaps_counted_start s k p n w r d f = absurd (none-some (event p (Fetch w n r d)) f)

-- one more event, which counts its gap if it is a fetch
pub gaps_counted_push : (s : Sizes) (j : List Event) (e : Event)
    → ((p n w r d : ℕ) → e ≡ event p (Fetch w n r d) → GapCounts s j p n w r d) → FetchesCountGaps s j
    → FetchesCountGaps s (j ++ e ∷ [])
gaps_counted_push s j e new old k p n w r d f = elim (slice_push_cases j e k (event p (Fetch w n r d)) f) [
  | inl h ↦ (let within : k < length j = h.0 in rw (take-append-le k j (e ∷ []) (omega arith)) (old k p n w r d h.1))
  | inr h ↦ rw (h.0, take-append_seam j (e ∷ [])) (new p n w r d h.1)
]

-- a block without events has no fetch
pub gaps_counted_block_start : (s : Sizes) (j : List Event) (p : ℕ) → BlockFetchesCountGaps s j [] p
gaps_counted_block_start s j p =
    record {
      counts = λ k n w r d f. absurd (none-some (event p (Fetch w n r d)) f);
      first = λ i k n w r d w' r' d' less f. absurd (none-some (event p (Fetch w n r d)) f);
    }

-- others' events leave what a block's fetches count
pub gaps_counted_block_others : (s : Sizes) (j es block : List Event) (p : ℕ)
    → ((k : ℕ) (e : Event) → EventAt es k e → e.processor ≢ p) → BlockFetchesCountGaps s j block p → BlockFetchesCountGaps s (j ++ es) block p
gaps_counted_block_others s j es block p away c =
    record { counts = λ k n w r d f. gaps_counted_others (c.counts k n w r d f) es away; first = c.first }

-- a further event of the block: if it is a fetch, it counts the gap before the block, and is the first of its page
pub gaps_counted_block_push : (s : Sizes) (j block : List Event) (e : Event) (p : ℕ)
    → ((n w r d : ℕ) → e ≡ event p (Fetch w n r d)
    → GapCounts s j p n w r d × ((i w' r' d' : ℕ) → ¬ Does block i p (Fetch w' n r' d')))
    → BlockFetchesCountGaps s j block p → BlockFetchesCountGaps s j (block ++ e ∷ []) p
gaps_counted_block_push s j block e p new c = record { counts = counts; first = first }
  where
    counts : (k n w r d : ℕ) → Does (block ++ e ∷ []) k p (Fetch w n r d) → GapCounts s j p n w r d
    counts k n w r d f =
        elim (slice_push_cases block e k (event p (Fetch w n r d)) f)
        [ inl h ↦ c.counts k n w r d h.1 | inr h ↦ (new n w r d h.1).0 ]

    first : (i k n w r d w' r' d' : ℕ) → i < k → Does (block ++ e ∷ []) k p (Fetch w n r d)
        → ¬ Does (block ++ e ∷ []) i p (Fetch w' n r' d')
    first i k n w r d w' r' d' less f g = elim (slice_push_cases block e k (event p (Fetch w n r d)) f) [
      | inl h ↦ (let within : k < length block = h.0 in
          c.first i k n w r d w' r' d' less h.1
          (event_place_shorter block (e ∷ []) i (event p (Fetch w' n r' d')) (omega arith) g))
      | inr h ↦ (let last : k ≡ length block = h.0 in
          (new n w r d h.1).1 i w' r' d'
          (event_place_shorter block (e ∷ []) i (event p (Fetch w' n r' d')) (omega arith) g))
    ]

-- a block whose fetches count so is counted behind a counted journal
pub gaps_counted_block : (s : Sizes) (j block : List Event) (p : ℕ) → IsBlock p block → BlockFetchesCountGaps s j block p
    → FetchesCountGaps s j → FetchesCountGaps s (j ++ block)
gaps_counted_block s j block p is c old =
    slice_push_induction (λ es. IsBlock p es → BlockFetchesCountGaps s j es p → FetchesCountGaps s (j ++ es)) (λ _ _. rw append-nil old)
    step block is c
  where
    front : (es : List Event) (e : Event) → BlockFetchesCountGaps s j (es ++ e ∷ []) p → BlockFetchesCountGaps s j es p
    front es e x = record {
      counts = λ k n w r d f. x.counts k n w r d (event_place_longer es (e ∷ []) k (event p (Fetch w n r d)) f);
      first =
          λ i k n w r d w' r' d' less f g. x.first i k n w r d w' r' d' less
          (event_place_longer es (e ∷ []) k (event p (Fetch w n r d)) f)
          (event_place_longer es (e ∷ []) i (event p (Fetch w' n r' d')) g);
    }

    last : (es : List Event) (e : Event) → IsBlock p (es ++ e ∷ []) → BlockFetchesCountGaps s j (es ++ e ∷ []) p
        → (q n w r d : ℕ) → e ≡ event q (Fetch w n r d) → GapCounts s (j ++ es) q n w r d
    last es e more x q n w r d i =
        let mine : q ≡ p = sym (ap (λ (f : Event). f.processor) i) ∙ (block_pasts_last p es e more).0 in
        let fetch : ℕ → Event = λ m. event m (Fetch w n r d) in
        let own : Does (es ++ e ∷ []) (length es) p (Fetch w n r d) = event_place_at_end es e ∙ ap Some (i ∙ ap fetch mine) in
        let P : ℕ → Type 0 = λ m. GapCounts s (j ++ es) m n w r d in
        subst P (sym mine) (gaps_counted_on (x.counts (length es) n w r d own) es
        (λ k. complete_copy_block_gap s j es p n k (block_pasts_front p es (e ∷ []) more)
        (λ m w' r' d' g. x.first m (length es) n w r d w' r' d'
        (event_place_inside es m (event p (Fetch w' n r' d')) g) own
        (event_place_longer es (e ∷ []) m (event p (Fetch w' n r' d')) g))))

    step : (es : List Event) (e : Event) → (IsBlock p es → BlockFetchesCountGaps s j es p → FetchesCountGaps s (j ++ es))
        → IsBlock p (es ++ e ∷ []) → BlockFetchesCountGaps s j (es ++ e ∷ []) p → FetchesCountGaps s (j ++ (es ++ e ∷ []))
    step es e ih more x =
        rw (← append_assoc j es (e ∷ []))
        (gaps_counted_push s (j ++ es) e (last es e more x) (ih (block_pasts_front p es (e ∷ []) more) (front es e x)))
