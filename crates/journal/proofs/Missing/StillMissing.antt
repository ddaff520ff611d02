-- What each kind of event does to the missing intervals.
use Rattle.std.proofs.Common.{ℕ, ◌≡◌, ◌≢◌, ◌<◌, ◌≤◌, ◌⊎◌, ◌↔◌, ◌/◌, inl, inr, List, [], ◌∷◌, ◌++◌, arith, refl, sym, ap, ◌∙◌, le_of_lt, true≢false}
use Rattle.base.proofs.SlicesAndCounts.{slice_push_cases}
use Rattle.journal.specs.declared.event.Event.{Event}
use Rattle.journal.specs.declared.event.Kind.{Kind}
use Rattle.journal.specs.declared.event.Kind.TheVariants.{Store, Fetch}
use Rattle.journal.specs.DidEvent.{event}
use Rattle.journal.specs.Sizes.{Sizes}
use Rattle.journal.specs.Events.{EventAt, event_closes, event_takes, event_interval_at}
use Rattle.journal.specs.WellFormed.{Does}
use Rattle.journal.specs.PageImages.{InGap, StoredInGapOfPageImage}
use Rattle.journal.specs.BroughtCopy.{BroughtCopyHasNoGap}
use Rattle.journal.proofs.OwnBlocks.{IsBlock}
use Rattle.journal.specs.IntervalContents.{IntervalContentHas, IsIntervalContent}
use Rattle.journal.specs.MissingIntervals.{MissingInterval, AreMissingIntervals, AreMissingIntervalsOfNotices}
use Rattle.base.specs.InOrderOnce.{Has}
use Rattle.base.proofs.JoinedLists.{joined_list_has-nil, joined_list_has-append}
use Rattle.journal.proofs.Order.EventPlacesAndCounts.{event_place_inside, event_place_longer, event_count-front, event_count-inside}
use Rattle.journal.proofs.CopyOfPage.PageStores.{page_store_same}
use Rattle.journal.proofs.CopyOfPage.CompleteCopies.{complete_copy_block_gap}
use Rattle.journal.proofs.Missing.ClosingRanks.{closing_rank_longer}
use Rattle.journal.proofs.Missing.MissingGaps.{LearnsMissingGap, missing_gaps_apart, missing_gaps_of_others, missing_gap_taken, missing_gap_stored_longer}
use Rattle.journal.proofs.Intervals.StoreContents.{store_contents_on, store_contents_closed}

-- nothing is missing where there is no gap
pub still_missing_none : (s : Sizes) (j : List Event) (p n : ℕ) → BroughtCopyHasNoGap s j p n → AreMissingIntervals s j p n []
still_missing_none s j p n none =
    record {
      each = λ q k. (λ x. absurd (joined_list_has-nil x.0 x.1), λ x. absurd (none x.1.0 x.1.3));
      placed = λ x h. absurd (joined_list_has-nil x h);
      contents = λ x h. absurd (joined_list_has-nil x h);
    }

-- and there is one where something is
pub still_missing_some : (s : Sizes) (j : List Event) (p n : ℕ) (x : MissingInterval) (missing : List MissingInterval)
    → AreMissingIntervals s j p n (x ∷ missing) → (i : ℕ) × InGap s j p n i
still_missing_some s j p n x missing are =
    let g = (are.each x.owner x.number).0 (x, (0, refl), refl, refl) in (g.1.0, g.1.3)

-- another list of the same intervals
pub still_missing_same : (s : Sizes) (j : List Event) (p n : ℕ) (missing other : List MissingInterval)
    → ((x : MissingInterval) → Has missing x ↔ Has other x) → AreMissingIntervals s j p n missing → AreMissingIntervals s j p n other
still_missing_same s j p n missing other same are = record {
  each =
      λ q k. (
        λ x. (are.each q k).0 (x.0, (same x.0).1 x.1, x.2, x.3),
        λ g. let x = (are.each q k).1 g in
            (x.0, (same x.0).0 x.1, x.2, x.3),
      );
  placed = λ x h. are.placed x ((same x).1 h);
  contents = λ x h. are.contents x ((same x).1 h);
}

-- what the missing intervals come to stays
still_missing_contents_on : (s : Sizes) (j es : List Event) (p n : ℕ) (missing : List MissingInterval) → AreMissingIntervals s j p n missing
    → (x : MissingInterval) → Has missing x → IsIntervalContent s (j ++ es) x.owner x.number n x.words
still_missing_contents_on s j es p n missing are x h =
    let c = are.placed x h in
    let inside = event_count-inside event_closes j c.at x.owner c.closes.kind c.closes.does c.closes.closes in
    let number = c.number in
    store_contents_closed s j es x.owner x.number n x.words (omega arith) (are.contents x h)

-- events that leave the gap leave the missing intervals
pub still_missing_on : (s : Sizes) (j es : List Event) (p n : ℕ) (missing : List MissingInterval)
    → ((i : ℕ) → InGap s (j ++ es) p n i ↔ InGap s j p n i) → AreMissingIntervals s j p n missing
    → AreMissingIntervals s (j ++ es) p n missing
still_missing_on s j es p n missing same are = record {
  each =
      λ q k. (
        λ x. let g = (are.each q k).0 x in
            (g.0, (missing_gap_stored_longer s j es p n same (q, k, g.0)).1 g.1),
        λ g. (are.each q k).1
            (g.0, (missing_gap_stored_longer s j es p n same (q, k, g.0)).0 g.1),
      );
  placed = λ x h. closing_rank_longer j es x.owner x.number x.place (are.placed x h);
  contents = still_missing_contents_on s j es p n missing are;
}

-- so others' events
pub still_missing_others : (s : Sizes) (j es : List Event) (p n : ℕ) (missing : List MissingInterval)
    → ((k : ℕ) (e : Event) → EventAt es k e → e.processor ≢ p) → AreMissingIntervals s j p n missing
    → AreMissingIntervals s (j ++ es) p n missing
still_missing_others s j es p n missing away = still_missing_on s j es p n missing (λ i. missing_gaps_of_others s j es p n i away)

-- and a block that doesn't fetch the page
pub still_missing_block : (s : Sizes) (j block : List Event) (p n : ℕ) (missing : List MissingInterval) → IsBlock p block
    → ((k w r d : ℕ) → ¬ Does block k p (Fetch w n r d)) → AreMissingIntervals s j p n missing
    → AreMissingIntervals s (j ++ block) p n missing
still_missing_block s j block p n missing is none =
    still_missing_on s j block p n missing (λ i. complete_copy_block_gap s j block p n i is none)

-- an event by which p gets to know of others' adds the intervals between its timestamps that store in the page
pub still_missing_taken : {s : Sizes} {j : List Event} {p n : ℕ} {k : Kind} {t t' : ℕ → ℕ} {missing new : List MissingInterval}
    → LearnsMissingGap j p k t t' → AreMissingIntervalsOfNotices s j p n t t' new → AreMissingIntervals s j p n missing
    → AreMissingIntervals s (j ++ event p k ∷ []) p n (missing ++ new)
still_missing_taken {s} {j} {p} {n} {k} {t} {t'} {missing} {new} l news are =
    record {
      each = λ q m. (λ x. there q m x.0 x.2 x.3 ((joined_list_has-append missing new x.0).0 x.1), back q m);
      placed = λ x h. closing_rank_longer j (e ∷ []) x.owner x.number x.place
          (elim ((joined_list_has-append missing new x).0 h) [ inl old ↦ are.placed x old | inr now ↦ news.placed x now ]);
      contents = λ x h. elim ((joined_list_has-append missing new x).0 h)
          [ inl old ↦ still_missing_contents_on s j (e ∷ []) p n missing are x old | inr now ↦ now_on x now ];
    }
  where
    e : Event
    e = event p k

    at_e : (q i a v : ℕ) → Does j i q (Store a v) → Does (j ++ e ∷ []) i q (Store a v)
    at_e q i a v = event_place_longer j (e ∷ []) i (event q (Store a v))

    number : (q i a v : ℕ) → Does j i q (Store a v) → event_interval_at (j ++ e ∷ []) q i ≡ event_interval_at j q i
    number q i a v does =
        event_count-front event_closes j (e ∷ []) i q (le_of_lt (event_place_inside j i (event q (Store a v)) does))

    old : (q i a v : ℕ) → Does (j ++ e ∷ []) i q (Store a v) → Does j i q (Store a v)
    old q i a v does =
        elim (slice_push_cases j e i (event q (Store a v)) does)
        [ inl h ↦ h.1 | inr h ↦ absurd (true≢false (sym l.takes ∙ ap (λ (f : Event). event_takes f.kind) h.1)) ]

    now_on : (x : MissingInterval) → Has new x → IsIntervalContent s (j ++ e ∷ []) x.owner x.number n x.words
    now_on x h =
        store_contents_on s j (e ∷ []) x.owner x.number n x.words
        (λ i y. event_place_inside j i (event x.owner (Store y.0 y.1)) (old x.owner i y.0 y.1 y.2)) (news.contents x h)

    from_gap : (q m : ℕ) → ((a : ℕ) × StoredInGapOfPageImage s j p n (q, m, a))
        → (a : ℕ) × StoredInGapOfPageImage s (j ++ e ∷ []) p n (q, m, a)
    from_gap q m x =
        let g = x.1 in
        let apart = missing_gaps_apart g.3 g.2 in
        let page : x.0 / s.words ≡ n =
        ap (λ (a : ℕ). a / s.words) (sym (page_store_same j g.0 g.3.store.does g.2).1)
        ∙ g.3.store.in_page in (
          x.0,
          (
            g.0,
            g.1,
            at_e q g.0 x.0 g.1 g.2,
            (missing_gap_taken s n k l.takes l.time l.after g.2 page apart).1 (inl g.3),
            number q
                g.0 x.0 g.1 g.2
                ∙ g.4,
          ),
        )

    from_new : (q m : ℕ) → ((i : ℕ) × IntervalContentHas s j q m n i × (q ≢ p) × (t q ≤ m) × (m < t' q))
        → (a : ℕ) × StoredInGapOfPageImage s (j ++ e ∷ []) p n (q, m, a)
    from_new q m x =
        let w = x.1 in
        let same = w.4 in
        let le = x.3 in
        let less = x.4 in (
          w.0,
          (
            x.0,
            w.1,
            at_e q x.0 w.0 w.1 w.2,
            (missing_gap_taken s n k l.takes l.time l.after w.2 w.3 x.2).1
                (inr (omega arith, omega arith)),
            number q x.0 w.0 w.1 w.2
                ∙ w.4,
          ),
        )

    there : (q m : ℕ) (x : MissingInterval) → x.owner ≡ q → x.number ≡ m → Has missing x ⊎ Has new x
        → (a : ℕ) × StoredInGapOfPageImage s (j ++ e ∷ []) p n (q, m, a)
    there q m x mine is (inl h) = from_gap q m ((are.each q m).0 (x, h, mine, is))
    there q m x mine is (inr h) = from_new q m ((news.each q m).0 (x, h, mine, is))

    add : (q m : ℕ)
        → ((x : MissingInterval) × Has missing x × (x.owner ≡ q) × (x.number ≡ m))
        ⊎ ((x : MissingInterval) × Has new x × (x.owner ≡ q) × (x.number ≡ m))
        → (x : MissingInterval) × Has (missing ++ new) x × (x.owner ≡ q) × (x.number ≡ m)
    add q m (inl x) = (x.0, (joined_list_has-append missing new x.0).1 (inl x.1), x.2, x.3)
    add q m (inr x) = (x.0, (joined_list_has-append missing new x.0).1 (inr x.1), x.2, x.3)

    back : (q m : ℕ) → ((a : ℕ) × StoredInGapOfPageImage s (j ++ e ∷ []) p n (q, m, a))
        → (x : MissingInterval) × Has (missing ++ new) x × (x.owner ≡ q) × (x.number ≡ m)
    back q m x =
        let g = x.1 in
        let w = g.3.store in
        let does : Does j g.0 q (Store x.0 g.1) = old q g.0 x.0 g.1 g.2 in
        let apart = missing_gaps_apart g.3 g.2 in
        let page : x.0 / s.words ≡ n =
        ap (λ (a : ℕ). a / s.words)
        (sym (page_store_same (j ++ e ∷ []) g.0 w.does g.2).1)
        ∙ w.in_page in
        let same : event_interval_at j q g.0 ≡ m = sym (number q g.0 x.0 g.1 does) ∙ g.4 in
        elim ((missing_gap_taken s n k l.takes l.time l.after does page apart).0 g.3) [
          | inl h ↦ add q m (inl ((are.each q m).1 (x.0, (g.0, g.1, does, h, same))))
          | inr h ↦ (let le = h.0 in let less = h.1 in
              add q m
              (inr ((news.each q m).1 (g.0, (x.0, g.1, does, page, same), apart, omega arith, omega arith))))
        ]
