-- What is sent doesn't change by what nobody is to perform, or has performed already.
use Rattle.std.proofs.Common.{◌≡◌, ℕ, ◌<◌, ◌≤◌, true, false, not, inl, inr, List, [], ◌∷◌, ◌++◌, filter, slice_index, ap, arith, ◌∙◌}
use Rattle.std.specs.List.{flat_map}
use Rattle.std.proofs.lemmas.Bool.{cases_Bool, cond-false, and_parts, and_right, leb-true, ltb-true, eqb-true, le-ltb}
use Rattle.std.proofs.lemmas.List.{append-nil}
use Rattle.std.proofs.lemmas.List.Elements.{filter-append}
use Rattle.base.proofs.Filters.{filter_passed}
use Rattle.interval.specs.declared.interval.KeptInterval.{KeptInterval}
use Rattle.interval.specs.SentIntervals.{ClosedInterval}
use Rattle.interval.specs.KeptClosings.{KeptClosings, kept_closings_pushed, kept_closings_trimmed_below, is_trimmed_from_kept_closings, is_news_of_kept_closings, kept_closing_sent_interval, kept_closings_between}

-- intervals that the receiver has performed are not sent to it
pub between_unchanged_by_trim : (c : KeptClosings) (owner to : ℕ) (old new : List ℕ) → to ≤ slice_index old owner
    → kept_closings_between (kept_closings_trimmed_below c owner to) old new ≡ kept_closings_between c old new
between_unchanged_by_trim c owner to old new performed =
    let stays : (k : KeptInterval) → is_news_of_kept_closings old new k ≡ true → not (is_trimmed_from_kept_closings owner to k) ≡ true = λ k news.
    elim (cases_Bool (is_trimmed_from_kept_closings owner to k)) [
      | inl t ↦
          let parts = and_parts _ _ t in
          let owned : k.interval.owner ≡ owner = eqb-true _ _ parts.0 in
          let below : k.interval.number < to = ltb-true _ _ parts.1 in
          let from : slice_index old k.interval.owner ≤ k.interval.number = leb-true _ _ (and_parts _ _ news).0 in
          let same : slice_index old k.interval.owner ≡ slice_index old owner = ap (slice_index old) owned in
          absurd (omega arith)
      | inr f ↦ ap not f
    ] in
    ap (flat_map kept_closing_sent_interval) (filter_passed (is_news_of_kept_closings old new) (λ k. not (is_trimmed_from_kept_closings owner to k)) c.kept stays)

-- an interval that the receiver is not to perform is not sent to it
pub between_unchanged_by_push : (c : KeptClosings) (i : ClosedInterval) (old new : List ℕ) → slice_index new i.owner ≤ i.number
    → kept_closings_between (kept_closings_pushed c i) old new ≡ kept_closings_between c old new
between_unchanged_by_push c i old new uncovered =
    let k : KeptInterval = record { place = c.pushed; interval = i } in
    let no_news : is_news_of_kept_closings old new k ≡ false = and_right _ _ (le-ltb _ _ uncovered) in
    let last : filter (is_news_of_kept_closings old new) (k ∷ []) ≡ [] = cond-false (is_news_of_kept_closings old new k) (k ∷ []) [] no_news in
    ap (flat_map kept_closing_sent_interval) (filter-append (is_news_of_kept_closings old new) c.kept (k ∷ [])
    ∙ ap (λ (ys : List KeptInterval). filter (is_news_of_kept_closings old new) c.kept ++ ys) last
    ∙ append-nil (filter (is_news_of_kept_closings old new) c.kept))
