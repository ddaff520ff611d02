-- Which copies are stale, and which are dirty: those of pages of which a fetch would bring something, and those of pages in which
-- the open interval stores.
use Rattle.std.proofs.Common.{◌≡◌, ◌≢◌, ℕ, ◌<◌, ◌↔◌, List, subst, sym, refl, ◌∙◌}
use Rattle.journal.specs.declared.event.Event.{Event}
use Rattle.journal.specs.IntervalContents.{IntervalContentHas}
use Rattle.journal.specs.Events.{event_count, event_interval_at, event_closes}
use Rattle.journal.specs.EventsInRange.{EventProcessorsInRange}
use Rattle.journal.specs.Sizes.{Sizes}
use Rattle.judge.specs.FetchGaps.{FetchGapStoreInPage}
use Rattle.causes.specs.declared.span.Span.{Span}
use Rattle.causes.specs.Dues.{DueLacks}
use Rattle.causes.specs.Notices.{HasNoticeOf}
use Rattle.causes.specs.EventStates.{IsEventStateDirty, IsEventStateStale}
use Rattle.causes.proofs.DueSpans.{IsDueSpanOfFetch, due_span_lacks_is, due_span_lacks_low, due_span_lacks_not_own}

-- what a fetch would bring makes the copy stale
pub stale_by : {s : Sizes} {j : List Event} {p n : ℕ} {span : Span} (q : ℕ) → IsDueSpanOfFetch s j p n span
    → HasNoticeOf s j span n q → IsEventStateStale s j p n
stale_by {s} {j} {p} {n} {span} q is h =
    let apart : q ≢ p = λ same. h.0 (same ∙ sym is.reader) in
    let lacks : DueLacks s j p n q h.1.0 = (due_span_lacks_is q h.1.0 apart is.from is.to).1 (h.1.1, h.1.2, h.1.3) in
    (lacks.1.0, lacks.1.3)

-- and nothing else does
pub stale_has : {s : Sizes} {j : List Event} {p n : ℕ} {span : Span} → IsDueSpanOfFetch s j p n span → EventProcessorsInRange 16 j
    → IsEventStateStale s j p n → (q : ℕ) × (q < 16) × HasNoticeOf s j span n q
stale_has {s} {j} {p} {n} {span} is low stale =
    let i = stale.0 in
    let x = stale.1.store in
    let q = x.by in
    let m = event_interval_at j q i in
    let lacks : DueLacks s j p n q m = (x.address, (i, x.value, x.does, stale.1, refl)) in
    let apart = due_span_lacks_not_own s j p n q m lacks in
    let between = (due_span_lacks_is q m apart is.from is.to).0 lacks in (
      q,
      due_span_lacks_low s j p n q m low lacks,
      (λ same. apart (same ∙ is.reader), (m, between.0, between.1, between.2)),
    )

-- an interval stores in a page by some store
pub stale_copy_interval_stores : (s : Sizes) (j : List Event) (n q m : ℕ)
    → FetchGapStoreInPage s j n q m ↔ ((i : ℕ) × IntervalContentHas s j q m n i)
stale_copy_interval_stores s j n q m = (
  λ x. (let at = x.1.0 in (at.0, (x.0, at.1, at.2, x.1.1, at.3))),
  λ y. (let z = y.1 in (z.0, ((y.0, z.1, z.2, z.4), z.3))),
)

-- the page is dirty where the open one does
pub stale_copy_or_dirty_by : (s : Sizes) (j : List Event) (n p m : ℕ) → m ≡ event_count event_closes j p
    → FetchGapStoreInPage s j n p m ↔ IsEventStateDirty s j p n
stale_copy_or_dirty_by s j n p m is =
    subst (λ k. FetchGapStoreInPage s j n p m ↔ ((i : ℕ) × IntervalContentHas s j p k n i)) is (stale_copy_interval_stores s j n p m)
