-- What the stores of an interval come to in a page.
use Rattle.std.specs.Prelude.{ℕ, ◌≡◌, ◌<◌, ◌/◌, ◌↔◌, ◌==◌, cond, fold, List, [], ◌∷◌, ◌++◌, slice_get}
use Rattle.journal.specs.declared.event.Event.{Event}
use Rattle.journal.specs.declared.event.Kind.TheVariants.{Store}
use Rattle.base.specs.InOrderOnce.{Has, InOrder}
use Rattle.base.specs.AppliedRecords.{IsRecordOf}
use Rattle.journal.specs.Sizes.{Sizes}
use Rattle.journal.specs.Events.{event_closes, event_interval_at}
use Rattle.journal.specs.WellFormed.{Does}
use Rattle.journal.specs.PageImages.{page_image_write}

-- processor p's events of its open interval, after one more event
abbrev pub interval_contents_next : ℕ → List Event → Event → List Event
interval_contents_next p es e = cond (e.processor == p) (cond (event_closes e.kind) [] (es ++ e ∷ [])) es

-- processor p's events since its last closing one
abbrev pub open_interval_contents : List Event → ℕ → List Event
open_interval_contents j p = fold (interval_contents_next p) [] j

-- place i has a store to page n, in processor q's interval k
abbrev pub IntervalContentHas : Sizes → List Event → ℕ → ℕ → ℕ → ℕ → Type 0
IntervalContentHas s j q k n i = (a v : ℕ) × Does j i q (Store a v) × (a / s.words ≡ n) × (event_interval_at j q i ≡ k)

-- the words that these stores come to, each with its last value
pub record IsIntervalContent (s : Sizes) (j : List Event) (q k n : ℕ) (words : List (ℕ × ℕ)) : Type 0 where
  pub places : List ℕ
  pub each : (i : ℕ) → Has places i ↔ IntervalContentHas s j q k n i
  pub rising : InOrder (λ i m. i < m) places
  pub sums : IsRecordOf (λ (i : ℕ). page_image_write s (slice_get j i)) places words
