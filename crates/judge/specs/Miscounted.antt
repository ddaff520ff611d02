-- The first fetch that counts what it should not.
use Rattle.std.specs.Prelude.{ℕ, ◌≡◌, ◌<◌, List, take}
use Rattle.journal.specs.declared.event.Event.{Event}
use Rattle.journal.specs.declared.event.Kind.TheVariants.{Fetch}
use Rattle.journal.specs.Sizes.{Sizes}
use Rattle.journal.specs.WellFormed.{WellFormedKindInRange}
use Rattle.journal.specs.PageImages.{GapCounts}
use Rattle.journal.specs.Events.{EventAt}
use Rattle.judge.specs.declared.miscounted.Miscounted.{Miscounted}

-- the event, if it is a fetch, counts its gap after j
abbrev pub IsNotMiscounted : Sizes → List Event → Event → Type 0
IsNotMiscounted s j e =
    (n writers records words : ℕ) → e.kind ≡ Fetch writers n records words
    → GapCounts s j e.processor n writers records words

-- the event is a fetch that counts otherwise than its gap after j, which has these counts
pub record Miscounts (s : Sizes) (j : List Event) (e : Event) (x : Miscounted) : Type 0 where
  pub page : ℕ
  pub writers : ℕ
  pub records : ℕ
  pub words : ℕ
  pub fetch : e.kind ≡ Fetch writers page records words
  pub wrong : ¬ GapCounts s j e.processor page writers records words
  pub due : GapCounts s j e.processor page x.writers x.records x.words

-- the event at this place miscounts, and each fetch before it counts its gap
pub record IsFirstMiscounted (s : Sizes) (j : List Event) (x : Miscounted) : Type 0 where
  pub event : Event
  pub at : EventAt j x.place event
  pub wrong : Miscounts s (take x.place j) event x
  pub first : (k : ℕ) (e : Event) → k < x.place → EventAt j k e → IsNotMiscounted s (take k j) e

-- the event's numbers are within the sizes
pub record IsEventInSizes (s : Sizes) (e : Event) : Type 0 where
  pub processor : e.processor < s.processors
  pub kind : WellFormedKindInRange s e.kind
