-- What the stores of a gap come to.
use Rattle.std.specs.Prelude.{ℕ, ◌≡◌, ◌<◌, ◌≤◌, ◌⊎◌, ◌%◌, Some, List, slice_get}
use Rattle.journal.specs.declared.event.Event.{Event}
use Rattle.journal.specs.declared.event.Kind.TheVariants.{Store}
use Rattle.journal.specs.Sizes.{Sizes}
use Rattle.journal.specs.WellFormed.{Does}
use Rattle.journal.specs.PageImages.{InGap}
use Rattle.journal.specs.ClosingPlace.{IsClosingPlace}

-- place i stores v at offset o in the gap, and of the gap's stores there its interval was closed last, and it is the
-- last of them in that interval
pub record IsNewestInGap (s : Sizes) (j : List Event) (p n o v : ℕ) : Type 0 where
  pub place : ℕ
  pub by : ℕ
  pub address : ℕ
  pub stores : Does j place by (Store address v)
  pub offset : address % s.words ≡ o
  pub gap : InGap s j p n place
  pub last : (i q a w c d : ℕ) → Does j i q (Store a w) → a % s.words ≡ o → InGap s j p n i → IsClosingPlace j i c
      → IsClosingPlace j place d
      → (c < d) ⊎ ((c ≡ d) × (i ≤ place))

-- no store of the gap is at offset o
abbrev pub HasNoNewestInGap : Sizes → List Event → ℕ → ℕ → ℕ → Type 0
HasNoNewestInGap s j p n o = (i q a w : ℕ) → Does j i q (Store a w) → a % s.words ≡ o → ¬ InGap s j p n i

-- each word with stores in the gap has the value of the one whose interval was closed last,
-- and the others are as before
abbrev pub AreNewestInGap : Sizes → List Event → ℕ → ℕ → List ℕ → List ℕ → Type 0
AreNewestInGap s j p n old new = (o v : ℕ) → slice_get new o ≡ Some v
    → IsNewestInGap s j p n o v ⊎ ((slice_get old o ≡ Some v) × HasNoNewestInGap s j p n o)
