-- What fetches say of their gaps.
use Rattle.std.specs.Prelude.{ℕ, ◌<◌, List, take}
use Rattle.journal.specs.declared.event.Event.{Event}
use Rattle.journal.specs.declared.event.Kind.TheVariants.{Fetch}
use Rattle.journal.specs.Sizes.{Sizes}
use Rattle.journal.specs.WellFormed.{Does}
use Rattle.journal.specs.PageImages.{GapCounts}

-- each fetch counts its gap
abbrev pub FetchesCountGaps : Sizes → List Event → Type 0
FetchesCountGaps s j =
    (k p n writers records words : ℕ) → Does j k p (Fetch writers n records words)
    → GapCounts s (take k j) p n writers records words

-- each fetch of p's open block counts the gap before the block, and is the block's first of its page
pub record BlockFetchesCountGaps (s : Sizes) (j block : List Event) (p : ℕ) : Type 0 where
  pub counts : (k n writers records words : ℕ) → Does block k p (Fetch writers n records words)
      → GapCounts s j p n writers records words
  pub first : (i k n w r d w' r' d' : ℕ) → i < k → Does block k p (Fetch w n r d)
      → ¬ Does block i p (Fetch w' n r' d')
