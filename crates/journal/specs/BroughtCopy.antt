-- What a copy of a page has, valid or not.
use Rattle.std.specs.Prelude.{ℕ, ◌⊎◌, List}
use Rattle.journal.specs.declared.event.Event.{Event}
use Rattle.journal.specs.Sizes.{Sizes}
use Rattle.journal.specs.HappensBeforeEdges.{HappensBefore}
use Rattle.journal.specs.Pasts.{InPast}
use Rattle.journal.specs.PageImages.{StoresToPageImage, FetchesPageImage, IsImage, InGap, IsOwnPlaceOfPageImage}

-- what place i stores in page n is in p's copy: it is p's own, or a fetch of the page by p brought it
abbrev pub BroughtToCopy : List Event → ℕ → ℕ → ℕ → Type 0
BroughtToCopy j p n i = IsOwnPlaceOfPageImage j p i ⊎ ((k : ℕ) × FetchesPageImage j k p n × HappensBefore j i k)

-- p's copy of page n has what was brought, and with each store of it those that happen before it
pub record IsBroughtCopy (s : Sizes) (j : List Event) (p n : ℕ) (page : List ℕ) : Type 0 where
  pub image : IsImage s j (BroughtToCopy j p n) n page
  pub closed : (i k : ℕ) → StoresToPageImage s j n i → StoresToPageImage s j n k → BroughtToCopy j p n i → HappensBefore j k i
      → BroughtToCopy j p n k

-- the copy lacks nothing
abbrev pub BroughtCopyHasNoGap : Sizes → List Event → ℕ → ℕ → Type 0
BroughtCopyHasNoGap s j p n = (i : ℕ) → ¬ InGap s j p n i

-- p's past of the page is in its copy, if that is one
abbrev pub IsBroughtCopyComplete : Sizes → List Event → ℕ → ℕ → Type 0
IsBroughtCopyComplete s j p n = (i : ℕ) → StoresToPageImage s j n i → InPast j p i → BroughtToCopy j p n i
