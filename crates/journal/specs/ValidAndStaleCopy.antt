-- A processor's copy of a page under its open block: valid, or stale.
use Rattle.std.specs.Prelude.{ℕ, ◌≡◌, ◌⊎◌, List}
use Rattle.journal.specs.declared.event.Event.{Event}
use Rattle.journal.specs.Sizes.{Sizes}
use Rattle.journal.specs.Events.{EventAt}
use Rattle.journal.specs.PageImages.{Lawful, FetchesPageImage}
use Rattle.journal.specs.BroughtCopy.{IsBroughtCopy, IsBroughtCopyComplete}
use Rattle.journal.specs.Blocks.{block_done}
use Rattle.journal.specs.MissingIntervals.{MissingInterval, AreMissingIntervals}
use Rattle.journal.specs.CopyOrigins.{TouchesCopy, AreCopyOrigins, AreOpenCopyOrigins}

-- the copy is what the block's stores make of one that is lawful before the block, and lacks nothing; its words are
-- those of their origins
pub record IsValidCopy (s : Sizes) (j block : List Event) (p n : ℕ) (base page : List ℕ) : Type 0 where
  pub lawful : Lawful s j p n base
  pub gives : page ≡ block_done s n base block
  pub full : IsBroughtCopyComplete s j p n ⊎ ((k : ℕ) × FetchesPageImage block k p n)
  pub origins : AreOpenCopyOrigins s j block p n base

-- the copy lacks what these intervals store, and the block leaves the page alone
pub record IsStaleCopy (s : Sizes) (j block : List Event) (p n : ℕ) (page : List ℕ) (missing : List MissingInterval) : Type 0
  where
    pub copy : IsBroughtCopy s j p n page
    pub lacks : AreMissingIntervals s j p n missing
    pub untouched : (k : ℕ) (e : Event) → EventAt block k e → ¬ TouchesCopy s n e.kind
    pub origins : AreCopyOrigins s j p n page
