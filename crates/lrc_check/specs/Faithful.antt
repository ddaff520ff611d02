-- Which histories a memory of the model can make.
use Rattle.std.specs.Prelude.{ℕ, ◌≡◌, ◌<◌, suc, Bool, false, List, ◌++◌, length, take}
use Rattle.journal.specs.declared.event.Event.{Event}
use Rattle.journal.specs.Sizes.{Sizes}
use Rattle.journal.specs.FetchesCountGaps.{FetchesCountGaps}
use Rattle.judge.specs.declared.models.MemoryModel.{MemoryModel}
use Rattle.judge.specs.declared.models.MemoryModel.TheVariants.{LazyRelease}
use Rattle.judge.specs.LaxWellFormed.{WellFormedOrLax}
use Rattle.judge.specs.Models.{ExplainedUnderModel}

-- each event may follow what stands before it, lax or not, each load answers what it may under the model, and under lazy
-- release, unless lax, each fetch counts its gap
pub record IsFaithfulAndCounted (m : MemoryModel) (lax : Bool) (s : Sizes) (j : List Event) : Type 0 where
  pub well_formed : WellFormedOrLax lax s j
  pub explained : ExplainedUnderModel m s j
  pub counted : m ≡ LazyRelease → lax ≡ false → FetchesCountGaps s j

-- the event at place k is the first that no such memory makes: what stands before it is faithful, and with it nothing
-- is, however it goes on
pub record IsFaithfulOnlyUpTo (m : MemoryModel) (lax : Bool) (s : Sizes) (j : List Event) (k : ℕ) : Type 0 where
  pub within : k < length j
  pub before : IsFaithfulAndCounted m lax s (take k j)
  pub never : (es : List Event) → ¬ IsFaithfulAndCounted m lax s (take (suc k) j ++ es)
