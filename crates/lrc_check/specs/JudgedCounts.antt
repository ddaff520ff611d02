-- Whether it is judged what fetches count.
use Rattle.std.specs.Prelude.{◌≡◌, Bool, false}
use Rattle.judge.specs.declared.models.MemoryModel.{MemoryModel}
use Rattle.judge.specs.declared.models.MemoryModel.TheVariants.{LazyRelease}

-- it is, under lazy release, unless lax
abbrev pub AreCountsJudged : MemoryModel → Bool → Type 0
AreCountsJudged m lax = (m ≡ LazyRelease) × (lax ≡ false)
