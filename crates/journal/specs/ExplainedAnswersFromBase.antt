-- What a load may answer from a base: a latest store, or the base's word.
use Rattle.std.specs.Prelude.{ℕ, ◌≡◌, ◌⊎◌, List, slice_index}
use Rattle.journal.specs.declared.event.Event.{Event}
use Rattle.journal.specs.declared.event.Kind.TheVariants.{Load, Store}
use Rattle.journal.specs.WellFormed.{Does}
use Rattle.journal.specs.Base.{Base}
use Rattle.journal.specs.HappensBeforeFromBase.{HappensBeforeFromBase}

-- nothing was stored at a before place k
abbrev pub UntouchedExplainedAnswerFromBase : Base → List Event → ℕ → ℕ → Type 0
UntouchedExplainedAnswerFromBase b j k a = (i q v : ℕ) → Does j i q (Store a v) → ¬ HappensBeforeFromBase b j i k

-- v was stored at a before place k, and no other store of that past happens after it
pub record LatestExplainedAnswerFromBase (b : Base) (j : List Event) (k a v : ℕ) : Type 0 where
  pub place : ℕ
  pub by : ℕ
  pub stores : Does j place by (Store a v)
  pub before : HappensBeforeFromBase b j place k
  pub latest : (i q w : ℕ) → Does j i q (Store a w) → HappensBeforeFromBase b j i k → ¬ HappensBeforeFromBase b j place i

-- v is what a load of a at place k may answer
abbrev pub IsAnswerFromBase : Base → List Event → ℕ → ℕ → ℕ → Type 0
IsAnswerFromBase b j k a v = ((v ≡ slice_index b.memory a) × UntouchedExplainedAnswerFromBase b j k a) ⊎ LatestExplainedAnswerFromBase b j k a v

abbrev pub ExplainedFromBase : Base → List Event → Type 0
ExplainedFromBase b j = (k p a v : ℕ) → Does j k p (Load a v) → IsAnswerFromBase b j k a v
