-- What a load may answer.
use Rattle.std.specs.Prelude.{ℕ, ◌≡◌, ◌⊎◌, List}
use Rattle.journal.specs.declared.event.Event.{Event}
use Rattle.journal.specs.declared.event.Kind.TheVariants.{Load, Store}
use Rattle.journal.specs.HappensBeforeEdges.{HappensBefore}
use Rattle.journal.specs.WellFormed.{Does}

-- nothing was stored at a before place k
abbrev pub UntouchedExplainedAnswer : List Event → ℕ → ℕ → Type 0
UntouchedExplainedAnswer j k a = (i q v : ℕ) → Does j i q (Store a v) → ¬ HappensBefore j i k

-- v was stored at a before place k, and no other store of that past happens after it
pub record LatestExplainedAnswer (j : List Event) (k a v : ℕ) : Type 0 where
  pub place : ℕ
  pub by : ℕ
  pub stores : Does j place by (Store a v)
  pub before : HappensBefore j place k
  pub latest : (i q w : ℕ) → Does j i q (Store a w) → HappensBefore j i k → ¬ HappensBefore j place i

-- v is what a load of a at place k may answer: a latest store of its past, or 0 if there is none
abbrev pub IsAnswer : List Event → ℕ → ℕ → ℕ → Type 0
IsAnswer j k a v = ((v ≡ 0) × UntouchedExplainedAnswer j k a) ⊎ LatestExplainedAnswer j k a v

abbrev pub Explained : List Event → Type 0
Explained j = (k p a v : ℕ) → Does j k p (Load a v) → IsAnswer j k a v
