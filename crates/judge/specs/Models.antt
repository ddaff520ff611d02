-- What a load may answer under each model of memory.
use Rattle.std.specs.Prelude.{ℕ, ◌≡◌, ◌<◌, ◌⊎◌, ◌↔◌, suc, Some, List, ◌++◌, length, replicate, slice_get, take}
use Rattle.journal.specs.declared.event.Event.{Event}
use Rattle.journal.specs.declared.event.Kind.TheVariants.{Load, Store}
use Rattle.journal.specs.Sizes.{Sizes, addresses}
use Rattle.journal.specs.HappensBeforeEdges.{HappensBefore}
use Rattle.journal.specs.WellFormed.{Does}
use Rattle.journal.specs.ExplainedAnswers.{IsAnswer}
use Rattle.journal.specs.Races.{RaceFree}
use Rattle.journal.specs.ReplayMemory.{memory_after}
use Rattle.judge.specs.declared.models.MemoryModel.{MemoryModel}
use Rattle.judge.specs.declared.models.MemoryModel.TheVariants as model

-- v was stored at a before place k, by a store that doesn't happen before it
pub record ModelConcurrentStore (j : List Event) (k a v : ℕ) : Type 0 where
  pub place : ℕ
  pub by : ℕ
  pub stores : Does j place by (Store a v)
  pub before : place < k
  pub unordered : ¬ HappensBefore j place k

-- v is a's word after the events before place k are done to one memory of zeros, in their order
abbrev pub IsFlatModelWord : Sizes → List Event → ℕ → ℕ → ℕ → Type 0
IsFlatModelWord s j k a v = slice_get (memory_after (replicate (addresses s) 0) (take k j)) a ≡ Some v

-- v is what a load of a at place k may answer under the model
abbrev pub IsModelAnswer : MemoryModel → Sizes → List Event → ℕ → ℕ → ℕ → Type 0
IsModelAnswer model.RaceFree s j k a v = RaceFree (take (suc k) j) → IsAnswer j k a v
IsModelAnswer model.HappensBefore s j k a v = IsAnswer j k a v ⊎ ModelConcurrentStore j k a v
IsModelAnswer model.LazyRelease s j k a v = IsAnswer j k a v
IsModelAnswer model.Sequential s j k a v = IsFlatModelWord s j k a v

-- each load answers what it may under the model
abbrev pub ExplainedUnderModel : MemoryModel → Sizes → List Event → Type 0
ExplainedUnderModel m s j = (k p a v : ℕ) → Does j k p (Load a v) → IsModelAnswer m s j k a v

-- what a load may answer stays as the history goes on
abbrev pub ModelAnswersStayLaw : Type 0
ModelAnswersStayLaw = (m : MemoryModel) (s : Sizes) (j es : List Event) (k a v : ℕ) → k < length j
    → IsModelAnswer m s (j ++ es) k a v ↔ IsModelAnswer m s j k a v

-- up to its first race a load may answer under each model what it may under any other
abbrev pub ModelsAgreeLaw : Type 0
ModelsAgreeLaw = (m n : MemoryModel) (s : Sizes) (j : List Event) (k p a v : ℕ) → Does j k p (Load a v) → a < addresses s
    → RaceFree (take (suc k) j) → IsModelAnswer m s j k a v ↔ IsModelAnswer n s j k a v
