-- Which stores a load may answer, by processor and place.
use Rattle.std.specs.Prelude.{ℕ, ◌≡◌, ◌<◌, ◌↔◌, List, [], Some, slice_get}
use Rattle.std.specs.Global.{Vec}
use Rattle.base.specs.InOrderOnce.{Has, InOrder}
use Rattle.journal.specs.declared.event.Event.{Event}
use Rattle.journal.specs.declared.event.Kind.TheVariants.{Load}
use Rattle.journal.specs.WellFormed.{Does}
use Rattle.journal.specs.ExplainedAnswers.{LatestExplainedAnswer}

-- processor q's store at place i is one that a load of a at place k may answer: a latest store of its past
pub record IsLatest (j : List Event) (k a q i : ℕ) : Type 0 where
  pub value : ℕ
  pub store : LatestExplainedAnswer j k a value
  pub place : store.place ≡ i
  pub by : store.by ≡ q

-- these are the places of the latest stores of a load of a at place k, by rising processor
pub record AreLatest (j : List Event) (k a : ℕ) (places : List ℕ) : Type 0 where
  pub has : (i : ℕ) → Has places i ↔ ((q : ℕ) × IsLatest j k a q i)
  pub order : InOrder (λ i m. (q r : ℕ) × (q < r) × IsLatest j k a q i × IsLatest j k a r m) places

-- the row of the event at place k: those places where it is a load, and else none
pub record IsLatestRow (j : List Event) (k : ℕ) (places : List ℕ) : Type 0 where
  pub loads : (p a v : ℕ) → Does j k p (Load a v) → AreLatest j k a places
  pub others : ((p a v : ℕ) → ¬ Does j k p (Load a v)) → places ≡ []

-- these are the rows of the first places
abbrev pub AreLatestRows : List Event → List (Vec ℕ) → Type 0
AreLatestRows j rows = (k : ℕ) (row : Vec ℕ) → slice_get rows k ≡ Some row → IsLatestRow j k row.items
