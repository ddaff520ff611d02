-- Where the value that a load answers comes from.
use Rattle.std.specs.Prelude.{ℕ, ◌≡◌, List, Option, Some, None, slice_get}
use Rattle.journal.specs.declared.event.Event.{Event}
use Rattle.journal.specs.declared.event.Kind.TheVariants.{Load}
use Rattle.journal.specs.ExplainedAnswers.{IsAnswer, LatestExplainedAnswer, UntouchedExplainedAnswer}
use Rattle.journal.specs.WellFormed.{Does}
use Rattle.causes.specs.declared.source.Source.{Source}
use Rattle.causes.specs.declared.source.Source.TheVariants.{StoreAt, NoStore, Unexplained}

-- what is said of the source of a load of a at place k that answers v: it is a store of v at this place, which is a
-- latest one of the load's past; there is none in that past, and v is 0; or v is nothing that the load may answer
abbrev pub IsSource : List Event → ℕ → ℕ → ℕ → Source → Type 0
IsSource j k a v (StoreAt i) = (s : LatestExplainedAnswer j k a v) × (s.place ≡ i)
IsSource j k a v NoStore = (v ≡ 0) × UntouchedExplainedAnswer j k a
IsSource j k a v Unexplained = ¬ IsAnswer j k a v

-- the load at place k has this source
pub record HasSource (j : List Event) (k a v : ℕ) (o : Option Source) : Type 0 where
  pub source : Source
  pub is : o ≡ Some source
  pub tells : IsSource j k a v source

-- what is said of the event at place k: its source, where it is a load, and else nothing
pub record IsSourceAt (j : List Event) (k : ℕ) (o : Option Source) : Type 0 where
  pub loads : (p a v : ℕ) → Does j k p (Load a v) → HasSource j k a v o
  pub others : ((p a v : ℕ) → ¬ Does j k p (Load a v)) → o ≡ None

-- this is said of the first places
abbrev pub AreSources : List Event → List (Option Source) → Type 0
AreSources j rows = (k : ℕ) (o : Option Source) → slice_get rows k ≡ Some o → IsSourceAt j k o
