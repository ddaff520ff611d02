-- From which store the words of copies come that loads answer (journal's WordOrigins).
use Rattle.std.specs.Prelude.{ℕ, ◌≡◌, List, Option, Some, None, MatchOption, slice_get}
use Rattle.journal.specs.declared.event.Event.{Event}
use Rattle.journal.specs.declared.event.Kind.TheVariants.{Load, Store}
use Rattle.base.specs.InOrderOnce.{Has}
use Rattle.journal.specs.Events.{EventAt}
use Rattle.journal.specs.ExplainedAnswers.{LatestExplainedAnswer}
use Rattle.journal.specs.Sizes.{Sizes}
use Rattle.journal.specs.WellFormed.{Does}
use Rattle.journal.specs.OriginWrites.{IsLatestOriginWrite, HasNoOriginWrite}
use Rattle.causes.specs.declared.origin.WordOrigin.{WordOrigin}
use Rattle.causes.specs.declared.source.Source.{Source}
use Rattle.causes.specs.declared.source.Source.TheVariants.{StoreAt}

-- before place k, p's copy has the word at a from this store, by this event, and by none that comes later
abbrev pub IsOrigin : Sizes → List Event → ℕ → ℕ → ℕ → WordOrigin → Type 0
IsOrigin s j p a k x = IsLatestOriginWrite s j p a k x.write x.store

-- it has it from this store, or from none
abbrev pub IsOriginIfAny : Sizes → List Event → ℕ → ℕ → ℕ → Option WordOrigin → Type 0
IsOriginIfAny s j p a k o = MatchOption o (HasNoOriginWrite s j p a k) (IsOrigin s j p a k)

-- what is said of the event at place k: where the word comes from that it loads, and nothing of any other
pub record IsOriginAt (s : Sizes) (j : List Event) (k : ℕ) (o : Option WordOrigin) : Type 0 where
  pub loads : (p a v : ℕ) → Does j k p (Load a v) → IsOriginIfAny s j p a k o
  pub others : ((p a v : ℕ) → ¬ Does j k p (Load a v)) → o ≡ None

-- this is said of the first places
abbrev pub AreOrigins : Sizes → List Event → List (Option WordOrigin) → Type 0
AreOrigins s j rows = (k : ℕ) (o : Option WordOrigin) → slice_get rows k ≡ Some o → IsOriginAt s j k o

-- a load of a at place k that answers v has this source if it may answer this origin: if that is a latest store of v
abbrev pub IsOriginNamed : List Event → ℕ → ℕ → ℕ → Option WordOrigin → Source → Type 0
IsOriginNamed j k a v o source = (x : WordOrigin) → o ≡ Some x → (l : LatestExplainedAnswer j k a v) → l.place ≡ x.store
    → source ≡ StoreAt x.store

-- so does the event at place k, where it is a load
abbrev pub IsOriginNamedAt : List Event → ℕ → Option WordOrigin → Option Source → Type 0
IsOriginNamedAt j k origin source =
    (p a v : ℕ) (x : Source) → Does j k p (Load a v) → source ≡ Some x → IsOriginNamed j k a v origin x

-- and those of the first places
abbrev pub AreOriginsNamed : List Event → List (Option WordOrigin) → List (Option Source) → Type 0
AreOriginsNamed j origins sources =
    (k : ℕ) (origin : Option WordOrigin) (source : Option Source) → slice_get origins k ≡ Some origin
    → slice_get sources k ≡ Some source → IsOriginNamedAt j k origin source

-- the origin is one of these places and stores v
pub record IsOriginOneOf (j : List Event) (places : List ℕ) (v : ℕ) (origin : Option WordOrigin) (i : ℕ) : Type 0 where
  pub origin_is : WordOrigin
  pub is : origin ≡ Some origin_is
  pub store : origin_is.store ≡ i
  pub among : Has places i
  pub stores : (e : Event) × EventAt j i e × ((a : ℕ) × (e.kind ≡ Store a v))

-- it is at this place where it is so
abbrev pub IsOriginAmong : List Event → List ℕ → ℕ → Option WordOrigin → Option ℕ → Type 0
IsOriginAmong j places v origin o =
    MatchOption o ((i : ℕ) → ¬ IsOriginOneOf j places v origin i) (IsOriginOneOf j places v origin)
