-- A history with a fetch right before each access of a page whose copy lacks records.
use Rattle.std.specs.Prelude.{ℕ, zero, suc, ◌≡◌, ◌/◌, Option, Some, None, List, [], ◌∷◌, ◌++◌, Bool, true, false, filter, not, take}
use Rattle.journal.specs.declared.event.Event.{Event}
use Rattle.journal.specs.declared.event.Kind.{Kind}
use Rattle.journal.specs.declared.event.Kind.TheVariants.{Load, Store, Fetch}
use Rattle.journal.specs.BroughtCopy.{BroughtCopyHasNoGap}
use Rattle.journal.specs.DidEvent.{did}
use Rattle.journal.specs.Events.{EventAt}
use Rattle.journal.specs.FetchesCountGaps.{FetchesCountGaps}
use Rattle.journal.specs.PageImages.{GapCounts}
use Rattle.journal.specs.Sizes.{Sizes}

-- a fetch of page n that counts this, if it counts a record
abbrev pub due_fetch : ℕ → ℕ → ℕ → ℕ → Option Kind
due_fetch n writers zero words = None
due_fetch n writers (suc records) words = Some (Fetch writers n (suc records) words)

-- o is the fetch of page n that p has to make after h: none if its copy lacks nothing
pub record IsDueFetch (s : Sizes) (h : List Event) (p n : ℕ) (o : Option Kind) : Type 0 where
  pub writers : ℕ
  pub records : ℕ
  pub words : ℕ
  pub counts : GapCounts s h p n writers records words
  pub is : o ≡ due_fetch n writers records words

-- the history after p does this, if anything
abbrev pub did_if : List Event → ℕ → Option Kind → List Event
did_if h p None = h
did_if h p (Some k) = did h p k

-- k is h and then e, an access of page n, with the fetch right before it that is due
pub record IsFetchedAccess (s : Sizes) (h : List Event) (e : Event) (n : ℕ) (k : List Event) : Type 0 where
  pub fetch : Option Kind
  pub due : IsDueFetch s h e.processor n fetch
  pub is : k ≡ did_if h e.processor fetch ++ e ∷ []

-- the same of an event of any kind; a fetch is left out
abbrev pub IsFetchedByKind : Sizes → List Event → Event → Kind → List Event → Type 0
IsFetchedByKind s h e (Load a v) k = IsFetchedAccess s h e (a / s.words) k
IsFetchedByKind s h e (Store a v) k = IsFetchedAccess s h e (a / s.words) k
IsFetchedByKind s h e (Fetch w n r d) k = k ≡ h
IsFetchedByKind s h e _ k = k ≡ h ++ e ∷ []

-- k is h and then the events of j without their fetches, with those that are due
abbrev pub IsFetchedFrom : Sizes → List Event → List Event → List Event → Type 0
IsFetchedFrom s h [] k = k ≡ h
IsFetchedFrom s h (e ∷ j) k = (m : List Event) × IsFetchedByKind s h e e.kind m × IsFetchedFrom s m j k

-- h is j without its fetches, with a fetch right before each access of a page whose copy lacks records, which counts what it lacks
abbrev pub IsFetched : Sizes → List Event → List Event → Type 0
IsFetched s j h = IsFetchedFrom s [] j h

-- of each trace and each page size there is one such history at most
abbrev pub OneFetchedLaw : Type 0
OneFetchedLaw = (s : Sizes) (j h k : List Event) → IsFetched s j h → IsFetched s j k → h ≡ k

abbrev pub is_a_fetch : Kind → Bool
is_a_fetch (Fetch w n r d) = true
is_a_fetch _ = false

-- the events but for the fetches
abbrev pub unfetched : List Event → List Event
unfetched j = filter (λ e. not (is_a_fetch e.kind)) j

-- the event is an access of page n
abbrev pub AccessesPage : Sizes → Kind → ℕ → Type 0
AccessesPage s (Load a v) n = a / s.words ≡ n
AccessesPage s (Store a v) n = a / s.words ≡ n
AccessesPage s _ n = ⊥

-- no fetch counts anything but its gap, each access finds its copy whole, and all else is the trace's
pub record IsFetchedWell (s : Sizes) (j h : List Event) : Type 0 where
  pub same : unfetched h ≡ unfetched j
  pub counts : FetchesCountGaps s h
  pub whole : (i n : ℕ) (e : Event) → EventAt h i e → AccessesPage s e.kind n → BroughtCopyHasNoGap s (take i h) e.processor n

-- it is so of that history
abbrev pub FetchedLaw : Type 0
FetchedLaw = (s : Sizes) (j h : List Event) → IsFetched s j h → IsFetchedWell s j h
