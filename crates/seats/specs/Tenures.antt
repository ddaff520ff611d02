-- What a lock keeps: a fact of the words under it, which each tenure, from an acquire to the release, preserves.
use Rattle.std.specs.Prelude.{ℕ, ◌≡◌, ◌<◌, ◌==◌, Bool, true, false, if◌then◌else◌, ◌&&◌, Option, Some, None, List, [], ◌∷◌, ◌++◌, filter, slice_get, take}
use Rattle.base.specs.LastWrite.{written, wrote}
use Rattle.journal.specs.declared.event.Event.{Event}
use Rattle.journal.specs.declared.event.Kind.{Kind}
use Rattle.journal.specs.declared.event.Kind.TheVariants.{Acquire, Ask, Release}
use Rattle.journal.specs.Events.{event_address, events_of}
use Rattle.journal.specs.ReplayMemory.{AnswersReplayMemory, Replays, replay_memory_write, memory_after}
use Rattle.journal.specs.Sizes.{Sizes}
use Rattle.journal.specs.WellFormed.{WellFormed}
use Rattle.seats.specs.declared.guard.Guard.TheVariants.{Under}
use Rattle.seats.specs.Deeds.{deeds}
use Rattle.seats.specs.PhaseGuards.{PhaseGuards, phase_guard_holds_after}
use Rattle.seats.specs.GuardLaws.{AllKeepToPhaseGuards}

-- a lock, the words under it, and a fact of a memory and of the accesses to these words so far
pub record KeptFact : Type 1 where
  pub lock : ℕ
  pub words : ℕ → Bool
  pub holds : List ℕ → List Kind → Type 0

-- whether this address, if any, is one of these words
abbrev pub tenure_has_address : (ℕ → Bool) → Option ℕ → Bool
tenure_has_address words None = false
tenure_has_address words (Some a) = words a

-- the accesses of these words among these, in order
abbrev pub tenure_accesses_among : (ℕ → Bool) → List Kind → List Kind
tenure_accesses_among words ks = filter (λ (k : Kind). tenure_has_address words (event_address k)) ks

-- the accesses of a lock's words since its last release, after this event, if they were these before
abbrev pub tenure_then : (ℕ → Bool) → ℕ → List Kind → Kind → List Kind
tenure_then words l so_far (Release m) = if m == l then [] else so_far
tenure_then words l so_far k = so_far ++ tenure_accesses_among words (k ∷ [])

-- and after these
abbrev pub tenure_on : (ℕ → Bool) → ℕ → List Kind → List Kind → List Kind
tenure_on words l so_far [] = so_far
tenure_on words l so_far (k ∷ ks) = tenure_on words l (tenure_then words l so_far k) ks

-- the accesses in the tenure that is open after this, from the start
abbrev pub tenure_after : (ℕ → Bool) → ℕ → List Kind → List Kind
tenure_after words l ks = tenure_on words l [] ks

-- each load of these answers its word of this memory after the stores before it
abbrev pub TenureAnswersFrom : List ℕ → List Kind → Type 0
TenureAnswersFrom memory [] = Unit {0}
TenureAnswersFrom memory (k ∷ ks) = AnswersReplayMemory memory k × TenureAnswersFrom (wrote memory (replay_memory_write k)) ks

-- from any memory of which the fact holds and from which the loads of these are answered, it holds after them
abbrev pub TenurePreserves : KeptFact → List Kind → Type 0
TenurePreserves f ks = (memory : List ℕ) (before : List Kind) → f.holds memory before → TenureAnswersFrom memory ks
    → f.holds (written replay_memory_write memory ks) (before ++ ks)

-- each tenure of what a processor did preserves the fact, and has ended
pub record PreservesByTenures (f : KeptFact) (ks : List Kind) : Type 0 where
  pub each : (i : ℕ) → slice_get ks i ≡ Some (Release f.lock) → TenurePreserves f (tenure_after f.words f.lock (take i ks))
  pub ended : phase_guard_holds_after ks f.lock ≡ false

-- whether all of these access these words
abbrev pub are_tenure_accesses : (ℕ → Bool) → List Kind → Bool
are_tenure_accesses words [] = true
are_tenure_accesses words (k ∷ ks) = tenure_has_address words (event_address k) && are_tenure_accesses words ks

-- a whole tenure of a lock, with these accesses
abbrev pub tenure_of_lock : ℕ → List Kind → List Kind
tenure_of_lock l ks = Ask l ∷ Acquire l ∷ ks ++ Release l ∷ []

-- the same, and no access of the lock's words stands behind its last release
pub record IsBetweenTenures (f : KeptFact) (ks : List Kind) : Type 0 where
  pub preserves : PreservesByTenures f ks
  pub closed : tenure_after f.words f.lock ks ≡ []

-- the words are under the lock in each phase; the fact hangs on no other word, and holds of this memory at first
pub record IsFactUnderTenures (g : PhaseGuards) (memory : List ℕ) (f : KeptFact) : Type 0 where
  pub under : (n a : ℕ) → f.words a ≡ true → g n a ≡ Some (Under f.lock)
  pub own : (before after : List ℕ) (ks : List Kind) → ((a : ℕ) → f.words a ≡ true → slice_get before a ≡ slice_get after a)
      → f.holds before ks → f.holds after ks
  pub first : f.holds memory []

-- if each processor keeps to the guards, and each of its tenures preserves the fact, then at the end that holds of the memory
-- and of all accesses to its words
abbrev pub TenuresKeepLaw : KeptFact → Type 0
TenuresKeepLaw f = (s : Sizes) (g : PhaseGuards) (memory : List ℕ) (h : List Event) → WellFormed s h → AllKeepToPhaseGuards g h → Replays memory h
    → IsFactUnderTenures g memory f → ((p : ℕ) → p < s.processors → PreservesByTenures f (deeds (events_of h p)))
    → f.holds (memory_after memory h) (tenure_accesses_among f.words (deeds h))

-- these accesses loaded from a memory of which the fact held
pub record HasTenureReadFact (f : KeptFact) (ks : List Kind) : Type 0 where
  pub memory : List ℕ
  pub before : List Kind
  pub held : f.holds memory before
  pub answers : TenureAnswersFrom memory ks

-- so did each tenure that has ended. Said of what one processor did, this supposes that all others preserve the fact
abbrev pub ReadsKept : KeptFact → List Kind → Type 0
ReadsKept f ks = (i : ℕ) → slice_get ks i ≡ Some (Release f.lock) → HasTenureReadFact f (tenure_after f.words f.lock (take i ks))

-- if all preserve it, then it was so
abbrev pub TenuresReadLaw : KeptFact → Type 0
TenuresReadLaw f = (s : Sizes) (g : PhaseGuards) (memory : List ℕ) (h : List Event) → WellFormed s h → AllKeepToPhaseGuards g h → Replays memory h
    → IsFactUnderTenures g memory f → ((p : ℕ) → p < s.processors → PreservesByTenures f (deeds (events_of h p)))
    → (p : ℕ) → ReadsKept f (deeds (events_of h p))
