-- What is added to a word under a lock.
use Rattle.std.specs.Prelude.{ℕ, zero, suc, ◌≡◌, ◌+◌, ◌%◌, ◌^◌, ◌<◌, ◌==◌, Bool, true, false, if◌then◌else◌, Option, Some, None, List, [], ◌∷◌, slice_get}
use Rattle.journal.specs.declared.event.Event.{Event}
use Rattle.journal.specs.declared.event.Kind.{Kind}
use Rattle.journal.specs.declared.event.Kind.TheVariants.{Load, Store, Release}
use Rattle.journal.specs.Events.{events_of}
use Rattle.journal.specs.ReplayMemory.{Replays, memory_after}
use Rattle.journal.specs.Sizes.{Sizes}
use Rattle.journal.specs.WellFormed.{WellFormed}
use Rattle.seats.specs.declared.guard.Guard.TheVariants.{Under}
use Rattle.seats.specs.Deeds.{deeds}
use Rattle.seats.specs.PhaseGuards.{PhaseGuards}
use Rattle.seats.specs.GuardLaws.{AllKeepToPhaseGuards}

-- what a processor has done to a word: the word as it knows it, if it accessed it since it last released the lock; the sum of
-- what it stored there; the sum of the words that these stores took the place of; whether one of them took the place of a word
-- that it didn't know
pub record WordTally : Type 0 where
  pub known : Option ℕ
  pub put : ℕ
  pub taken : ℕ
  pub blind : Bool

abbrev pub new_word_tally : WordTally
new_word_tally = record { known = None; put = 0; taken = 0; blind = false }

-- after a store of this value in the place of a word, if it is known
abbrev pub word_tally_store : ℕ → WordTally → Option ℕ → WordTally
word_tally_store v t None = record { known = Some v; put = t.put + v; taken = t.taken; blind = true }
word_tally_store v t (Some w) = record { known = Some v; put = t.put + v; taken = t.taken + w; blind = t.blind }

-- of the word at address a, under lock l, after this
abbrev pub word_tally_then : ℕ → ℕ → WordTally → Kind → WordTally
word_tally_then l a t (Load b v) = if b == a then record t { known = Some v } else t
word_tally_then l a t (Store b v) = if b == a then word_tally_store v t t.known else t
word_tally_then l a t (Release m) = if m == l then record t { known = None } else t
word_tally_then l a t k = t

-- and after these
abbrev pub word_tally_on : ℕ → ℕ → WordTally → List Kind → WordTally
word_tally_on l a t [] = t
word_tally_on l a t (k ∷ ks) = word_tally_on l a (word_tally_then l a t k) ks

-- from the start
abbrev pub word_tally_of : ℕ → ℕ → List Kind → WordTally
word_tally_of l a ks = word_tally_on l a new_word_tally ks

-- each of its stores to the word is of one that it has loaded or stored since it acquired the lock, and by all of them n was
-- added, modulo 2^32
pub record AddsUpTo (l a n : ℕ) (ks : List Kind) : Type 0 where
  pub sighted : (word_tally_of l a ks).blind ≡ false
  pub sum : ((word_tally_of l a ks).taken + n) % 2 ^ 32 ≡ (word_tally_of l a ks).put % 2 ^ 32

-- a load of a word, and the store of the word with a number added, modulo 2^32
abbrev pub word_tally_adding : ℕ → ℕ → ℕ → List Kind
word_tally_adding a v n = Load a v ∷ Store a ((v + n) % 2 ^ 32) ∷ []

-- the sum of the first numbers of a sequence
abbrev pub word_tally_total : (ℕ → ℕ) → ℕ → ℕ
word_tally_total a zero = 0
word_tally_total a (suc n) = word_tally_total a n + a n

-- if a word is under a lock in each phase, and each processor says what it has added to it, then it is what it was at first, and
-- what all have added, modulo 2^32
abbrev pub WordTallyLaw : Type 0
WordTallyLaw = (s : Sizes) (g : PhaseGuards) (memory : List ℕ) (h : List Event) → WellFormed s h → AllKeepToPhaseGuards g h → Replays memory h
    → (l a first : ℕ) → ((n : ℕ) → g n a ≡ Some (Under l)) → slice_get memory a ≡ Some first
    → (amounts : ℕ → ℕ) → ((p : ℕ) → p < s.processors → AddsUpTo l a (amounts p) (deeds (events_of h p)))
    → (last : ℕ) × (slice_get (memory_after memory h) a ≡ Some last)
    × (last % 2 ^ 32 ≡ (first + word_tally_total amounts s.processors) % 2 ^ 32)
