-- Rounds: phases in each of which each processor makes words of its own from words that nobody changes then.
use Rattle.std.specs.Prelude.{ℕ, zero, suc, ◌≡◌, ◌≢◌, ◌<◌, ◌⊎◌, ◌==◌, Bool, true, false, ◌&&◌, if◌then◌else◌, Some, List, [], ◌∷◌, ◌++◌, count_by, length, slice_get}
use Rattle.base.specs.LastWrite.{written}
use Rattle.journal.specs.declared.event.Event.{Event}
use Rattle.journal.specs.declared.event.Kind.{Kind}
use Rattle.journal.specs.declared.event.Kind.TheVariants.{Acquire, Load, Store}
use Rattle.journal.specs.Events.{events_of, event_departs}
use Rattle.journal.specs.ReplayMemory.{Replays, replay_memory_write, memory_after}
use Rattle.journal.specs.Sizes.{Sizes}
use Rattle.journal.specs.WellFormed.{WellFormed}
use Rattle.cluster.specs.Copies.Local.{Local}
use Rattle.seats.specs.declared.guard.Guard.TheVariants.{Open}
use Rattle.seats.specs.Deeds.{deeds}
use Rattle.seats.specs.PhaseGuards.{PhaseGuards, guard_phase_after}
use Rattle.seats.specs.GuardLaws.{AllKeepToPhaseGuards}
use Rattle.seats.specs.Sitting.{seat_deeds}
use Rattle.seats.specs.Tables.{table_range_has}
use Rattle.seats.specs.Tenures.{TenureAnswersFrom}

-- how many words there are; whether in this round this processor makes the word of this address; the memory after this round
-- by the one before
pub record Rounds : Type 0 where
  pub words : ℕ
  pub makes : ℕ → ℕ → ℕ → Bool
  pub after : ℕ → List ℕ → List ℕ

-- the memory after the first n rounds
abbrev pub rounds_after : Rounds → ℕ → List ℕ → List ℕ
rounds_after r zero memory = memory
rounds_after r (suc n) memory = r.after n (rounds_after r n memory)

-- each round leaves as many words, and each is made by some processor, or left as it was
pub record AreRoundsFull (r : Rounds) (processors : ℕ) : Type 0 where
  pub long : (n : ℕ) (memory : List ℕ) → length memory ≡ r.words → length (r.after n memory) ≡ r.words
  pub each : (n : ℕ) (memory : List ℕ) (a : ℕ) → length memory ≡ r.words → a < r.words
      → ((p : ℕ) × (p < processors) × (r.makes n p a ≡ true)) ⊎ (slice_get (r.after n memory) a ≡ slice_get memory a)

abbrev pub is_access : Kind → Bool
is_access (Load a v) = true
is_access (Store a v) = true
is_access _ = false

-- whether all of these are accesses
abbrev pub all_access : List Kind → Bool
all_access [] = true
all_access (k ∷ ks) = is_access k && all_access ks

-- by these accesses in round n, from any memory that answers the loads among them, these words are those after the round, and
-- all others are as they were
pub record HasMade (r : Rounds) (n : ℕ) (made : ℕ → Bool) (ks : List Kind) : Type 0 where
  pub accesses : all_access ks ≡ true
  pub each : (memory : List ℕ) (a : ℕ) → length memory ≡ r.words → TenureAnswersFrom memory ks
      → slice_get (written replay_memory_write memory ks) a ≡ slice_get (if made a then r.after n memory else memory) a

-- the same of the addresses from one up to before another, since a processor was the old one
pub record IsMaking (r : Rounds) (n from to : ℕ) (old new : Local) : Type 0 where
  pub accesses : List Kind
  pub deeds_are : seat_deeds new ≡ seat_deeds old ++ accesses
  pub made : HasMade r n (table_range_has from to) accesses

-- the phase after this event
abbrev pub round_then : ℕ → Kind → ℕ
round_then m k = if event_departs k then suc m else m

-- the accesses of phase n among these, which begin in phase m
abbrev pub round_part_on : ℕ → ℕ → List Kind → List Kind
round_part_on n m [] = []
round_part_on n m (k ∷ ks) = (if (m == n) && is_access k then k ∷ [] else []) ++ round_part_on n (round_then m k) ks

-- the accesses of a phase, from the start
abbrev pub round_part_in : ℕ → List Kind → List Kind
round_part_in n ks = round_part_on n 0 ks

abbrev pub is_round_acquire : Kind → Bool
is_round_acquire (Acquire l) = true
is_round_acquire _ = false

-- p has made its words in each of n rounds, each ended at the barrier, under no lock, and has accessed nothing since
pub record HasMadeRounds (r : Rounds) (p n : ℕ) (ks : List Kind) : Type 0 where
  pub ended : guard_phase_after ks ≡ n
  pub each : (m : ℕ) → m < n → HasMade r m (r.makes m p) (round_part_in m ks)
  pub since : round_part_in n ks ≡ []
  pub unlocked : count_by is_round_acquire ks ≡ 0

-- a history that replays from this memory, of processors that keep to guards which leave no word open to all, and have each
-- made their words in n rounds
pub record IsInRounds (r : Rounds) (n : ℕ) (s : Sizes) (g : PhaseGuards) (memory : List ℕ) (h : List Event) : Type 0 where
  pub well_formed : WellFormed s h
  pub some : 0 < s.processors
  pub keep : AllKeepToPhaseGuards g h
  pub closed : (m a : ℕ) → g m a ≢ Some Open
  pub replays : Replays memory h
  pub long : length memory ≡ r.words
  pub covered : AreRoundsFull r s.processors
  pub each : (p : ℕ) → p < s.processors → HasMadeRounds r p n (deeds (events_of h p))

-- the memory after it is that after n rounds, whatever order the processors' accesses came in
abbrev pub RoundsLaw : Type 0
RoundsLaw = (r : Rounds) (n : ℕ) (s : Sizes) (g : PhaseGuards) (memory : List ℕ) (h : List Event)
    → IsInRounds r n s g memory h → memory_after memory h ≡ rounds_after r n memory
