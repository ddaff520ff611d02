-- What a journal keeps of the events that were cut off, and how one more event changes it.
use Rattle.std.specs.Prelude.{ℕ, ◌≡◌, ◌+◌, ◌*◌, ◌^◌, ◌≤◌, ◌==◌, ◌&&◌, not, cond, filter, List, [], ◌∷◌, ◌++◌, length}
use Rattle.std.specs.List.{list_any}
use Rattle.base.specs.Limits.{most_cut}
use Rattle.base.specs.LastWrite.{wrote}
use Rattle.journal.specs.declared.event.Event.{Event}
use Rattle.journal.specs.declared.event.Kind.{Kind}
use Rattle.journal.specs.declared.event.Kind.TheVariants.{Acquire, Release, Set}
use Rattle.journal.specs.declared.traffic.Traffic.{Traffic}
use Rattle.journal.specs.declared.base_state.KeptBaseState.{KeptBaseState}
use Rattle.journal.specs.ReplayMemory.{replay_memory_write}
use Rattle.journal.specs.Traffic.{traffic_messages_of, traffic_records_of, traffic_words_fetched}
use Rattle.journal.specs.Base.{Base}

abbrev pub base_of_kept_state : KeptBaseState → Base
base_of_kept_state k = record {
  cut = k.cut;
  memory = k.memory.items;
  holders = k.holders.items;
  flags = k.flags.items;
  spent = k.spent;
}

-- that many events cost less than this each
abbrev pub AreKeptBaseStateCosts : ℕ → Traffic → Type 0
AreKeptBaseStateCosts n t = (t.messages ≤ n * 2 ^ 33) × (t.records ≤ n * 2 ^ 33) × (t.words ≤ n * 2 ^ 33)

-- the memory has this many words, and few events were cut off
pub record IsKeptBaseState (addresses : ℕ) (k : KeptBaseState) : Type 0 where
  pub long : length k.memory.items ≡ addresses
  pub few : k.cut ≤ most_cut
  pub spent : AreKeptBaseStateCosts k.cut k.spent

-- these without p's hold of l
abbrev pub kept_base_state_released : List (ℕ × ℕ) → ℕ → ℕ → List (ℕ × ℕ)
kept_base_state_released held p l = filter (λ (h : ℕ × ℕ). not ((h.0 == p) && (h.1 == l))) held

-- who holds which lock after p's event
abbrev pub kept_state_holders_after : List (ℕ × ℕ) → ℕ → Kind → List (ℕ × ℕ)
kept_state_holders_after held p (Acquire l) = held ++ (p, l) ∷ []
kept_state_holders_after held p (Release l) = kept_base_state_released held p l
kept_state_holders_after held p _ = held

-- which flags are set after an event
abbrev pub kept_state_flags_after : List ℕ → Kind → List ℕ
kept_state_flags_after flags (Set f) = cond (list_any (λ g. g == f) flags) flags (flags ++ f ∷ [])
kept_state_flags_after flags _ = flags

-- what is kept after one more event
pub record IsKeptBaseStateAfter (old : KeptBaseState) (e : Event) (new : KeptBaseState) : Type 0 where
  pub cut : new.cut ≡ old.cut + 1
  pub memory : new.memory.items ≡ wrote old.memory.items (replay_memory_write e.kind)
  pub holders : new.holders.items ≡ kept_state_holders_after old.holders.items e.processor e.kind
  pub flags : new.flags.items ≡ kept_state_flags_after old.flags.items e.kind
  pub messages_are : new.spent.messages ≡ old.spent.messages + traffic_messages_of e.kind
  pub records_are : new.spent.records ≡ old.spent.records + traffic_records_of e.kind
  pub words_are : new.spent.words ≡ old.spent.words + traffic_words_fetched e.kind
