-- One flat memory, to which the events are done in the journal's order.
use Rattle.std.specs.Prelude.{ℕ, ◌≡◌, Option, Some, None, List, take, slice_get}
use Rattle.journal.specs.declared.event.Event.{Event}
use Rattle.journal.specs.declared.event.Kind.{Kind}
use Rattle.journal.specs.declared.event.Kind.TheVariants.{Load, Store}
use Rattle.journal.specs.WellFormed.{Does}
use Rattle.base.specs.LastWrite.{written}

-- the address and the value of a store
abbrev pub replay_memory_write : Kind → Option (ℕ × ℕ)
replay_memory_write (Store a v) = Some (a, v)
replay_memory_write _ = None

-- the memory after the stores of these events
abbrev pub memory_after : List ℕ → List Event → List ℕ
memory_after memory es = written (λ (e : Event). replay_memory_write e.kind) memory es

-- each load answers its word at that place
abbrev pub Replays : List ℕ → List Event → Type 0
Replays start j = (i p a v : ℕ) → Does j i p (Load a v) → slice_get (memory_after start (take i j)) a ≡ Some v

-- a load's reply is its word of the memory
abbrev pub AnswersReplayMemory : List ℕ → Kind → Type 0
AnswersReplayMemory memory (Load a v) = slice_get memory a ≡ Some v
AnswersReplayMemory memory _ = Unit {0}
