-- States as a search keeps them: by the calls that were made, and by the places of parts, each of which is there once.
use Rattle.std.specs.Prelude.{ℕ, zero, suc, ◌≡◌, ◌+◌, ◌^◌, ◌<◌, ◌≤◌, ◌⊎◌, Bool, true, List, [], ◌∷◌, Some, length, replicate, slice_get, slice_index_or, refl}
use Rattle.std.proofs.Common.{sym, ap, ◌∙◌}
use Rattle.std.specs.Global.{Vec}
use Rattle.std.specs.List.{IsDistinct}
use Rattle.explore.specs.declared.state.call_table.CallTable.{CallTable}
use Rattle.explore.specs.declared.state.flat_state.FlatState.{FlatState}
use Rattle.explore.specs.declared.state.kept_state.KeptState.{KeptState}
use Rattle.explore.specs.declared.state.kept_state.StateAsks.{StateAsks}
use Rattle.explore.specs.declared.state.kept_state.StateMemory.{StateMemory}
use Rattle.explore.specs.declared.state.kept_state.StateParts.{StateParts}
use Rattle.explore.specs.declared.state.kept_state.StateReplies.{StateReplies}
use Rattle.explore.specs.CallTables.{HasCallsMade, call_waiting}
use Rattle.explore.specs.Machines.{MachinesInSameState, machine_rows}

-- the same words
abbrev pub AreLikeStateMemories : StateMemory → StateMemory → Type 0
AreLikeStateMemories v w = w.words.items ≡ v.words.items

-- the same replies
abbrev pub AreLikeStateReplies : StateReplies → StateReplies → Type 0
AreLikeStateReplies v w = machine_rows w.replies.items ≡ machine_rows v.replies.items

-- the same order of the asks
abbrev pub AreLikeStateAsks : StateAsks → StateAsks → Type 0
AreLikeStateAsks v w = w.asked.items ≡ v.asked.items

-- a state's parts
abbrev pub state_memory_of : FlatState → StateMemory
state_memory_of m = record { words = m.memory }

abbrev pub state_replies_of : FlatState → StateReplies
state_replies_of m = record { replies = m.replies }

abbrev pub state_asks_of : FlatState → StateAsks
state_asks_of m = record { asked = m.waiting.asked }

-- the parts at a kept state's places; the first state's, where there are none
abbrev pub kept_state_memory : StateParts → FlatState → KeptState → StateMemory
kept_state_memory x first k = slice_index_or x.memories.keys k.memory (state_memory_of first)

abbrev pub kept_state_replies : StateParts → FlatState → KeptState → StateReplies
kept_state_replies x first k = slice_index_or x.replies.keys k.replies (state_replies_of first)

abbrev pub kept_state_asks : StateParts → FlatState → KeptState → StateAsks
kept_state_asks x first k = slice_index_or x.asks.keys k.asks (state_asks_of first)

-- a word in front of others; a 0 in front of none is left out
abbrev pub trimmed_onto : ℕ → List ℕ → List ℕ
trimmed_onto zero [] = []
trimmed_onto zero (w ∷ ws) = 0 ∷ w ∷ ws
trimmed_onto (suc n) ws = suc n ∷ ws

-- words without the zeros at their end
abbrev pub trimmed_words : List ℕ → List ℕ
trimmed_words [] = []
trimmed_words (w ∷ ws) = trimmed_onto w (trimmed_words ws)

-- words over the first of others
abbrev pub words_over : List ℕ → List ℕ → List ℕ
words_over [] ys = ys
words_over (x ∷ xs) [] = []
words_over (x ∷ xs) (y ∷ ys) = x ∷ words_over xs ys

pub length-words_over : (xs ys : List ℕ) → length (words_over xs ys) ≡ length ys
length-words_over [] ys = refl
length-words_over (x ∷ xs) [] = refl
length-words_over (x ∷ xs) (y ∷ ys) = ap suc (length-words_over xs ys)

-- a vector with these words over its first ones
abbrev pub vector_with_words_over : Vec ℕ → List ℕ → Vec ℕ
vector_with_words_over v words = record {
  ptr = v.ptr;
  len = v.len;
  cap = v.cap;
  alloc = v.alloc;
  items = words_over words v.items;
  ok = (v.ok.0 ∙ sym (length-words_over words v.items), v.ok.1);
  small = v.small;
}

-- the state that is kept so: what outcomes tell is told by the first one, whose words are 0, as are those that aren't kept
abbrev pub opened_state : StateParts → FlatState → KeptState → FlatState
opened_state x first k = record {
  telling = first.telling;
  done = k.done;
  replies = (kept_state_replies x first k).replies;
  memory = vector_with_words_over first.memory (kept_state_memory x first k).words.items;
  waiting = call_waiting x.calls k.done (kept_state_asks x first k).asked;
}

-- both tell the same, and the first one's words are as many, all 0
pub record AreOfOneSearch (first m : FlatState) : Type 0 where
  pub telling : first.telling ≡ m.telling
  pub zeros : first.memory.items ≡ replicate (length m.memory.items) 0

-- the words don't end with a 0, and are no more than this
pub record IsTrimmedMemory (most : ℕ) (v : StateMemory) : Type 0 where
  pub trimmed : trimmed_words v.words.items ≡ v.words.items
  pub short : length v.words.items ≤ most

abbrev pub AreTrimmedMemories : StateParts → ℕ → Type 0
AreTrimmedMemories x most = (i : ℕ) (v : StateMemory) → slice_get x.memories.keys i ≡ Some v → IsTrimmedMemory most v

-- its places have parts, and what its calls tell is there
pub record IsKeptStateWithin (x : StateParts) (k : KeptState) : Type 0 where
  pub memory : k.memory < length x.memories.keys
  pub replies : k.replies < length x.replies.keys
  pub asks : k.asks < length x.asks.keys
  pub done : HasCallsMade x.calls k.done

-- what is the same has one place
abbrev pub HasStatePartsOnce : {A : Type 0} → (A → A → Type 0) → List A → Type 0
HasStatePartsOnce like xs = (i k : ℕ) (a b : _) → slice_get xs i ≡ Some a → slice_get xs k ≡ Some b → like a b → i ≡ k

-- each part is there once
pub record AreStatePartsOnce (x : StateParts) : Type 0 where
  pub memories : HasStatePartsOnce AreLikeStateMemories x.memories.keys
  pub replies : HasStatePartsOnce AreLikeStateReplies x.replies.keys
  pub asks : HasStatePartsOnce AreLikeStateAsks x.asks.keys

-- so many parts have places of 32 bits
abbrev pub most_state_parts : ℕ
most_state_parts = 2 ^ 32

-- there are no more of any part than this
pub record AreFewStateParts (x : StateParts) (most : ℕ) : Type 0 where
  pub memories : length x.memories.keys ≤ most
  pub replies : length x.replies.keys ≤ most
  pub asks : length x.asks.keys ≤ most

-- there are none yet
pub record AreNoStateParts (calls : CallTable) (x : StateParts) : Type 0 where
  pub calls_are : x.calls ≡ calls
  pub once : AreStatePartsOnce x
  pub none : AreFewStateParts x 0

-- what was there keeps its place
abbrev pub KeepsStateParts : {A : Type 0} → List A → List A → Type 0
KeepsStateParts old new = (i : ℕ) (a : _) → slice_get old i ≡ Some a → slice_get new i ≡ Some a

-- one came at the end, or none did, if place i was there before
pub record HasStatePartsGrown {A : Type 0} (old new : List A) (i : ℕ) : Type 0 where
  pub by_one : length new ≤ length old + 1
  pub not_by_old : i < length old → length new ≡ length old

-- the part a stands at place i, and what was there keeps its place
pub record IsStatePartPlaced {A : Type 0} (eq : A → A → Bool) (old new : List A) (a : A) (i : ℕ) : Type 0 where
  pub keeps : KeepsStateParts old new
  pub grown : HasStatePartsGrown old new i
  pub once : IsDistinct eq new
  pub part : A
  pub at : slice_get new i ≡ Some part
  pub same : eq a part ≡ true

-- the words of the memory stand at place i, without zeros at their end, and what was there keeps its place
pub record IsStateMemoryPlaced (old new : List StateMemory) (memory : List ℕ) (i : ℕ) : Type 0 where
  pub keeps : KeepsStateParts old new
  pub no_other : (k : ℕ) (b : StateMemory) → slice_get new k ≡ Some b → (slice_get old k ≡ Some b) ⊎ (b.words.items ≡ trimmed_words memory)
  pub grown : HasStatePartsGrown old new i
  pub once : HasStatePartsOnce AreLikeStateMemories new
  pub part : StateMemory
  pub at : slice_get new i ≡ Some part
  pub words : part.words.items ≡ trimmed_words memory

-- parts keep their places
pub record AreStatePartsKept (x y : StateParts) : Type 0 where
  pub calls : y.calls ≡ x.calls
  pub memories : KeepsStateParts x.memories.keys y.memories.keys
  pub replies : KeepsStateParts x.replies.keys y.replies.keys
  pub asks : KeepsStateParts x.asks.keys y.asks.keys

-- each part came at the end, or was there
pub record AreStatePartsGrown (x y : StateParts) (k : KeptState) : Type 0 where
  pub memories : HasStatePartsGrown x.memories.keys y.memories.keys k.memory
  pub replies : HasStatePartsGrown x.replies.keys y.replies.keys k.replies
  pub asks : HasStatePartsGrown x.asks.keys y.asks.keys k.asks

-- the parts y have the parts of the state m too, and this is how it is kept
pub record IsStateKept (x y : StateParts) (m : FlatState) (k : KeptState) : Type 0 where
  pub keeps : AreStatePartsKept x y
  pub grown : AreStatePartsGrown x y k
  pub once : AreStatePartsOnce y
  pub within : IsKeptStateWithin y k
  pub trimmed : AreTrimmedMemories x (length m.memory.items) → AreTrimmedMemories y (length m.memory.items)
  pub like : (first : FlatState) → AreOfOneSearch first m → MachinesInSameState m (opened_state y first k)
