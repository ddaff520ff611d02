-- States as a search keeps them: parts keep their places, so what is kept stays the same state.
use Rattle.std.proofs.Common.{ℕ, suc, ◌≡◌, ◌+◌, ◌<◌, ◌⊎◌, inl, inr, Bool, true, false, List, [], ◌∷◌, ◌++◌, Some, length, map, replicate, slice_get, slice_index_or, refl, sym, ap, ap₂, subst, ◌∙◌, length-append, arith}
use Rattle.std.specs.Global.{Vec}
use Rattle.std.specs.Prelude.{nat_eq}
use Rattle.std.specs.List.{IsDistinct, list_any}
use Rattle.std.specs.Prelude.{if◌then◌else◌}
use Rattle.std.proofs.lemmas.List.Folds.{list_any_at}
use Rattle.base.proofs.SlicesAndCounts.{slice_get-append_left, slice_push_cases}
use Rattle.std.specs.Cmp.Lexicographic.{pointwise}
use Rattle.std.proofs.lemmas.Bool.{and_from, cases_lt, eq-eqb, false≢true}
use Rattle.std.proofs.lemmas.Option.{same_Some, slice_get-get_or, slice_get_within}
use Rattle.explore.specs.declared.state.flat_state.FlatState.{FlatState}
use Rattle.explore.specs.declared.state.kept_state.KeptState.{KeptState}
use Rattle.explore.specs.declared.state.kept_state.StateParts.{StateParts}
use Rattle.explore.specs.declared.state.kept_state.StateAsks.{StateAsks}
use Rattle.explore.specs.declared.state.kept_state.StateMemory.{StateMemory}
use Rattle.explore.specs.declared.state.kept_state.StateReplies.{StateReplies}
use Rattle.explore.specs.declared.state.call_table.CallTable.{CallTable}
use Rattle.explore.specs.CallTables.{HasCallsMade, IsStateOfCalls, call_waiting}
use Rattle.explore.specs.KeptStates.{AreFewStateParts, AreOfOneSearch, AreTrimmedMemories, IsTrimmedMemory, trimmed_words, vector_with_words_over, words_over, AreLikeStateAsks, AreLikeStateMemories, AreLikeStateReplies, AreStatePartsGrown, AreStatePartsKept, AreStatePartsOnce, HasStatePartsOnce, IsStateMemoryPlaced, IsStatePartPlaced, IsKeptStateWithin, KeepsStateParts, kept_state_asks, kept_state_memory, kept_state_replies, opened_state, state_asks_of, state_memory_of, state_replies_of}
use Rattle.explore.specs.KeptWaiting.{IsLikeKeptWaiting, kept_waiting_asked}
use Rattle.journal.specs.declared.event.Event.{Event}
use Rattle.lrc_script.specs.Plan.{Plan}
use Rattle.explore.specs.Machines.{MachineKnows, MachinesInSameState}
use Rattle.explore.proofs.Determined.{determined_apart_at}
use Rattle.explore.proofs.MachineSteps.{machine_step_memory_long, machine_step_some_at}
use Rattle.explore.proofs.Equals.{equal_rows, equal_state_memory_like, kept_state_equal, state_asks_equal, state_memory_equal, state_replies_equal}
use Rattle.explore.proofs.TrimmedWords.{trimmed_words_again, trimmed_words_back, trimmed_words_over, trimmed_words_short}
use Rattle.explore.proofs.CallTables.Told.{call_told_asked, call_told_like}

-- a list is found equal to itself
kept_state_equal_lists : {A : Type 0} (E : A → A → Bool) → ((a : A) → E a a ≡ true) → (xs ys : List A) → ys ≡ xs
    → pointwise E xs ys ≡ true
kept_state_equal_lists E own xs ys same = subst (λ zs. pointwise E xs zs ≡ true) (sym same) (go xs)
  where
    go : (zs : List _) → pointwise E zs zs ≡ true
    go [] = refl
    go (z ∷ zs) = and_from (E z z) (pointwise E zs zs) (own z) (go zs)

kept_state_equal_number : (n : ℕ) → nat_eq n n ≡ true
kept_state_equal_number n = eq-eqb n n refl

-- keys of a set that are found equal wherever they are the same have one place
kept_state_once : {A : Type 0} (eq : A → A → Bool) (like : A → A → Type 0) → ((a b : A) → like a b → like b a)
    → ((a b : A) → like a b → eq a b ≡ true) → (xs : List A) → IsDistinct eq xs → HasStatePartsOnce like xs
kept_state_once eq like back found xs distinct i k a b at_a at_b same = elim (cases_lt i k) [
  | inl lt ↦ absurd (false≢true (sym (determined_apart_at eq xs distinct i k a b lt at_a at_b) ∙ found a b same))
  | inr le ↦ elim (cases_lt k i) [
    | inl lt ↦ absurd (false≢true (sym (determined_apart_at eq xs distinct k i b a lt at_b at_a) ∙ found b a (back a b same)))
    | inr ge ↦ omega arith
  ]
]

pub kept_state_memories_once : (xs : List StateMemory) → IsDistinct state_memory_equal xs → HasStatePartsOnce AreLikeStateMemories xs
kept_state_memories_once xs = kept_state_once state_memory_equal AreLikeStateMemories (λ a b like. sym like)
    (λ a b like. kept_state_equal_lists nat_eq kept_state_equal_number a.words.items b.words.items like) xs

pub kept_state_replies_once : (xs : List StateReplies) → IsDistinct state_replies_equal xs → HasStatePartsOnce AreLikeStateReplies xs
kept_state_replies_once xs = kept_state_once state_replies_equal AreLikeStateReplies (λ a b like. sym like)
    (λ a b like. equal_rows a.replies.items b.replies.items (sym like)) xs

pub kept_state_asks_once : (xs : List StateAsks) → IsDistinct state_asks_equal xs → HasStatePartsOnce AreLikeStateAsks xs
kept_state_asks_once xs = kept_state_once state_asks_equal AreLikeStateAsks (λ a b like. sym like)
    (λ a b like. kept_state_equal_lists nat_eq kept_state_equal_number a.asked.items b.asked.items like) xs

-- so a place reads the same
kept_state_read : {A : Type 0} (old new : List A) (i : ℕ) (d : A) → KeepsStateParts old new → i < length old
    → slice_index_or new i d ≡ slice_index_or old i d
kept_state_read old new i d keeps lt =
    let there = keeps i (slice_index_or old i d) (slice_get-get_or old i d lt) in
    same_Some (slice_index_or new i d) (slice_index_or old i d)
    (sym (slice_get-get_or new i d (slice_get_within new i (slice_index_or old i d) there)) ∙ there)

pub kept_state_opens_same : (x y : StateParts) (first : FlatState) (k : KeptState) → AreStatePartsKept x y → IsKeptStateWithin x k
    → opened_state y first k ≡ opened_state x first k
kept_state_opens_same x y first k keeps within =
    let memory = kept_state_read x.memories.keys y.memories.keys k.memory (state_memory_of first) keeps.memories within.memory in
    let replies = kept_state_read x.replies.keys y.replies.keys k.replies (state_replies_of first) keeps.replies within.replies in
    let asks = kept_state_read x.asks.keys y.asks.keys k.asks (state_asks_of first) keeps.asks within.asks in
    ap (λ t. opens t (kept_state_memory y first k) (kept_state_replies y first k) (kept_state_asks y first k)) keeps.calls
    ∙ ap (λ v. opens x.calls v (kept_state_replies y first k) (kept_state_asks y first k)) memory
    ∙ ap (λ v. opens x.calls (kept_state_memory x first k) v (kept_state_asks y first k)) replies
    ∙ ap (opens x.calls (kept_state_memory x first k) (kept_state_replies x first k)) asks
  where
    opens : CallTable → StateMemory → StateReplies → StateAsks → FlatState
    opens t v r a = record {
      telling = first.telling;
      done = k.done;
      replies = r.replies;
      memory = vector_with_words_over first.memory v.words.items;
      waiting = call_waiting t k.done a.asked;
    }

-- and its places have parts still
kept_state_place_within : {A : Type 0} (old new : List A) (i : ℕ) → KeepsStateParts old new → i < length old → i < length new
kept_state_place_within old new i keeps lt =
    let at = machine_step_some_at old i lt in slice_get_within new i at.0 (keeps i at.0 at.1)

pub kept_state_stays_within : (x y : StateParts) (k : KeptState) → AreStatePartsKept x y → IsKeptStateWithin x k → IsKeptStateWithin y k
kept_state_stays_within x y k keeps within = record {
  memory = kept_state_place_within x.memories.keys y.memories.keys k.memory keeps.memories within.memory;
  replies = kept_state_place_within x.replies.keys y.replies.keys k.replies keeps.replies within.replies;
  asks = kept_state_place_within x.asks.keys y.asks.keys k.asks keeps.asks within.asks;
  done = subst (λ t. HasCallsMade t k.done) (sym keeps.calls) within.done;
}

-- all states stay the same
pub kept_states_open_same : (x y : StateParts) (first : FlatState) (ks : List KeptState) → AreStatePartsKept x y
    → ((place : ℕ) (k : KeptState) → slice_get ks place ≡ Some k → IsKeptStateWithin x k)
    → map (opened_state y first) ks ≡ map (opened_state x first) ks
kept_states_open_same x y first [] keeps within = refl
kept_states_open_same x y first (k ∷ ks) keeps within =
    ap₂ (λ m ms. m ∷ ms) (kept_state_opens_same x y first k keeps (within 0 k refl))
    (kept_states_open_same x y first ks keeps (λ place q at. within (suc place) q at))

-- who asks is a part
kept_state_asked : (x : StateParts) (first : FlatState) (k : KeptState) → (opened_state x first k).waiting.asked ≡ (kept_state_asks x first k).asked
kept_state_asked x first k = call_told_asked x.calls.rows.items 0 k.done (kept_waiting_asked (kept_state_asks x first k).asked)

-- trimmed memories that are opened to the same words are the same
kept_state_same_memories : (first : List ℕ) (most : ℕ) (v w : StateMemory) → first ≡ replicate most 0 → IsTrimmedMemory most v → IsTrimmedMemory most w
    → words_over w.words.items first ≡ words_over v.words.items first → AreLikeStateMemories v w
kept_state_same_memories first most v w zeros one two same =
    let back : (u : StateMemory) → IsTrimmedMemory most u → trimmed_words (words_over u.words.items first) ≡ u.words.items =
    (λ u is. ap (λ xs. trimmed_words (words_over u.words.items xs)) zeros ∙ trimmed_words_back u.words.items most is.trimmed is.short) in
    sym (back w two) ∙ ap trimmed_words same ∙ back v one

-- states that are opened to the same state have the same places
pub kept_state_same_places : (x : StateParts) (first : FlatState) (most : ℕ) (a b : KeptState) → AreStatePartsOnce x → first.memory.items ≡ replicate most 0
    → AreTrimmedMemories x most → IsKeptStateWithin x a → IsKeptStateWithin x b
    → MachinesInSameState (opened_state x first a) (opened_state x first b) → kept_state_equal a b ≡ true
kept_state_same_places x first most a b once zeros trimmed within_a within_b same =
    let at_a = slice_get-get_or x.memories.keys a.memory (state_memory_of first) within_a.memory in
    let at_b = slice_get-get_or x.memories.keys b.memory (state_memory_of first) within_b.memory in
    let asked =
    ap (λ (v : Vec ℕ). v.items) (sym (kept_state_asked x first b)) ∙ same.waiting.asked ∙ ap (λ (v : Vec ℕ). v.items) (kept_state_asked x first a) in
    and_from _ _ (kept_state_equal_lists nat_eq kept_state_equal_number a.done b.done same.done)
    (and_from _ _ (eq-eqb a.memory b.memory (once.memories a.memory b.memory _ _ at_a at_b
    (kept_state_same_memories first.memory.items most _ _ zeros (trimmed a.memory _ at_a) (trimmed b.memory _ at_b) same.memory)))
    (and_from _ _ (eq-eqb a.replies b.replies (once.replies a.replies b.replies _ _ (slice_get-get_or x.replies.keys a.replies (state_replies_of first) within_a.replies)
    (slice_get-get_or x.replies.keys b.replies (state_replies_of first) within_b.replies) same.replies))
    (eq-eqb a.asks b.asks (once.asks a.asks b.asks _ _ (slice_get-get_or x.asks.keys a.asks (state_asks_of first) within_a.asks)
    (slice_get-get_or x.asks.keys b.asks (state_asks_of first) within_b.asks) asked))))

-- what a place reads
pub kept_state_reads : {A : Type 0} (xs : List A) (i : ℕ) (d a : A) → slice_get xs i ≡ Some a → slice_index_or xs i d ≡ a
kept_state_reads xs i d a at =
    same_Some (slice_index_or xs i d) a (sym (slice_get-get_or xs i d (slice_get_within xs i a at)) ∙ at)

-- the places have the parts of m
pub record HasPartsOfState (y : StateParts) (m : FlatState) (k : KeptState) : Type 0 where
  pub done : k.done ≡ m.done
  pub memory : StateMemory
  pub memory_at : slice_get y.memories.keys k.memory ≡ Some memory
  pub memory_like : memory.words.items ≡ trimmed_words m.memory.items
  pub replies : StateReplies
  pub replies_at : slice_get y.replies.keys k.replies ≡ Some replies
  pub replies_like : AreLikeStateReplies (state_replies_of m) replies
  pub asks : StateAsks
  pub asks_at : slice_get y.asks.keys k.asks ≡ Some asks
  pub asks_like : AreLikeStateAsks (state_asks_of m) asks

-- a state whose places have the parts of m is in the state of m
pub kept_state_is_like : (y : StateParts) (m first : FlatState) (k : KeptState) → IsStateOfCalls y.calls m → AreOfOneSearch first m → HasPartsOfState y m k
    → MachinesInSameState m (opened_state y first k)
kept_state_is_like y m first k known one has =
    let memory = kept_state_reads y.memories.keys k.memory (state_memory_of first) has.memory has.memory_at in
    let replies = kept_state_reads y.replies.keys k.replies (state_replies_of first) has.replies has.replies_at in
    let asks = kept_state_reads y.asks.keys k.asks (state_asks_of first) has.asks has.asks_at in
    record {
      telling = one.telling;
      done = has.done;
      replies = subst (AreLikeStateReplies (state_replies_of m)) (sym replies) has.replies_like;
      memory =
          ap (λ (v : StateMemory). words_over v.words.items first.memory.items) memory
          ∙ ap₂ words_over has.memory_like one.zeros ∙ trimmed_words_over m.memory.items;
      waiting = subst (λ done. IsLikeKeptWaiting m.waiting (call_waiting y.calls done (kept_state_asks y first k).asked)) (sym has.done)
          (call_told_like known.plan y.calls known.table known.events m known.knows (kept_state_asks y first k).asked
          (subst (AreLikeStateAsks (state_asks_of m)) (sym asks) has.asks_like));
    }

-- a part is placed as `insert_full` says
pub kept_state_part_placed : {A : Type 0} (eq : A → A → Bool) (old new : List A) (a part : A) (i : ℕ)
    → new ≡ (if list_any (eq a) old then old else old ++ a ∷ []) → IsDistinct eq new → slice_get new i ≡ Some part → eq a part ≡ true
    → IsStatePartPlaced eq old new a i
kept_state_part_placed {A} eq old new a part i is once at same = go (list_any (eq a) old) refl is
  where
    go : (b : Bool) → list_any (eq a) old ≡ b → new ≡ (if b then old else old ++ a ∷ []) → IsStatePartPlaced eq old new a i
    go true any keys = record {
      keeps = λ k x here. ap (λ xs. slice_get xs k) keys ∙ here;
      grown = (let long = ap (λ (xs : List A). length xs) keys in record { by_one = omega (arith, long); not_by_old = λ lt. long });
      once = once;
      part = part;
      at = at;
      same = same;
    }
    go false none keys = record {
      keeps = λ k x here. ap (λ xs. slice_get xs k) keys ∙ slice_get-append_left old (a ∷ []) k (slice_get_within old k x here) ∙ here;
      grown = (let long = ap (λ (xs : List A). length xs) keys ∙ length-append old (a ∷ []) in record {
        by_one = omega (arith, long);
        not_by_old = λ lt.
            let there = sym (slice_get-append_left old (a ∷ []) i lt) ∙ ap (λ xs. slice_get xs i) (sym keys) ∙ at in
            absurd (false≢true (sym none ∙ list_any_at (eq a) old i part lt (ap (eq a) (kept_state_reads old i part part there) ∙ same)));
      });
      once = once;
      part = part;
      at = at;
      same = same;
    }

-- the memory that is at the likely place is the one
pub kept_state_memory_there : (old : List StateMemory) (part : StateMemory) (memory : List ℕ) (i : ℕ) → IsDistinct state_memory_equal old
    → slice_get old i ≡ Some part → part.words.items ≡ trimmed_words memory → IsStateMemoryPlaced old old memory i
kept_state_memory_there old part memory i once at words = record {
  keeps = λ k x here. here;
  no_other = λ k b here. inl here;
  grown = record { by_one = omega arith; not_by_old = λ lt. refl };
  once = kept_state_memories_once old once;
  part = part;
  at = at;
  words = words;
}

-- or it is placed as any part is
pub kept_state_memory_placed : (old new : List StateMemory) (a : StateMemory) (memory : List ℕ) (i : ℕ)
    → new ≡ (if list_any (state_memory_equal a) old then old else old ++ a ∷ []) → IsStatePartPlaced state_memory_equal old new a i
    → a.words.items ≡ trimmed_words memory → IsStateMemoryPlaced old new memory i
kept_state_memory_placed old new a memory i keys placed words = record {
  keeps = placed.keeps;
  no_other = λ k b here. elim (none_else (list_any (state_memory_equal a) old) keys k b here) [
    | inl before ↦ inl before
    | inr is ↦ inr (ap (λ (v : StateMemory). v.words.items) is ∙ words)
  ];
  grown = placed.grown;
  once = kept_state_memories_once new placed.once;
  part = placed.part;
  at = placed.at;
  words = equal_state_memory_like a placed.part placed.same ∙ words;
}
  where
    none_else : (b : Bool) → new ≡ (if b then old else old ++ a ∷ []) → (k : ℕ) (x : StateMemory) → slice_get new k ≡ Some x
        → (slice_get old k ≡ Some x) ⊎ (x ≡ a)
    none_else true is k x here = inl (ap (λ xs. slice_get xs k) (sym is) ∙ here)
    none_else false is k x here = elim (slice_push_cases old a k x (ap (λ xs. slice_get xs k) (sym is) ∙ here)) [
      | inl before ↦ inl before.1
      | inr now ↦ inr (sym now.1)
    ]

-- if each part came at the end or was there, there is at most one more of each
pub kept_state_parts_few_more : (x y : StateParts) (k : KeptState) (n : ℕ) → AreStatePartsGrown x y k → AreFewStateParts x n → AreFewStateParts y (n + 1)
kept_state_parts_few_more x y k n grown few = record {
  memories = (let one = grown.memories.by_one in let was = few.memories in omega (arith, one, was));
  replies = (let one = grown.replies.by_one in let was = few.replies in omega (arith, one, was));
  asks = (let one = grown.asks.by_one in let was = few.asks in omega (arith, one, was));
}

-- and none, if its places were there
pub kept_state_parts_few_still : (x y : StateParts) (k : KeptState) (n : ℕ) → AreStatePartsGrown x y k → IsKeptStateWithin x k → AreFewStateParts x n
    → AreFewStateParts y n
kept_state_parts_few_still x y k n grown within few = record {
  memories = (let same = grown.memories.not_by_old within.memory in let was = few.memories in omega (arith, same, was));
  replies = (let same = grown.replies.not_by_old within.replies in let was = few.replies in omega (arith, same, was));
  asks = (let same = grown.asks.not_by_old within.asks in let was = few.asks in omega (arith, same, was));
}

-- a state of the script is of one search with the first one
pub kept_state_of_one_search : (s : Plan) (g : List Event) (first m : FlatState) → MachineKnows s [] first → MachineKnows s g m
    → first.telling ≡ m.telling → AreOfOneSearch first m
kept_state_of_one_search s g first m begins knows telling = record {
  telling = telling;
  zeros = begins.memory ∙ ap (λ n. replicate n 0) (sym (machine_step_memory_long s g m knows));
}

-- a trimmed memory more
pub kept_state_trimmed_more : (old new : List StateMemory) (ws : List ℕ)
    → ((k : ℕ) (b : StateMemory) → slice_get new k ≡ Some b → (slice_get old k ≡ Some b) ⊎ (b.words.items ≡ trimmed_words ws))
    → ((k : ℕ) (b : StateMemory) → slice_get old k ≡ Some b → IsTrimmedMemory (length ws) b)
    → (k : ℕ) (b : StateMemory) → slice_get new k ≡ Some b → IsTrimmedMemory (length ws) b
kept_state_trimmed_more old new ws no_other was k b at = elim (no_other k b at) [
  | inl before ↦ was k b before
  | inr is ↦ record {
    trimmed = ap trimmed_words is ∙ trimmed_words_again ws ∙ sym is;
    short = (let long = ap (λ (xs : List ℕ). length xs) is in let short = trimmed_words_short ws in omega (arith, long, short));
  }
]
