-- Parts of states that `==` finds equal are the same.
use Rattle.std.proofs.Common.{ℕ, ◌≡◌, Bool, true, false, ◌&&◌, List, [], ◌∷◌, map, refl, sym, ap, ap₂, subst, ◌∙◌}
use Rattle.std.specs.Prelude.{nat_eq, not, if◌then◌else◌}
use Rattle.std.specs.Global.{Vec}
use Rattle.std.specs.Cmp.Lexicographic.{pointwise, same_text}
use Rattle.std.proofs.lemmas.Bool.{and_from, and_parts, eqb-true, false≢true}
use Rattle.std.proofs.lemmas.Cmp.{nat_list_eq_equiv}
use Rattle.explore.specs.declared.state.kept_state.KeptState.{KeptState}
use Rattle.explore.specs.declared.state.kept_state.StateAsks.{StateAsks}
use Rattle.explore.specs.declared.state.kept_state.StateMemory.{StateMemory}
use Rattle.explore.specs.declared.state.kept_state.StateReplies.{StateReplies}
use Rattle.explore.specs.declared.outcomes.answer.ScriptOutcome.{ScriptOutcome}
use Rattle.explore.specs.Explored.{explored_outcome}
use Rattle.explore.specs.KeptStates.{AreLikeStateAsks, AreLikeStateMemories, AreLikeStateReplies}
use Rattle.explore.specs.Machines.{machine_rows}

-- lists whose items are found equal are the same
equal_items : {A B : Type 0} (f : A → B) (E : A → A → Bool) → ((a b : A) → E a b ≡ true → f b ≡ f a) → (xs ys : List A)
    → pointwise E xs ys ≡ true → map f ys ≡ map f xs
equal_items f E same [] [] h = refl
equal_items f E same [] (y ∷ ys) h = absurd (false≢true h)
equal_items f E same (x ∷ xs) [] h = absurd (false≢true h)
equal_items f E same (x ∷ xs) (y ∷ ys) h =
    let both = and_parts (E x y) (pointwise E xs ys) h in
    ap₂ (λ z zs. z ∷ zs) (same x y both.0) (equal_items f E same xs ys both.1)

pub equal_numbers : (xs ys : List ℕ) → pointwise nat_eq xs ys ≡ true → ys ≡ xs
equal_numbers xs ys h = sym (same_text xs ys (sym h))

-- what `==` tests of memories
abbrev pub state_memory_equal : StateMemory → StateMemory → Bool
state_memory_equal v w = pointwise nat_eq v.words.items w.words.items

pub equal_state_memory_like : (v w : StateMemory) → state_memory_equal v w ≡ true → AreLikeStateMemories v w
equal_state_memory_like v w = equal_numbers v.words.items w.words.items

-- and of replies
abbrev pub state_replies_equal : StateReplies → StateReplies → Bool
state_replies_equal v w = pointwise (λ (a b : Vec ℕ). pointwise nat_eq a.items b.items) v.replies.items w.replies.items

pub equal_state_replies_like : (v w : StateReplies) → state_replies_equal v w ≡ true → AreLikeStateReplies v w
equal_state_replies_like v w =
    equal_items (λ (a : Vec ℕ). a.items) (λ (a b : Vec ℕ). pointwise nat_eq a.items b.items) (λ a b. equal_numbers a.items b.items) v.replies.items
    w.replies.items

-- and of asks
abbrev pub state_asks_equal : StateAsks → StateAsks → Bool
state_asks_equal v w = pointwise nat_eq v.asked.items w.asked.items

pub equal_state_asks_like : (v w : StateAsks) → state_asks_equal v w ≡ true → AreLikeStateAsks v w
equal_state_asks_like v w = equal_numbers v.asked.items w.asked.items

-- and of states as they are kept
abbrev pub kept_state_equal : KeptState → KeptState → Bool
kept_state_equal a b =
    pointwise nat_eq a.done b.done && (nat_eq a.memory b.memory && (nat_eq a.replies b.replies && nat_eq a.asks b.asks))

pub equal_kept_state_same : (a b : KeptState) → kept_state_equal a b ≡ true → b ≡ a
equal_kept_state_same a b h =
    let p = and_parts (pointwise nat_eq a.done b.done) _ h in
    let q = and_parts (nat_eq a.memory b.memory) _ p.1 in
    let r = and_parts (nat_eq a.replies b.replies) _ q.1 in
    let done = equal_numbers a.done b.done p.0 in
    let memory = sym (eqb-true a.memory b.memory q.0) in
    let replies = sym (eqb-true a.replies b.replies r.0) in
    let asks = sym (eqb-true a.asks b.asks r.1) in
    ap (λ n. made n b.memory b.replies b.asks) done ∙ ap (λ n. made a.done n b.replies b.asks) memory
    ∙ ap (λ n. made a.done a.memory n b.asks) replies ∙ ap (made a.done a.memory a.replies) asks
  where
    made : List ℕ → ℕ → ℕ → ℕ → KeptState
    made done memory replies asks = record { done = done; memory = memory; replies = replies; asks = asks }

-- what `insert` leaves, where it says that the key is no new one
pub equal_keys_kept : {A : Type 0} (is_there is_new : Bool) (old more new : List A) → is_new ≡ false → is_new ≡ not is_there
    → new ≡ (if is_there then old else more) → new ≡ old
equal_keys_kept true is_new old more new old_one added keys = keys
equal_keys_kept false is_new old more new old_one added keys = absurd (false≢true (sym old_one ∙ added))

-- and where it says that it is one
pub equal_keys_put : {A : Type 0} (is_there is_new : Bool) (old more new : List A) → is_new ≡ true → is_new ≡ not is_there
    → new ≡ (if is_there then old else more) → new ≡ more
equal_keys_put true is_new old more new new_one added keys = absurd (false≢true (sym added ∙ new_one))
equal_keys_put false is_new old more new new_one added keys = keys

-- rows that have the same are found equal
pub equal_rows : (vs ws : List (Vec ℕ)) → machine_rows vs ≡ machine_rows ws
    → pointwise (λ (v w : Vec ℕ). pointwise nat_eq v.items w.items) vs ws ≡ true
equal_rows [] [] same = refl
equal_rows [] (w ∷ ws) same = absurd cc
equal_rows (v ∷ vs) [] same = absurd cc
equal_rows (v ∷ vs) (w ∷ ws) same =
    let first : v.items ≡ w.items = cc in
    let rest : machine_rows vs ≡ machine_rows ws = cc in
    and_from (pointwise nat_eq v.items w.items) (pointwise (λ (a b : Vec ℕ). pointwise nat_eq a.items b.items) vs ws)
    (subst (λ xs. pointwise nat_eq v.items xs ≡ true) first (nat_list_eq_equiv.refl v.items)) (equal_rows vs ws rest)

-- what `==` tests of outcomes
abbrev pub outcome_equal : ScriptOutcome → ScriptOutcome → Bool
outcome_equal a b = pointwise (λ (v w : Vec ℕ). pointwise nat_eq v.items w.items) a.replies.items b.replies.items

pub equal_outcome_same : (a b : ScriptOutcome) → outcome_equal a b ≡ true → explored_outcome b ≡ explored_outcome a
equal_outcome_same a b h =
    equal_items (λ (v : Vec ℕ). v.items) (λ (v w : Vec ℕ). pointwise nat_eq v.items w.items)
    (λ v w. equal_numbers v.items w.items) a.replies.items b.replies.items h
