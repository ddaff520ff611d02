-- What a machine knows says what it is, so machines in different states know different events.
-- Each part of a machine is read off the events: counts and words at once, what processors wait for place by place, and
-- who asked as a list in the order of the asks, which is one list.
use Rattle.std.proofs.Common.{ℕ, zero, suc, ◌≡◌, ◌<◌, ◌↔◌, inl, inr, Bool, true, false, IsTrue, List, [], ◌∷◌, Option, Some, length, slice_get, slice_index_or, refl, sym, ap₂, subst, ◌∙◌, arith}
use Rattle.std.specs.Prelude.{None}
use Rattle.std.specs.List.{AllByRecursion, IsDistinct}
use Rattle.std.proofs.lemmas.Bool.{false≢true}
use Rattle.std.proofs.lemmas.Option.{none-some, same_Some}
use Rattle.base.specs.InOrderOnce.{Has, InOrder}
use Rattle.base.proofs.JoinedLists.{joined_list_has-cons, joined_list_has-nil}
use Rattle.journal.specs.declared.event.Event.{Event}
use Rattle.lrc_script.specs.Plan.{Plan}
use Rattle.explore.specs.declared.state.flat_state.FlatState.{FlatState}
use Rattle.explore.specs.declared.state.waits.Waiting.{Waiting}
use Rattle.explore.specs.Machines.{MachinesInSameState, MachineKnows, machine_rows}
use Rattle.explore.specs.OutcomeTelling.{AreOutcomeTellingKept, outcome_telling_kept, outcome_telling_steps}
use Rattle.conformance.specs.Follows.{calls_of}
use Rattle.explore.specs.KeptWaiting.{AreKeptWaitingAsks, KeptWaitingAsksAt, IsLikeKeptWaiting, TellsKeptWaiting}
use Rattle.explore.proofs.AskQueue.{AskQueuedBefore}
use Rattle.explore.proofs.WaitCodes.{wait_code_ending_once, wait_code_holder_once}
use Rattle.explore.specs.WaitCodes.{wait_code_nobody}
use Rattle.explore.proofs.ToldReplies.{told_replies_same_rows}

-- lists that read the same are the same
pub determined_read : {A : Type 0} (d : A) (xs ys : List A) → length xs ≡ length ys
    → ((p : ℕ) → p < length xs → slice_index_or xs p d ≡ slice_index_or ys p d) → xs ≡ ys
determined_read d [] [] long same = refl
determined_read d [] (y ∷ ys) long same = absurd cc
determined_read d (x ∷ xs) [] long same = absurd cc
determined_read d (x ∷ xs) (y ∷ ys) long same =
    let first : x ≡ y = same 0 (omega arith) in
    let rest : length xs ≡ length ys = omega arith in
    ap₂ (λ z zs. z ∷ zs) first (determined_read d xs ys rest (λ p lt. same (suc p) (omega arith)))

-- options that are the same value wherever one is some
pub determined_option : {A : Type 0} (a b : Option A) → ((x : A) → (a ≡ Some x) ↔ (b ≡ Some x)) → a ≡ b
determined_option None None same = refl
determined_option None (Some y) same = absurd (none-some y ((same y).1 refl))
determined_option (Some x) b same = sym ((same x).0 refl)

pub determined_bool : (a b : Bool) → IsTrue a ↔ IsTrue b → a ≡ b
determined_bool true b same = sym (same.0 refl)
determined_bool false true same = absurd (false≢true (same.1 refl))
determined_bool false false same = refl

-- lists of the same items in one strict order are the same
module _ {A : Type 0} (R : A → A → Type 0) (P : A → Type 0) (strict : (a b : A) → P a → P b → R a b → R b a → ⊥) where
  determined_order_rest : (x : A) (xs : List A) → InOrder R (x ∷ xs) → InOrder R xs
  determined_order_rest x xs order i k a b lt at_a at_b = order (suc i) (suc k) a b (omega arith) at_a at_b

  determined_first_before : (x : A) (xs : List A) → InOrder R (x ∷ xs) → (a : A) → Has xs a → R x a
  determined_first_before x xs order a has = order 0 (suc has.0) x a (omega arith) refl has.1

  determined_order : (xs ys : List A) → ((a : A) → Has xs a → P a) → ((a : A) → Has ys a → P a)
      → ((a : A) → Has xs a ↔ Has ys a) → InOrder R xs → InOrder R ys → xs ≡ ys
  determined_order [] [] p q same first second = refl
  determined_order [] (y ∷ ys) p q same first second = absurd (joined_list_has-nil y ((same y).1 (0, refl)))
  determined_order (x ∷ xs) [] p q same first second = absurd (joined_list_has-nil x ((same x).0 (0, refl)))
  determined_order (x ∷ xs) (y ∷ ys) p q same first second =
      let is : x ≡ y = elim ((joined_list_has-cons y ys x).0 ((same x).0 (0, refl))) [
        | inl e ↦ sym e
        | inr later ↦ elim ((joined_list_has-cons x xs y).0 ((same y).1 (0, refl))) [
          | inl e ↦ e
          | inr after ↦
              absurd (strict x y (p x (0, refl)) (q y (0, refl)) (determined_first_before x xs first y after)
              (determined_first_before y ys second x later))
        ]
      ] in
      ap₂ (λ z zs. z ∷ zs) is
      (determined_order xs ys (λ a has. p a (suc has.0, has.1)) (λ a has. q a (suc has.0, has.1))
      (λ a. (
        λ has. elim ((joined_list_has-cons y ys a).0 ((same a).0 (suc has.0, has.1))) [
          | inl e ↦
              (let r = determined_first_before x xs first a has in
              let self = subst (λ b. R b a) (is ∙ e) r in
              let mine = p a (suc has.0, has.1) in
              absurd (strict a a mine mine self self))
          | inr later ↦ later
        ],
        λ has. elim ((joined_list_has-cons x xs a).0 ((same a).1 (suc has.0, has.1))) [
          | inl e ↦
              (let r = determined_first_before y ys second a has in
              let self = subst (λ b. R b a) (sym is ∙ e) r in
              let mine = q a (suc has.0, has.1) in
              absurd (strict a a mine mine self self))
          | inr later ↦ later
        ],
      )) (determined_order_rest x xs first) (determined_order_rest y ys second))

-- who asked
determined_asked : (g : List Event) (xs ys : List ℕ) → AreKeptWaitingAsks g xs → AreKeptWaitingAsks g ys → xs ≡ ys
determined_asked g xs ys first second =
    determined_order (AskQueuedBefore g) (λ p. (i : ℕ) × KeptWaitingAsksAt g p i)
    (λ a b x y before after.
    let one = before x.0 y.0 x.1 y.1 in
    let two = after y.0 x.0 y.1 x.1 in
    omega arith) xs ys (λ a has. (first.each a).0 has) (λ a has. (second.each a).0 has)
    (λ a. ((λ has. (second.each a).1 ((first.each a).0 has)), (λ has. (first.each a).1 ((second.each a).0 has))))
    first.order second.order

determined_both : {A B C : Type 0} → A ↔ B → C ↔ B → A ↔ C
determined_both first second = ((λ a. second.1 (first.0 a)), (λ c. first.1 (second.0 c)))

determined_waiting : (g : List Event) (x y : Waiting) → TellsKeptWaiting g x → TellsKeptWaiting g y → IsLikeKeptWaiting x y
determined_waiting g x y first second = record {
  waits = determined_read None y.waits x.waits (second.long ∙ sym first.long)
      (λ p lt. wait_code_ending_once _ _ (determined_option _ _ (λ k. determined_both (second.waits p k) (first.waits p k))));
  arrivals = determined_read 0 y.arrivals x.arrivals (second.arrivals_long ∙ sym first.arrivals_long)
      (λ p lt. second.arrivals p ∙ sym (first.arrivals p));
  holders = determined_read wait_code_nobody y.holders x.holders (second.holders_long ∙ sym first.holders_long)
      (λ l lt. wait_code_holder_once _ _ (determined_option _ _ (λ q. determined_both (second.holders l q) (first.holders l q))));
  flags = determined_read false y.flags x.flags (second.flags_long ∙ sym first.flags_long)
      (λ f lt. determined_bool _ _ (determined_both (second.flags f) (first.flags f)));
  asked = determined_asked g y.asked.items x.asked.items second.asked first.asked;
}

pub determined_machine : (s : Plan) (g : List Event) (m n : FlatState) → n.telling ≡ m.telling → MachineKnows s g m → MachineKnows s g n
    → MachinesInSameState m n
determined_machine s g m n telling first second = record {
  telling = telling;
  done = (
      let one = first.long in
      let two = second.long in
      determined_read 0 n.done m.done (two ∙ sym one)
      (λ p lt. second.done p (omega arith) ∙ sym (first.done p (omega arith))));
  replies =
      told_replies_same_rows s.processors (λ p. outcome_telling_kept m.telling p (outcome_telling_steps s p) (calls_of g p)) (machine_rows n.replies.items)
      (machine_rows m.replies.items)
      (subst (λ t. AreOutcomeTellingKept s t g (machine_rows n.replies.items)) telling second.replies) first.replies;
  memory = second.memory ∙ sym first.memory;
  waiting = determined_waiting g m.waiting n.waiting first.waiting second.waiting;
}

-- keys of a set differ
pub determined_apart_at : {K : Type 0} (eq : K → K → Bool) (ks : List K) → IsDistinct eq ks → (i k : ℕ) (a b : K) → i < k
    → slice_get ks i ≡ Some a → slice_get ks k ≡ Some b → eq a b ≡ false
unfolding IsDistinct
determined_apart_at eq [] distinct i k a b lt at_a at_b = absurd (none-some a at_a)
determined_apart_at eq (x ∷ xs) distinct zero zero a b lt at_a at_b = absurd (omega arith)
determined_apart_at eq (x ∷ xs) distinct zero (suc k) a b lt at_a at_b =
    subst (λ y. eq y b ≡ false) (same_Some x a at_a) (each xs distinct.0 k at_b)
  where
    each : (ys : List _) → AllByRecursion (λ y. eq x y ≡ false) ys → (j : ℕ) → slice_get ys j ≡ Some b → eq x b ≡ false
    each [] all j at = absurd (none-some b at)
    each (y ∷ ys) all zero at = subst (λ z. eq x z ≡ false) (same_Some y b at) all.0
    each (y ∷ ys) all (suc j) at = each ys all.1 j at
determined_apart_at eq (x ∷ xs) distinct (suc i) zero a b lt at_a at_b = absurd (omega arith)
determined_apart_at eq (x ∷ xs) distinct (suc i) (suc k) a b lt at_a at_b =
    determined_apart_at eq xs distinct.1 i k a b (omega arith) at_a at_b
