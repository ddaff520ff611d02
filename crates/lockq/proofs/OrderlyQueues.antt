-- Lines at a lock stay orderly: whoever joins one was not in it, and whoever leaves one stood at its head.
use Rattle.std.proofs.Common.{ℕ, ◌≡◌, ◌≢◌, ◌<◌, ◌≤◌, Option, Some, None, List, [], ◌∷◌, ◌++◌, length, sym, ap, ◌∙◌, subst, append_assoc, arith, inl, inr}
use Rattle.std.specs.Option.{option_to_list}
use Rattle.std.specs.List.{range_with_len}
use Rattle.std.proofs.lemmas.List.{length-append}
use Rattle.std.proofs.lemmas.List.FromFn.{length-range_with_len, get_or-range_with_len}
use Rattle.std.proofs.lemmas.Option.{slice_get-get_or}
use Rattle.base.specs.InOrderOnce.{Has, IsOnce}
use Rattle.base.proofs.JoinedLists.{joined_list_has-append, joined_list_has-cons, joined_list_has-nil, joined_list_in_order-nil, joined_list_in_order-cons, joined_list_in_order_tail}
use Rattle.base.proofs.OnceWithout.{once_le, once-append}
use Rattle.lockq.specs.LockQueues.{LockQueue, lock_queue_line, IsOrderlyLockQueue}

-- a list of one item
orderly_queue_of_one : (p : ℕ) → IsOnce (p ∷ [])
orderly_queue_of_one p =
    joined_list_in_order-cons (λ (a b : ℕ). a ≢ b) p [] (λ b has. absurd (joined_list_has-nil b has)) (joined_list_in_order-nil (λ (a b : ℕ). a ≢ b))

pub in_orderly_queue_of_one : (p x : ℕ) → Has (p ∷ []) x → p ≡ x
in_orderly_queue_of_one p x has = elim ((joined_list_has-cons p [] x).0 has) [ inl same ↦ same | inr none ↦ absurd (joined_list_has-nil x none) ]

-- one more, who was not among them
pub orderly_queue_once_push : (xs : List ℕ) (p : ℕ) → IsOnce xs → ¬ Has xs p → IsOnce (xs ++ p ∷ [])
orderly_queue_once_push xs p once apart =
    once-append xs (p ∷ []) once (orderly_queue_of_one p)
    (λ x has one. let P : ℕ → Type 0 = λ y. Has xs y in apart (subst P (sym (in_orderly_queue_of_one p x one)) has))

pub orderly_queue_within_push : (n : ℕ) (xs : List ℕ) (p : ℕ) → ((q : ℕ) → Has xs q → q < n) → p < n → (q : ℕ)
    → Has (xs ++ p ∷ []) q → q < n
orderly_queue_within_push n xs p within fits q has =
    elim ((joined_list_has-append xs (p ∷ []) q).0 has)
    [ inl before ↦ within q before | inr last ↦ let same = in_orderly_queue_of_one p q last in omega arith ]

-- numbers below n that stand once each are at most n
pub orderly_queue_length_once : (n : ℕ) (xs : List ℕ) → IsOnce xs → ((q : ℕ) → Has xs q → q < n) → length xs ≤ n
orderly_queue_length_once n xs once within =
    let all = range_with_len 0 n in
    let long = length-range_with_len 0 n in
    let le =
    once_le xs all once (λ q has. let lt = within q has in (
      q,
      slice_get-get_or all q 0 (omega arith)
          ∙ ap (λ (x : ℕ). Some x) (get_or-range_with_len 0 n q 0 lt ∙ omega arith),
    ))
    in
    omega arith

-- what stands behind the holder
orderly_queue_behind_holder : (holder : Option ℕ) (queue : List ℕ) → IsOnce (option_to_list holder ++ queue) → IsOnce queue
orderly_queue_behind_holder None queue once = once
orderly_queue_behind_holder (Some q) queue once = joined_list_in_order_tail (λ (a b : ℕ). a ≢ b) q queue once

-- who asks while the lock is held waits last
pub orderly_queue_push : (n : ℕ) (k : LockQueue) (p : ℕ) → IsOrderlyLockQueue n k → k.holder ≢ None → ¬ Has (lock_queue_line k) p → p < n
    → IsOrderlyLockQueue n (record k { queue = k.queue ++ p ∷ [] })
orderly_queue_push n k p orderly held apart fits =
    let front = option_to_list k.holder in
    let same : lock_queue_line k ++ p ∷ [] ≡ front ++ (k.queue ++ p ∷ []) = append_assoc front k.queue (p ∷ []) in
    let Once : List ℕ → Type 0 = λ xs. IsOnce xs in
    let Within : List ℕ → Type 0 = λ xs. (q : ℕ) → Has xs q → q < n in
    record {
      once = subst Once same (orderly_queue_once_push (lock_queue_line k) p orderly.once apart);
      within = subst Within same (orderly_queue_within_push n (lock_queue_line k) p orderly.within fits);
      held = λ none. absurd (held none);
      long = orderly.long;
    }

-- there is room for who asks while the lock is held
pub orderly_queue_has_room : (n : ℕ) (k : LockQueue) (p : ℕ) → IsOrderlyLockQueue n k → ¬ Has (lock_queue_line k) p → p < n → length k.queue < n
orderly_queue_has_room n k p orderly apart fits =
    let most =
    orderly_queue_length_once n (lock_queue_line k ++ p ∷ []) (orderly_queue_once_push (lock_queue_line k) p orderly.once apart)
    (orderly_queue_within_push n (lock_queue_line k) p orderly.within fits) in
    let longer = length-append (lock_queue_line k) (p ∷ []) in
    let long = length-append (option_to_list k.holder) k.queue in
    omega arith

-- the lock passes to the first of the queue, if there is one
pub orderly_queue_passed : (n : ℕ) (k : LockQueue) (next : Option ℕ) (queue time : List ℕ) → IsOrderlyLockQueue n k
    → k.queue ≡ option_to_list next ++ queue → (next ≡ None → queue ≡ []) → length time ≡ n
    → IsOrderlyLockQueue n (record { holder = next; queue = queue; time = time })
orderly_queue_passed n k next queue time orderly is held long =
    let Once : List ℕ → Type 0 = λ xs. IsOnce xs in
    record {
      once = subst Once is (orderly_queue_behind_holder k.holder k.queue orderly.once);
      within =
          λ p has. let P : List ℕ
          → Type 0 = λ xs. Has xs p in orderly.within p
          ((joined_list_has-append (option_to_list k.holder) k.queue p).1 (inr (subst P (sym is) has)));
      held = held;
      long = long;
    }
