-- What is kept of who waits for what and who holds a lock, and what of it is counted.
use Rattle.std.proofs.Common.{◌≡◌, ◌≢◌, ℕ, zero, suc, ◌+◌, ◌<◌, ◌==◌, ◌&&◌, inl, inr, Bool, cond, List, [], ◌∷◌, length, Option, Some, slice_index_or, slice_set, refl, sym, ap, subst, ◌∙◌, get_or-set_same, get_or-set_other, arith}
use Rattle.std.specs.Prelude.{None}
use Rattle.std.proofs.lemmas.Bool.{cases_eq, eq-eqb, ne_eqb}
use Rattle.std.proofs.lemmas.Option.{none-some, same_Some}
use Rattle.journal.specs.declared.event.Event.{Event}
use Rattle.journal.specs.declared.event.Kind.{Kind}
use Rattle.journal.specs.declared.event.Kind.TheVariants as kind
use Rattle.journal.specs.DidEvent.{did, event}
use Rattle.journal.specs.Events.{event_count, event_arrives, event_departs}
use Rattle.journal.specs.AwaitedNext.{awaited_next}
use Rattle.journal.proofs.Order.EventPlacesAndCounts.{event_count-append}
use Rattle.judge.specs.Why.{WhyWaitsFor}
use Rattle.explore.specs.declared.state.wait_code.WaitCode.{WaitCode}
use Rattle.explore.specs.declared.state.wait_code.WaitCode.TheVariants.{Lock, Barrier, Flag}
use Rattle.explore.specs.declared.state.wait_code.LockHolder.{LockHolder}
use Rattle.explore.specs.WaitCodes.{WaitCodesAreKept, wait_code_arrivals_open, wait_code_end_of, wait_code_ending, wait_code_holder, wait_code_holder_of}

-- who waits for a lock is kept as that
pub wait_code_ending_lock : (o : Option WaitCode) (l : ℕ) → wait_code_ending o ≡ Some (kind.Acquire l) → o ≡ Some (Lock l)
wait_code_ending_lock None l is = absurd (none-some (kind.Acquire l) is)
wait_code_ending_lock (Some (Lock m)) l is = cc
wait_code_ending_lock (Some Barrier) l is = absurd cc
wait_code_ending_lock (Some (Flag f)) l is = absurd cc

-- a wait is one with its end
wait_code_end_once : (v w : WaitCode) → wait_code_end_of v ≡ wait_code_end_of w → v ≡ w
wait_code_end_once (Lock l) (Lock m) is = cc
wait_code_end_once (Lock l) Barrier is = absurd cc
wait_code_end_once (Lock l) (Flag f) is = absurd cc
wait_code_end_once Barrier (Lock m) is = absurd cc
wait_code_end_once Barrier Barrier is = refl
wait_code_end_once Barrier (Flag f) is = absurd cc
wait_code_end_once (Flag f) (Lock m) is = absurd cc
wait_code_end_once (Flag f) Barrier is = absurd cc
wait_code_end_once (Flag f) (Flag g) is = cc

pub wait_code_ending_once : (a b : Option WaitCode) → wait_code_ending a ≡ wait_code_ending b → a ≡ b
wait_code_ending_once None None is = refl
wait_code_ending_once None (Some w) is = absurd (none-some (wait_code_end_of w) is)
wait_code_ending_once (Some v) None is = absurd (none-some (wait_code_end_of v) (sym is))
wait_code_ending_once (Some v) (Some w) is = ap Some (wait_code_end_once v w (same_Some (wait_code_end_of v) (wait_code_end_of w) is))

-- and a holder is one with its processor
wait_code_holder_made : ℕ → LockHolder
wait_code_holder_made n = record { 0 = n }

wait_code_holder_of_once : (m n : ℕ) → wait_code_holder_of m ≡ wait_code_holder_of n → m ≡ n
wait_code_holder_of_once zero zero is = refl
wait_code_holder_of_once zero (suc q) is = absurd (none-some q is)
wait_code_holder_of_once (suc p) zero is = absurd (none-some p (sym is))
wait_code_holder_of_once (suc p) (suc q) is = ap (λ n. suc n) (same_Some p q is)

pub wait_code_holder_once : (a b : LockHolder) → wait_code_holder a ≡ wait_code_holder b → a ≡ b
unfolding wait_code_holder_made
wait_code_holder_once a b is = ap wait_code_holder_made (wait_code_holder_of_once a.0 b.0 is)

-- at the barrier one arrival is open, and else none
wait_code_open_at : (o : Option WaitCode) (k : Kind) → wait_code_ending o ≡ Some k → wait_code_arrivals_open o ≡ cond (event_departs k) 1 0
wait_code_open_at None k is = absurd (none-some k is)
wait_code_open_at (Some (Lock l)) k is = subst (λ b. wait_code_arrivals_open (Some (Lock l)) ≡ cond (event_departs b) 1 0) (same_Some (kind.Acquire l) k is) refl
wait_code_open_at (Some Barrier) k is = subst (λ b. wait_code_arrivals_open (Some Barrier) ≡ cond (event_departs b) 1 0) (same_Some kind.Depart k is) refl
wait_code_open_at (Some (Flag f)) k is = subst (λ b. wait_code_arrivals_open (Some (Flag f)) ≡ cond (event_departs b) 1 0) (same_Some (kind.Await f) k is) refl

wait_code_open_none : (o : Option WaitCode) → wait_code_ending o ≡ None → wait_code_arrivals_open o ≡ 0
wait_code_open_none None is = refl
wait_code_open_none (Some w) is = absurd (none-some (wait_code_end_of w) (sym is))

pub wait_code_open_barrier : (o : Option WaitCode) → wait_code_ending o ≡ Some kind.Depart → wait_code_arrivals_open o ≡ 1
wait_code_open_barrier o is = wait_code_open_at o kind.Depart is

-- after an arrival one is open
wait_code_open_after : (k : Kind) (o : Option WaitCode) → wait_code_ending o ≡ awaited_next k → wait_code_arrivals_open o ≡ cond (event_arrives k) 1 0
wait_code_open_after (kind.Ask l) o is = wait_code_open_at o (kind.Acquire l) is
wait_code_open_after kind.Arrive o is = wait_code_open_at o kind.Depart is
wait_code_open_after (kind.Watch f) o is = wait_code_open_at o (kind.Await f) is
wait_code_open_after _ o is = wait_code_open_none o is

-- before a departure one is open, and before any other event of its processor none is
wait_code_open_before : (k : Kind) (o : Option WaitCode) → ((b : Kind) → wait_code_ending o ≡ Some b → b ≡ k)
    → (k ≡ kind.Depart → wait_code_ending o ≡ Some kind.Depart) → wait_code_arrivals_open o ≡ cond (event_departs k) 1 0
wait_code_open_before kind.Depart o only departs = wait_code_open_at o kind.Depart (departs refl)
wait_code_open_before k None only departs = quiet k departs
  where
    quiet : (b : Kind) → (b ≡ kind.Depart → None ≡ Some kind.Depart) → wait_code_arrivals_open None ≡ cond (event_departs b) 1 0
    quiet kind.Depart waits = absurd (none-some kind.Depart (waits refl))
    quiet _ waits = refl
wait_code_open_before k (Some w) only departs = wait_code_open_at (Some w) k (ap Some (only (wait_code_end_of w) refl))

-- one event counts for its processor
wait_code_count_one : (is : Kind → Bool) (j : List Event) (p q : ℕ) (k : Kind)
    → event_count is (did j p k) q ≡ event_count is j q + cond ((p == q) && is k) 1 0
wait_code_count_one is j p q k =
    let sum : event_count is (did j p k) q ≡ event_count is j q + (0 + cond ((p == q) && is k) 1 0) =
    event_count-append is j (event p k ∷ []) q in
    omega (arith, sum)

wait_code_own_one : (is : Kind → Bool) (j : List Event) (p : ℕ) (k : Kind)
    → event_count is (did j p k) p ≡ event_count is j p + cond (is k) 1 0
wait_code_own_one is j p k =
    wait_code_count_one is j p p k ∙ ap (λ b. event_count is j p + cond (b && is k) 1 0) (eq-eqb p p refl)

wait_code_others_one : (is : Kind → Bool) (j : List Event) (p q : ℕ) (k : Kind) → p ≢ q
    → event_count is (did j p k) q ≡ event_count is j q
wait_code_others_one is j p q k apart =
    let more = wait_code_count_one is j p q k ∙ ap (λ b. event_count is j q + cond (b && is k) 1 0) (ne_eqb p q apart) in
    omega (arith, more)

-- so departures are told by arrivals and waits, after one more event, too
pub wait_code_departures_next : (j : List Event) (p : ℕ) (k : Kind) (waits : List (Option WaitCode)) (o : Option WaitCode)
    → p < length waits → wait_code_ending o ≡ awaited_next k → ((b : Kind) → WhyWaitsFor j p b → b ≡ k)
    → (k ≡ kind.Depart → WhyWaitsFor j p kind.Depart) → WaitCodesAreKept j waits
    → ((q : ℕ) → event_count event_departs j q + wait_code_arrivals_open (slice_index_or waits q None) ≡ event_count event_arrives j q) → (q : ℕ)
    → event_count event_departs (did j p k) q + wait_code_arrivals_open (slice_index_or (slice_set waits p o) q None)
    ≡ event_count event_arrives (did j p k) q
wait_code_departures_next j p k waits o within ends only departs kept old q = elim (cases_eq q p) [
  | inl is ↦
      subst (λ r. event_count event_departs (did j p k) r + wait_code_arrivals_open (slice_index_or (slice_set waits p o) r None)
      ≡ event_count event_arrives (did j p k) r) (sym is) mine
  | inr isnt ↦
      (let apart : p ≢ q = λ same. isnt (sym same) in
      let was = old q in
      let departed = wait_code_others_one event_departs j p q k apart in
      let arrived = wait_code_others_one event_arrives j p q k apart in
      let slot = ap wait_code_arrivals_open (get_or-set_other waits p q o None isnt) in
      omega (arith, was, departed, arrived, slot))
]
  where
    mine : event_count event_departs (did j p k) p + wait_code_arrivals_open (slice_index_or (slice_set waits p o) p None)
        ≡ event_count event_arrives (did j p k) p
    mine =
        let was = old p in
        let departed = wait_code_own_one event_departs j p k in
        let arrived = wait_code_own_one event_arrives j p k in
        let slot = ap wait_code_arrivals_open (get_or-set_same waits p o None within) in
        let now = wait_code_open_after k o ends in
        let before = wait_code_open_before k (slice_index_or waits p None) (λ b is. only b ((kept p b).0 is))
        (λ is. (kept p kind.Depart).1 (departs is)) in
        omega (arith, was, departed, arrived, slot, now, before)
