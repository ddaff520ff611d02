-- What is kept of who waits for what, as events come, and what may come next by it.
use Rattle.std.proofs.Common.{◌≡◌, ◌≢◌, ℕ, ◌<◌, ◌↔◌, inl, inr, List, [], ◌∷◌, length, Option, Some, All, slice_get, slice_index_or, slice_set, subst, sym, refl, ap, ◌∙◌, get_or-set_same, get_or-set_other, arith}
use Rattle.std.specs.Prelude.{None}
use Rattle.std.proofs.lemmas.Bool.{cases_eq, cases_order}
use Rattle.std.proofs.lemmas.Option.{same_Some, none-some, slice_get-get_or}
use Rattle.base.specs.InOrderOnce.{Has}
use Rattle.base.proofs.SlicesAndCounts.{slice_push_cases}
use Rattle.journal.specs.declared.event.Event.{Event}
use Rattle.journal.specs.declared.event.Kind.{Kind}
use Rattle.journal.specs.declared.event.Kind.TheVariants.{Ask, Acquire, Arrive, Watch}
use Rattle.journal.specs.DidEvent.{did, event}
use Rattle.journal.specs.Sizes.{Sizes}
use Rattle.journal.specs.Events.{EventAt}
use Rattle.journal.specs.AwaitedNext.{awaited_next}
use Rattle.journal.specs.WellFormed.{WellFormedAnswer, Holds, LastIs, WellFormedGrant, WellFormedNext}
use Rattle.journal.proofs.Order.EventPlacesAndCounts.{event_place_inside}
use Rattle.journal.proofs.Journals.WellFormedStays.{well_formed_stays_last_unique, well_formed_stays_last_now, well_formed_stays_last_longer, well_formed_stays_last_shorter}
use Rattle.judge.specs.Why.{WhyWaitsFor}
use Rattle.explore.specs.KeptWaiting.{KeptWaitingAsksAt, IsKeptWaitingForLock, IsFirstKeptWaiting, TellsKeptWaiting}
use Rattle.explore.specs.WaitCodes.{WaitCodesAreKept, wait_code_ending, wait_code_holder, wait_code_nobody}
use Rattle.explore.specs.declared.state.wait_code.WaitCode.{WaitCode}
use Rattle.explore.specs.declared.state.waits.Waiting.{Waiting}
use Rattle.explore.proofs.WaitCodes.{wait_code_ending_lock}

-- who asks for a lock waits for it
asks_waits : (j : List Event) (p i l : ℕ) → LastIs j p i (Ask l) → WhyWaitsFor j p (Acquire l)
asks_waits j p i l last = record { place = i; kind = Ask l; last = last; awaits = refl }

-- and who waits for a lock has asked for it
asked_if_acquire_awaited : (a : Kind) (l : ℕ) → awaited_next a ≡ Some (Acquire l) → a ≡ Ask l
asked_if_acquire_awaited (Ask m) l is = cc
asked_if_acquire_awaited Arrive l is = absurd cc
asked_if_acquire_awaited (Watch f) l is = absurd cc
asked_if_acquire_awaited _ l is = absurd (none-some (Acquire l) is)

pub waits_asks : (j : List Event) (p l : ℕ) → WhyWaitsFor j p (Acquire l) → (i : ℕ) × LastIs j p i (Ask l)
waits_asks j p l w = (w.place, subst (LastIs j p w.place) (asked_if_acquire_awaited w.kind l w.awaits) w.last)

-- a processor's open ask is one
asks_once : (j : List Event) (p i k l m : ℕ) → LastIs j p i (Ask l) → LastIs j p k (Ask m) → (i ≡ k) × (l ≡ m)
asks_once j p i k l m x y =
    let same = well_formed_stays_last_unique j p i k (Ask l) (Ask m) x y in
    (same.0, cc same.1)

-- who is the first among those that wait for l asked first
pub asked_first_waits_first : (j : List Event) (x : Waiting) (p i l q : ℕ) → TellsKeptWaiting j x → LastIs j p i (Ask l)
    → IsFirstKeptWaiting x.asked.items x.waits l q → (q ≡ p) ↔ ((k r : ℕ) → k < i → ¬ LastIs j r k (Ask l))
asked_first_waits_first j x p i l q tells mine found = (there, back)
  where
    place_of : (r k : ℕ) → LastIs j r k (Ask l) → Has x.asked.items r
    place_of r k last = (tells.asked.each r).1 (k, (l, last))

    awaits_of : (r k : ℕ) → LastIs j r k (Ask l) → IsKeptWaitingForLock x.waits r l
    awaits_of r k last =
        wait_code_ending_lock (slice_index_or x.waits r None) l ((tells.waits r (Acquire l)).1 (asks_waits j r k l last))

    not_before : (r k : ℕ) → LastIs j r k (Ask l) → (has : Has x.asked.items r) → has.0 < found.place → ⊥
    not_before r k last has lt = found.first has.0 r lt has.1 (awaits_of r k last)

    there : q ≡ p → (k r : ℕ) → k < i → ¬ LastIs j r k (Ask l)
    there is k r lt last =
        let has = place_of r k last in
        elim (cases_order has.0 found.place) [
          | inl same ↦
              (let one = same_Some r q (sym has.1 ∙ ap (slice_get x.asked.items) same ∙ found.at) in
              let both = asks_once j p k i l l (subst (λ z. LastIs j z k (Ask l)) (one ∙ is) last) mine in
              omega (arith, both.0))
          | inr apart ↦ elim apart [
            | inl before ↦ not_before r k last has before
            | inr after ↦
                (let later = tells.asked.order found.place has.0 q r after found.at has.1 i k
                (l, subst (λ z. LastIs j z i (Ask l)) (sym is) mine) (l, last) in
                omega (arith, later))
          ]
        ]

    back : ((k r : ℕ) → k < i → ¬ LastIs j r k (Ask l)) → q ≡ p
    back none =
        let theirs = waits_asks j q l ((tells.waits q (Acquire l)).0 (ap wait_code_ending found.awaits)) in
        let has = place_of p i mine in
        elim (cases_order has.0 found.place) [
          | inl same ↦ sym (same_Some p q (sym has.1 ∙ ap (slice_get x.asked.items) same ∙ found.at))
          | inr apart ↦ elim apart [
            | inl before ↦ absurd (not_before p i mine has before)
            | inr after ↦
                (let later = tells.asked.order found.place has.0 q p after found.at has.1 theirs.0 i
                (l, theirs.1) (l, mine) in
                absurd (none theirs.0 q later theirs.1))
          ]
        ]

-- nobody holds the lock
pub asked_nobody_holds : (j : List Event) (x : Waiting) (l : ℕ) → TellsKeptWaiting j x → wait_code_holder (slice_index_or x.holders l wait_code_nobody) ≡ None
    → (q : ℕ) → ¬ Holds j q l
asked_nobody_holds j x l tells none q holds = none-some q (sym none ∙ (tells.holders l q).1 holds)

pub asked_somebody_holds : (j : List Event) (x : Waiting) (l q i : ℕ) → TellsKeptWaiting j x
    → wait_code_holder (slice_index_or x.holders l wait_code_nobody) ≡ Some q → ¬ WellFormedGrant j i l
asked_somebody_holds j x l q i tells some may = may.free q ((tells.holders l q).0 some)

-- these are processors
pub asked_small : (asked : List ℕ) → ((p : ℕ) → Has asked p → p < 16) → All (λ p. p < 16) asked
asked_small asked small k d lt = small (slice_index_or asked k d) (k, slice_get-get_or asked k d lt)

-- one event and no other
asked_one_away : (e : Event) (p : ℕ) → e.processor ≢ p → (m : ℕ) (f : Event) → EventAt (e ∷ []) m f → f.processor ≢ p
asked_one_away e p isnt m f at is = elim (slice_push_cases [] e m f at) [
  | inl none ↦ absurd (omega (arith, none.0))
  | inr same ↦ isnt (ap (λ (x : Event). x.processor) same.1 ∙ is)
]

-- another's event leaves the last one
asked_last_others : (j : List Event) (p q i : ℕ) (k a : Kind) → p ≢ q → LastIs j q i a ↔ LastIs (did j p k) q i a
asked_last_others j p q i k a apart = (
  well_formed_stays_last_longer j (event p k ∷ []) q i a (asked_one_away (event p k) q apart),
  well_formed_stays_last_shorter j (event p k ∷ []) q i a (asked_one_away (event p k) q apart),
)

pub asked_waits_own : (j : List Event) (p : ℕ) (k b : Kind) → (awaited_next k ≡ Some b) ↔ WhyWaitsFor (did j p k) p b
asked_waits_own j p k b = (
  λ is. record { place = length j; kind = k; last = well_formed_stays_last_now j (event p k); awaits = is },
  λ w. let same = well_formed_stays_last_unique (did j p k) p (length j) w.place k w.kind (well_formed_stays_last_now j (event p k)) w.last in
      ap awaited_next same.1 ∙ w.awaits,
)

pub asked_waits_others : (j : List Event) (p q : ℕ) (k b : Kind) → p ≢ q → WhyWaitsFor j q b ↔ WhyWaitsFor (did j p k) q b
asked_waits_others j p q k b apart = (
  λ w. record {
    place = w.place;
    kind = w.kind;
    last = (asked_last_others j p q w.place k w.kind apart).0 w.last;
    awaits = w.awaits;
  },
  λ w. record {
    place = w.place;
    kind = w.kind;
    last = (asked_last_others j p q w.place k w.kind apart).1 w.last;
    awaits = w.awaits;
  },
)

-- what is waited for after one more event
pub asked_waits_next : (j : List Event) (p : ℕ) (k : Kind) (waits : List (Option WaitCode)) (w : Option WaitCode) → p < length waits
    → wait_code_ending w ≡ awaited_next k → WaitCodesAreKept j waits → WaitCodesAreKept (did j p k) (slice_set waits p w)
asked_waits_next j p k waits w within ends old q b = elim (cases_eq q p) [
  | inl is ↦
      subst (λ r. (wait_code_ending (slice_index_or (slice_set waits p w) r None) ≡ Some b) ↔ WhyWaitsFor (did j p k) r b) (sym is)
      (subst (λ o. (o ≡ Some b) ↔ WhyWaitsFor (did j p k) p b)
      (sym (ap wait_code_ending (get_or-set_same waits p w None within) ∙ ends)) (asked_waits_own j p k b))
  | inr isnt ↦
      (let other = asked_waits_others j p q k b (λ same. isnt (sym same)) in
      subst (λ o. (wait_code_ending o ≡ Some b) ↔ WhyWaitsFor (did j p k) q b) (sym (get_or-set_other waits p q w None isnt))
      ((λ is. other.0 ((old q b).0 is)), (λ w. (old q b).1 (other.1 w))))
]

-- what answers an ask
asked_answered_by_acquire : (l : ℕ) (k : Kind) → WellFormedAnswer (Ask l) k → k ≡ Acquire l
asked_answered_by_acquire l k is = is

module _ (s : Sizes) (j : List Event) (p : ℕ) (k : Kind) (may : WellFormedNext s j (event p k)) where
  -- who asks anew doesn't wait
  pub asks_fresh : (l i : ℕ) → k ≡ Ask l → ¬ KeptWaitingAsksAt j p i
  asks_fresh l i is asks =
      let answer = asked_answered_by_acquire asks.0 k (may.answers i (Ask asks.0) asks.1) in
      absurd (cc (sym is ∙ answer))

  -- and who waits for a lock does nothing but acquire it
  pub asks_acquires : (i : ℕ) → KeptWaitingAsksAt j p i → (l : ℕ) × (k ≡ Acquire l)
  asks_acquires i asks = (asks.0, asked_answered_by_acquire asks.0 k (may.answers i (Ask asks.0) asks.1))

-- asks of others stay
pub asks_other : (j : List Event) (p q i : ℕ) (k : Kind) → p ≢ q → KeptWaitingAsksAt j q i ↔ KeptWaitingAsksAt (did j p k) q i
asks_other j p q i k apart = (
  λ a. (a.0, (asked_last_others j p q i k (Ask a.0) apart).0 a.1),
  λ a. (a.0, (asked_last_others j p q i k (Ask a.0) apart).1 a.1),
)

-- p's open ask is its last event
pub asks_own : (j : List Event) (p i : ℕ) (k : Kind) → KeptWaitingAsksAt (did j p k) p i → (i ≡ length j) × ((l : ℕ) × (k ≡ Ask l))
asks_own j p i k a =
    let same = well_formed_stays_last_unique (did j p k) p i (length j) (Ask a.0) k a.1 (well_formed_stays_last_now j (event p k)) in
    (same.0, (a.0, sym same.1))

-- an ask before one more event
pub asks_old : (j : List Event) (q i : ℕ) → KeptWaitingAsksAt j q i → i < length j
asks_old j q i a = event_place_inside j i (event q (Ask a.0)) a.1.does

-- so the lock, which nobody holds, may be granted to p exactly where p is the first
pub asked_first_may_acquire : (j : List Event) (x : Waiting) (p i l q : ℕ) → TellsKeptWaiting j x → LastIs j p i (Ask l)
    → wait_code_holder (slice_index_or x.holders l wait_code_nobody) ≡ None → IsFirstKeptWaiting x.asked.items x.waits l q → (q ≡ p) ↔ WellFormedGrant j i l
asked_first_may_acquire j x p i l q tells mine none found = (
  λ is. record {
    free = asked_nobody_holds j x l tells none;
    first = (asked_first_waits_first j x p i l q tells mine found).0 is;
  },
  λ may. (asked_first_waits_first j x p i l q tells mine found).1 may.first,
)

-- and it is not so that nobody asks
pub asked_by_somebody : (j : List Event) (x : Waiting) (p i l : ℕ) → TellsKeptWaiting j x → LastIs j p i (Ask l)
    → ((q : ℕ) → Has x.asked.items q → ¬ IsKeptWaitingForLock x.waits q l) → ⊥
asked_by_somebody j x p i l tells mine none =
    none p ((tells.asked.each p).1 (i, (l, mine)))
    (wait_code_ending_lock (slice_index_or x.waits p None) l ((tells.waits p (Acquire l)).1 (asks_waits j p i l mine)))
