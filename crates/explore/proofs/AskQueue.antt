-- Who waits for a lock after one more event.
use Rattle.std.proofs.Common.{◌≡◌, ◌≢◌, ℕ, ◌<◌, inl, inr, List, [], ◌∷◌, ◌++◌, length, not, ◌==◌, subst, sym, refl, ap, ◌∙◌, arith}
use Rattle.std.proofs.lemmas.Bool.{cases_eq, eq-eqb, ne_eqb, false≢true}
use Rattle.base.specs.InOrderOnce.{Has, InOrder}
use Rattle.base.proofs.JoinedLists.{joined_list_has-nil, joined_list_has-cons, joined_list_has-append, joined_list_in_order-append, joined_list_in_order_single}
use Rattle.base.proofs.FilteredInOrder.{filtered_in_order_has, in_order-filter}
use Rattle.journal.specs.declared.event.Event.{Event}
use Rattle.journal.specs.declared.event.Kind.{Kind}
use Rattle.journal.specs.declared.event.Kind.TheVariants.{Ask, Acquire}
use Rattle.journal.specs.DidEvent.{did, event}
use Rattle.journal.specs.Sizes.{Sizes}
use Rattle.journal.specs.WellFormed.{LastIs, WellFormedNext}
use Rattle.journal.proofs.Journals.WellFormedStays.{well_formed_stays_last_now}
use Rattle.explore.specs.KeptWaiting.{AreKeptWaitingAsks, KeptWaitingAskedAfter, KeptWaitingAsksAt, kept_waiting_without}
use Rattle.explore.proofs.Asked.{asks_acquires, asks_fresh, asks_old, asks_other, asks_own}

-- p is one of these
pub ask_queue_single : (p q : ℕ) → Has (p ∷ []) q → p ≡ q
ask_queue_single p q has = elim ((joined_list_has-cons p [] q).0 has) [ inl is ↦ is | inr none ↦ absurd (joined_list_has-nil q none) ]

-- a after b by the places of their asks
abbrev pub AskQueuedBefore : List Event → ℕ → ℕ → Type 0
AskQueuedBefore j p q = (i k : ℕ) → KeptWaitingAsksAt j p i → KeptWaitingAsksAt j q k → i < k

-- asks that are the same as before are in the same order
ask_queue_order_same : (j h : List Event) (asked : List ℕ)
    → ((q i : ℕ) → Has asked q → KeptWaitingAsksAt h q i → KeptWaitingAsksAt j q i) → InOrder (AskQueuedBefore j) asked
    → InOrder (AskQueuedBefore h) asked
ask_queue_order_same j h asked back order x y a b lt at_a at_b i k asks_a asks_b =
    order x y a b lt at_a at_b i k (back a i (x, at_a) asks_a) (back b k (y, at_b) asks_b)

module _ (s : Sizes) (j : List Event) (p : ℕ) (k : Kind) (asked : List ℕ) (may : WellFormedNext s j (event p k))
    (old : AreKeptWaitingAsks j asked) where
  -- where p doesn't ask, no ask is new
  ask_queue_none_new : ((l : ℕ) → k ≢ Ask l) → (q i : ℕ) → KeptWaitingAsksAt (did j p k) q i → KeptWaitingAsksAt j q i
  ask_queue_none_new other q i asks = elim (cases_eq p q) [
    | inl is ↦
        (let mine = asks_own j p i k (subst (λ r. KeptWaitingAsksAt (did j p k) r i) (sym is) asks) in
        absurd (other mine.1.0 mine.1.1))
    | inr isnt ↦ (asks_other j p q i k isnt).1 asks
  ]

  -- nor does one end, where p doesn't acquire
  ask_queue_none_ends : ((l : ℕ) → k ≢ Acquire l) → (q i : ℕ) → KeptWaitingAsksAt j q i → KeptWaitingAsksAt (did j p k) q i
  ask_queue_none_ends other q i asks = elim (cases_eq p q) [
    | inl is ↦
        (let ends = asks_acquires s j p k may i (subst (λ r. KeptWaitingAsksAt j r i) (sym is) asks) in
        absurd (other ends.0 ends.1))
    | inr isnt ↦ (asks_other j p q i k isnt).0 asks
  ]

  pub ask_queue_kept : ((l : ℕ) → k ≢ Ask l) → ((l : ℕ) → k ≢ Acquire l) → AreKeptWaitingAsks (did j p k) asked
  ask_queue_kept no_ask no_acquire = record {
    each = λ q. (
      λ has. let asks = (old.each q).0 has in (asks.0, ask_queue_none_ends no_acquire q asks.0 asks.1),
      λ asks. (old.each q).1 (asks.0, ask_queue_none_new no_ask q asks.0 asks.1),
    );
    order = ask_queue_order_same j (did j p k) asked (λ q i has. ask_queue_none_new no_ask q i) old.order;
    small = old.small;
  }

  -- p didn't ask before
  pub ask_queue_more : (l : ℕ) → k ≡ Ask l → p < 16 → AreKeptWaitingAsks (did j p k) (asked ++ p ∷ [])
  ask_queue_more l is small = record {
    each = λ q. (there q, back q);
    order =
        joined_list_in_order-append (AskQueuedBefore (did j p k)) asked (p ∷ [])
        (ask_queue_order_same j (did j p k) asked (λ q i has. was q i has) old.order)
        (joined_list_in_order_single (AskQueuedBefore (did j p k)) p) across;
    small = λ q has. elim ((joined_list_has-append asked (p ∷ []) q).0 has) [
      | inl before ↦ old.small q before
      | inr now ↦ subst (λ r. r < 16) (ask_queue_single p q now) small
    ];
  }
    where
      apart : (q : ℕ) → Has asked q → p ≢ q
      apart q has same =
          let asks = (old.each q).0 has in
          asks_fresh s j p k may l asks.0 is (subst (λ r. KeptWaitingAsksAt j r asks.0) (sym same) asks.1)

      was : (q i : ℕ) → Has asked q → KeptWaitingAsksAt (did j p k) q i → KeptWaitingAsksAt j q i
      was q i has = (asks_other j p q i k (apart q has)).1

      mine : KeptWaitingAsksAt (did j p k) p (length j)
      mine = (l, subst (LastIs (did j p k) p (length j)) is (well_formed_stays_last_now j (event p k)))

      there : (q : ℕ) → Has (asked ++ p ∷ []) q → (i : ℕ) × KeptWaitingAsksAt (did j p k) q i
      there q has = elim ((joined_list_has-append asked (p ∷ []) q).0 has) [
        | inl before ↦
            (let asks = (old.each q).0 before in (asks.0, (asks_other j p q asks.0 k (apart q before)).0 asks.1))
        | inr now ↦ (length j, subst (λ r. KeptWaitingAsksAt (did j p k) r (length j)) (ask_queue_single p q now) mine)
      ]

      back : (q : ℕ) → (i : ℕ) × KeptWaitingAsksAt (did j p k) q i → Has (asked ++ p ∷ []) q
      back q asks = (joined_list_has-append asked (p ∷ []) q).1 (elim (cases_eq p q) [
        | inl same ↦ inr ((joined_list_has-cons p [] q).1 (inl same))
        | inr isnt ↦ inl ((old.each q).1 (asks.0, (asks_other j p q asks.0 k isnt).1 asks.1))
      ])

      across : (a b : ℕ) → Has asked a → Has (p ∷ []) b → AskQueuedBefore (did j p k) a b
      across a b has one i m asks_a asks_b =
          let before = asks_old j a i (was a i has asks_a) in
          let now = asks_own j p m k (subst (λ r. KeptWaitingAsksAt (did j p k) r m) (sym (ask_queue_single p b one)) asks_b) in
          omega (arith, before, now.0)

  pub ask_queue_less : (l : ℕ) → k ≡ Acquire l → AreKeptWaitingAsks (did j p k) (kept_waiting_without asked p)
  ask_queue_less l is = record {
    each = λ q. (there q, back q);
    order =
        in_order-filter (AskQueuedBefore (did j p k)) (λ q. not (q == p)) asked
        (ask_queue_order_same j (did j p k) asked (λ q i has. ask_queue_none_new no_ask q i) old.order);
    small = λ q has. old.small q ((filtered_in_order_has (λ r. not (r == p)) asked q).0 has).0;
  }
    where
      no_ask : (m : ℕ) → k ≢ Ask m
      no_ask m same = let both = sym is ∙ same in absurd cc

      there : (q : ℕ) → Has (kept_waiting_without asked p) q → (i : ℕ) × KeptWaitingAsksAt (did j p k) q i
      there q has =
          let r = (filtered_in_order_has (λ r. not (r == p)) asked q).0 has in
          let asks = (old.each q).0 r.0 in
          let isnt : p ≢ q = λ same. false≢true (ap not (sym (eq-eqb q p (sym same))) ∙ r.1) in
          (asks.0, (asks_other j p q asks.0 k isnt).0 asks.1)

      back : (q : ℕ) → (i : ℕ) × KeptWaitingAsksAt (did j p k) q i → Has (kept_waiting_without asked p) q
      back q asks = elim (cases_eq p q) [
        | inl same ↦
            (let mine = asks_own j p asks.0 k (subst (λ r. KeptWaitingAsksAt (did j p k) r asks.0) (sym same) asks.1) in
            absurd (no_ask mine.1.0 mine.1.1))
        | inr isnt ↦
            (filtered_in_order_has (λ r. not (r == p)) asked q).1 (
              (old.each q).1 (asks.0, (asks_other j p q asks.0 k isnt).1 asks.1),
              ap not (ne_eqb q p (λ same. isnt (sym same))),
            )
      ]

pub ask_queue_next : (s : Sizes) (j : List Event) (p : ℕ) (k : Kind) (asked new : List ℕ) → WellFormedNext s j (event p k)
    → p < 16 → AreKeptWaitingAsks j asked → KeptWaitingAskedAfter asked new p k → AreKeptWaitingAsks (did j p k) new
ask_queue_next s j p (Ask l) asked new may small old is =
    subst (AreKeptWaitingAsks (did j p (Ask l))) (sym is) (ask_queue_more s j p (Ask l) asked may old l refl small)
ask_queue_next s j p (Acquire l) asked new may small old is =
    subst (AreKeptWaitingAsks (did j p (Acquire l))) (sym is) (ask_queue_less s j p (Acquire l) asked may old l refl)
ask_queue_next s j p k asked new may small old is =
    subst (AreKeptWaitingAsks (did j p k)) (sym is) (ask_queue_kept s j p k asked may old (λ l same. absurd cc) (λ l same. absurd cc))
