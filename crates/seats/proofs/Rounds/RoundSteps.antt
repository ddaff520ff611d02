-- A history in rounds, event by event.
use Rattle.std.proofs.Common.{ℕ, ◌≡◌, ◌≢◌, ◌+◌, ◌<◌, ◌≤◌, ◌⊎◌, inl, inr, Bool, true, false, Option, Some, None, List, [], ◌∷◌, ◌++◌, slice_get, refl, sym, ap, subst, ◌∙◌, arith}
use Rattle.std.proofs.lemmas.Bool.{cases_eq, eq-eqb, eqb-true, ne_eqb}
use Rattle.base.specs.LastWrite.{written, wrote}
use Rattle.base.proofs.LastWritten.{written-append}
use Rattle.base.proofs.SliceSets.{slice_get-set_other}
use Rattle.journal.specs.declared.event.Event.{Event}
use Rattle.journal.specs.declared.event.Kind.{Kind}
use Rattle.journal.specs.declared.event.Kind.TheVariants.{Load, Store, Depart}
use Rattle.journal.specs.DidEvent.{event}
use Rattle.journal.specs.Events.{event_address, event_count, event_arrives, event_departs, event_stores}
use Rattle.journal.specs.ReplayMemory.{AnswersReplayMemory, replay_memory_write, memory_after}
use Rattle.journal.specs.Sizes.{Sizes}
use Rattle.journal.proofs.Order.EventPlacesAndCounts.{event_count-append}
use Rattle.seats.specs.declared.guard.Guard.{Guard}
use Rattle.seats.specs.declared.guard.Guard.TheVariants.{Under, Of, Shared, Open}
use Rattle.seats.specs.PhaseGuards.{PhaseGuards, phase_guard_lets_access}
use Rattle.seats.specs.Rounds.{Rounds, is_access, rounds_after}
use Rattle.seats.specs.Tenures.{TenureAnswersFrom}
use Rattle.seats.proofs.KeptFacts.{kept_fact_answers_push, kept_fact_memory_push, kept_fact_same_store}
use Rattle.seats.proofs.Rounds.PhaseAccesses.{phase_accesses_push, phase_accesses_in, phase_accesses_others, phase_accesses_quiet}
use Rattle.seats.proofs.Rounds.RoundMade.{IsRoundBeingMade}

-- after these events k rounds are done, and the next one has begun: all have arrived at its barrier, and nobody has departed
-- from a later one
pub record AreRoundStepsSoFar (r : Rounds) (n : ℕ) (s : Sizes) (g : PhaseGuards) (memory : List ℕ) (k : ℕ) (j : List Event) : Type 0 where
  pub reached : k ≤ n
  pub departed : (p : ℕ) → event_count event_departs j p ≤ k
  pub arrived : (p : ℕ) → p < s.processors → k ≤ event_count event_arrives j p
  pub amid : IsRoundBeingMade (g k) (rounds_after r k memory) (phase_accesses_in k j) (memory_after memory j)

-- what no access does to the memory
round_step_quiet_write : (k : Kind) → is_access k ≡ false → replay_memory_write k ≡ None
round_step_quiet_write (Store a v) e = absurd (cc)
round_step_quiet_write _ e = refl

-- one that is no access
pub round_step_amid_quiet : {owners : ℕ → Option Guard} {before : List ℕ} (memory : List ℕ) (n : ℕ) (j : List Event) (p : ℕ) (k : Kind)
    → is_access k ≡ false → IsRoundBeingMade owners before (phase_accesses_in n j) (memory_after memory j)
    → IsRoundBeingMade owners before (phase_accesses_in n (j ++ event p k ∷ [])) (memory_after memory (j ++ event p k ∷ []))
round_step_amid_quiet {before = before} memory n j p k quiet was = record {
  own = λ q a mine. ap (λ m. slice_get m a) same ∙ was.own q a mine ∙ sym (part q a);
  rest = λ a none. ap (λ m. slice_get m a) same ∙ was.rest a none;
  apart = λ q a none. part q a ∙ was.apart q a none;
  answers = λ q. subst (TenureAnswersFrom before) (sym (phase_accesses_quiet n j p q k quiet)) (was.answers q);
}
  where
    same : memory_after memory (j ++ event p k ∷ []) ≡ memory_after memory j
    same = kept_fact_memory_push memory j p k ∙ ap (wrote (memory_after memory j)) (round_step_quiet_write k quiet)

    part : (q a : ℕ) → slice_get (written replay_memory_write before (phase_accesses_in n (j ++ event p k ∷ []) q)) a
        ≡ slice_get (written replay_memory_write before (phase_accesses_in n j q)) a
    part q a = ap (λ es. slice_get (written replay_memory_write before es) a) (phase_accesses_quiet n j p q k quiet)

-- what an access writes in two memories that agree on its word
round_step_same_write : (m n : List ℕ) (k : Kind) (a b : ℕ) → event_address k ≡ Some a → slice_get m a ≡ slice_get n a
    → slice_get m b ≡ slice_get n b → slice_get (wrote m (replay_memory_write k)) b ≡ slice_get (wrote n (replay_memory_write k)) b
round_step_same_write m n (Store c v) a b is agree there =
    let here : a ≡ c = let e = is in cc in
    kept_fact_same_store m n b c v (subst (λ i. slice_get m i ≡ slice_get n i) here agree) there
round_step_same_write m n _ a b is agree there = there

-- and elsewhere
round_step_write_elsewhere : (m : List ℕ) (k : Kind) (a b : ℕ) → event_address k ≡ Some a → (event_stores k ≡ true → b ≢ a)
    → slice_get (wrote m (replay_memory_write k)) b ≡ slice_get m b
round_step_write_elsewhere m (Store c v) a b is apart =
    let here : a ≡ c = let e = is in cc in
    slice_get-set_other m c b v (λ e. apart refl (e ∙ sym here))
round_step_write_elsewhere m _ a b is apart = refl

-- the same answer
round_step_same_answers : (m n : List ℕ) (k : Kind) (a : ℕ) → event_address k ≡ Some a → slice_get m a ≡ slice_get n a
    → AnswersReplayMemory m k → AnswersReplayMemory n k
round_step_same_answers m n (Load c v) a is agree answer =
    let here : a ≡ c = let e = is in cc in
    subst (λ i. slice_get n i ≡ Some v) here (sym agree ∙ subst (λ i. slice_get m i ≡ Some v) (sym here) answer)
round_step_same_answers m n _ a is agree answer = tt

-- an access in a round: of a word of the processor's own, or a load of a shared one
pub record IsRoundStepAccess (owners : ℕ → Option Guard) (p : ℕ) (k : Kind) : Type 0 where
  pub address : ℕ
  pub at : event_address k ≡ Some address
  pub access : is_access k ≡ true
  pub guarded : (owners address ≡ Some (Of p)) ⊎ ((owners address ≡ Some Shared) × (event_stores k ≡ false))

-- it makes
pub round_step_amid_access : {owners : ℕ → Option Guard} {before : List ℕ} (memory : List ℕ) (n : ℕ) (j : List Event) (p : ℕ) (k : Kind)
    → IsRoundStepAccess owners p k → event_count event_departs j p ≡ n → AnswersReplayMemory (memory_after memory j) k
    → IsRoundBeingMade owners before (phase_accesses_in n j) (memory_after memory j)
    → IsRoundBeingMade owners before (phase_accesses_in n (j ++ event p k ∷ [])) (memory_after memory (j ++ event p k ∷ []))
round_step_amid_access {owners} {before} memory n j p k x here answer was = record {
  own = λ q b mine. ap (λ m. slice_get m b) (kept_fact_memory_push memory j p k) ∙ elim (cases_eq q p) [
    | inl is ↦ round_step_same_write now (made p) k a b x.at agree
        (subst (λ i. slice_get now b ≡ slice_get (made i) b) is (was.own q b mine))
        ∙ ap (λ m. slice_get m b) (sym (subst (λ i. grown i ≡ wrote (made p) (replay_memory_write k)) (sym is) more))
    | inr apart ↦ round_step_write_elsewhere now k a b x.at (λ stores is. absurd (apart (same_owner q b mine stores is)))
        ∙ was.own q b mine ∙ ap (λ m. slice_get m b) (sym (others q apart))
  ];
  rest = λ b none. ap (λ m. slice_get m b) (kept_fact_memory_push memory j p k)
      ∙ round_step_write_elsewhere now k a b x.at (λ stores is. none p (ap owners is ∙ stored stores)) ∙ was.rest b none;
  apart = λ q b none. elim (cases_eq q p) [
    | inl is ↦ subst (λ i. slice_get (grown i) b ≡ slice_get before b) (sym is)
        (ap (λ m. slice_get m b) more
        ∙ round_step_write_elsewhere (made p) k a b x.at
        (λ stores at. none (subst (λ i. owners b ≡ Some (Of i)) (sym is) (ap owners at ∙ stored stores)))
        ∙ was.apart p b (subst (λ i. owners b ≢ Some (Of i)) is none))
    | inr apart ↦ ap (λ m. slice_get m b) (others q apart) ∙ was.apart q b none
  ];
  answers = λ q. elim (cases_eq q p) [
    | inl is ↦ subst (λ i. TenureAnswersFrom before (phase_accesses_in n (j ++ event p k ∷ []) i)) (sym is)
        (subst (TenureAnswersFrom before) (sym part) (kept_fact_answers_push before (phase_accesses_in n j p) k (was.answers p)
        (round_step_same_answers now (made p) k a x.at agree answer)))
    | inr apart ↦ subst (TenureAnswersFrom before) (sym (phase_accesses_others n j p q k apart)) (was.answers q)
  ];
}
  where
    a : ℕ
    a = x.address

    now : List ℕ
    now = memory_after memory j

    made : ℕ → List ℕ
    made q = written replay_memory_write before (phase_accesses_in n j q)

    grown : ℕ → List ℕ
    grown q = written replay_memory_write before (phase_accesses_in n (j ++ event p k ∷ []) q)

    part : phase_accesses_in n (j ++ event p k ∷ []) p ≡ phase_accesses_in n j p ++ k ∷ []
    part = phase_accesses_push n j p k x.access here

    more : grown p ≡ wrote (made p) (replay_memory_write k)
    more = ap (written replay_memory_write before) part ∙ written-append replay_memory_write before (phase_accesses_in n j p) (k ∷ [])

    others : (q : ℕ) → q ≢ p → grown q ≡ made q
    others q apart = ap (written replay_memory_write before) (phase_accesses_others n j p q k apart)

    stored : event_stores k ≡ true → owners a ≡ Some (Of p)
    stored stores = elim x.guarded [
      | inl mine ↦ mine
      | inr shared ↦ absurd (let both : true ≡ false = sym stores ∙ shared.1 in cc)
    ]

    agree : slice_get now a ≡ slice_get (made p) a
    agree = elim x.guarded [
      | inl mine ↦ was.own p a mine
      | inr shared ↦ was.rest a (λ q e. absurd (let both : Some Shared ≡ Some (Of q) = sym shared.0 ∙ e in cc))
          ∙ sym (was.apart p a (λ e. absurd (let both : Some Shared ≡ Some (Of p) = sym shared.0 ∙ e in cc)))
    ]

    same_owner : (q b : ℕ) → owners b ≡ Some (Of q) → event_stores k ≡ true → b ≡ a → q ≡ p
    same_owner q b mine stores is =
        let both : Some (Of q) ≡ Some (Of p) = sym mine ∙ ap owners is ∙ stored stores in cc

-- whom the guard lets access, without a lock
pub round_step_access : (o : Option Guard) (p : ℕ) (holds : ℕ → Bool) (stores : Bool) → phase_guard_lets_access o p holds stores ≡ true
    → ((l : ℕ) → holds l ≡ false) → o ≢ Some Open → (o ≡ Some (Of p)) ⊎ ((o ≡ Some Shared) × (stores ≡ false))
round_step_access None p holds stores lets none closed = absurd (cc)
round_step_access (Some (Under l)) p holds stores lets none closed =
    absurd (let both : false ≡ true = sym (none l) ∙ lets in cc)
round_step_access (Some (Of q)) p holds stores lets none closed = inl (ap (λ i. Some (Of i)) (eqb-true q p lets))
round_step_access (Some Shared) p holds true lets none closed = absurd (cc)
round_step_access (Some Shared) p holds false lets none closed = inr (refl, refl)
round_step_access (Some Open) p holds stores lets none closed = absurd (closed refl)

-- departures with one event more
pub round_step_departs_once : (j : List Event) (p : ℕ) → event_count event_departs (j ++ event p Depart ∷ []) p ≡ event_count event_departs j p + 1
round_step_departs_once j p =
    event_count-append event_departs j (event p Depart ∷ []) p
    ∙ ap (λ i. event_count event_departs j p + i) (let own = eq-eqb p p refl in rw own refl)

pub round_step_departs_others : (j : List Event) (p q : ℕ) (k : Kind) → q ≢ p
    → event_count event_departs (j ++ event p k ∷ []) q ≡ event_count event_departs j q
round_step_departs_others j p q k apart =
    event_count-append event_departs j (event p k ∷ []) q
    ∙ (let other = ne_eqb p q (λ e. apart (sym e)) in
    let none : event_count event_departs (event p k ∷ []) q ≡ 0 = rw other refl in omega (arith, none))

pub round_step_departs_none : (j : List Event) (p q : ℕ) (k : Kind) → event_departs k ≡ false
    → event_count event_departs (j ++ event p k ∷ []) q ≡ event_count event_departs j q
round_step_departs_none j p q k goes = elim (cases_eq q p) [
  | inr apart ↦ round_step_departs_others j p q k apart
  | inl is ↦ subst (λ i. event_count event_departs (j ++ event p k ∷ []) i ≡ event_count event_departs j i) (sym is)
      (event_count-append event_departs j (event p k ∷ []) p
      ∙ (let own = eq-eqb p p refl in
      let none : event_count event_departs (event p k ∷ []) p ≡ 0 = rw (own, goes) refl in omega (arith, none)))
]

-- arrivals only grow
pub round_step_arrives_on : (j es : List Event) (q : ℕ) → event_count event_arrives j q ≤ event_count event_arrives (j ++ es) q
round_step_arrives_on j es q = let both = event_count-append event_arrives j es q in omega (arith, both)

-- what an event is in a round
pub round_step_kind : (k : Kind) → (k ≡ Depart) ⊎ (((is_access k ≡ false) × (event_departs k ≡ false)) ⊎ ((a : ℕ) × (event_address k ≡ Some a)))
round_step_kind Depart = inl refl
round_step_kind (Load a v) = inr (inr (a, refl))
round_step_kind (Store a v) = inr (inr (a, refl))
round_step_kind _ = inr (inl (refl, refl))

pub round_step_access_has : (k : Kind) (a : ℕ) → event_address k ≡ Some a → is_access k ≡ true
round_step_access_has (Load b v) a e = refl
round_step_access_has (Store b v) a e = refl
round_step_access_has _ a e = absurd (cc)

pub round_step_access_stays : (k : Kind) (a : ℕ) → event_address k ≡ Some a → event_departs k ≡ false
round_step_access_stays (Load b v) a e = refl
round_step_access_stays (Store b v) a e = refl
round_step_access_stays _ a e = absurd (cc)
