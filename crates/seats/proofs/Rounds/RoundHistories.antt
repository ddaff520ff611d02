-- In rounds, the memory is that after each round in turn.
use Rattle.std.proofs.Common.{ℕ, ◌≡◌, ◌+◌, ◌-◌, ◌<◌, ◌≤◌, inl, inr, true, false, Some, List, [], ◌∷◌, ◌++◌, length, le_refl, take, get_or, slice_get, take-take, zero, suc, refl, sym, ap, subst, ◌∙◌, arith}
use Rattle.std.specs.Prelude.{◌==◌, ◌&&◌}
use Rattle.std.proofs.Math.Seq.{take-length}
use Rattle.std.proofs.lemmas.Bool.{cases_Bool, cases_eq, cases_lt}
use Rattle.std.proofs.lemmas.Option.{slice_get-get_or, slice_get_within}
use Rattle.base.specs.LastWrite.{written}
use Rattle.base.proofs.LastWritten.{length-written}
use Rattle.base.proofs.SliceSets.{slice_sets_same}
use Rattle.base.proofs.SlicesAndCounts.{slice_count_by-take-le, slice_count_by-within, slice_get-from_take, slice_take-suc_at}
use Rattle.journal.specs.declared.event.Event.{Event}
use Rattle.journal.specs.declared.event.Kind.{Kind}
use Rattle.journal.specs.declared.event.Kind.TheVariants.{Acquire, Arrive, Depart}
use Rattle.journal.specs.DidEvent.{event}
use Rattle.journal.specs.Events.{event_address, event_count, events_of, event_arrives, event_departs, event_stores}
use Rattle.journal.specs.ReplayMemory.{replay_memory_write, memory_after}
use Rattle.journal.specs.Sizes.{Sizes}
use Rattle.journal.specs.WellFormed.{Does, Holds}
use Rattle.journal.proofs.Journals.WellFormedStays.{well_formed_stays_take}
use Rattle.seats.specs.Deeds.{deeds}
use Rattle.seats.specs.PhaseGuards.{PhaseGuards, phase_guard_holds_after, phase_guard_lets_access}
use Rattle.seats.specs.Rounds.{HasMade, IsInRounds, Rounds, RoundsLaw, round_part_in, is_access, is_round_acquire, rounds_after}
use Rattle.seats.proofs.GuardedDeeds.{guarded_deed_allowed_at, guarded_deed_at}
use Rattle.seats.proofs.DeedHistories.{deed_history_holds, deed_history_phase}
use Rattle.seats.proofs.PhaseOrders.{phase_order_idle_at}
use Rattle.seats.proofs.ProgramThreads.{program_threads_nobody_past}
use Rattle.seats.proofs.KeptFacts.{kept_fact_memory_push, kept_fact_replayed}
use Rattle.seats.proofs.Rounds.PhaseAccesses.{phase_accesses_elsewhere, phase_accesses_in, phase_accesses_in_later, phase_accesses_others, phase_accesses_quiet}
use Rattle.seats.proofs.Rounds.RoundMade.{IsRoundBeingMade, round_made, round_made_owner, round_made_start, round_made_long}
use Rattle.seats.proofs.Rounds.RoundSteps.{IsRoundStepAccess, AreRoundStepsSoFar, round_step_access_stays, round_step_access_has, round_step_amid_access, round_step_amid_quiet, round_step_arrives_on, round_step_departs_none, round_step_departs_others, round_step_departs_once, round_step_access, round_step_kind}

-- who accesses in a history has departed as often as it has arrived
round_history_idle : {r : Rounds} {n : ℕ} {s : Sizes} {g : PhaseGuards} {memory : List ℕ} {h : List Event} → IsInRounds r n s g memory h
    → (m p : ℕ) (k : Kind) (a : ℕ) → Does h m p k → event_address k ≡ Some a
    → event_count event_arrives (take m h) p ≡ event_count event_departs (take m h) p
round_history_idle {s = s} {h = h} x m p k a does at =
    phase_order_idle_at s h m p a x.well_formed (record { kind = k; does = does; address = at })

-- who has arrived at a round's barrier has made all that it makes in that round
round_history_settled : {r : Rounds} {n : ℕ} {s : Sizes} {g : PhaseGuards} {memory : List ℕ} {h : List Event} → IsInRounds r n s g memory h
    → (k m q d : ℕ) → m + d ≤ length h → k + 1 ≤ event_count event_arrives (take m h) q
    → phase_accesses_in k (take (m + d) h) q ≡ phase_accesses_in k (take m h) q
round_history_settled {h = h} x k m q zero long arrived = ap (λ i. phase_accesses_in k (take i h) q) (omega arith)
round_history_settled {h = h} x k m q (suc d) long arrived =
    let e = get_or h (m + d) (event q Arrive) in
    let at : slice_get h (m + d) ≡ Some e = slice_get-get_or h (m + d) (event q Arrive) (omega arith) in
    ap (λ i. phase_accesses_in k (take i h) q) (let i : m + suc d ≡ suc (m + d) = omega arith in i)
    ∙ ap (λ j. phase_accesses_in k j q) (slice_take-suc_at h (m + d) e at)
    ∙ one e at
    ∙ round_history_settled x k m q d (omega arith) arrived
  where
    longer : event_count event_arrives (take m h) q ≤ event_count event_arrives (take (m + d) h) q
    longer = subst (λ (j : List Event). event_count event_arrives j q ≤ event_count event_arrives (take (m + d) h) q)
        (take-take m (m + d) h (omega arith))
        (slice_count_by-take-le (λ (e : Event). (e.processor == q) && event_arrives e.kind) (take (m + d) h) m)

    own : (kind : Kind) → Does h (m + d) q kind
        → phase_accesses_in k (take (m + d) h ++ event q kind ∷ []) q ≡ phase_accesses_in k (take (m + d) h) q
    own kind does = elim (round_step_kind kind) [
      | inl is ↦ phase_accesses_quiet k (take (m + d) h) q q kind (ap is_access is)
      | inr rest ↦ elim rest [
        | inl quiet ↦ phase_accesses_quiet k (take (m + d) h) q q kind quiet.0
        | inr access ↦ phase_accesses_elsewhere k (take (m + d) h) q kind (round_step_access_has kind access.0 access.1)
            (λ is. absurd (let idle = round_history_idle x (m + d) q kind access.0 does access.1 in
            omega (arith, idle, is, longer, arrived)))
      ]
    ]

    one : (e : Event) → slice_get h (m + d) ≡ Some e
        → phase_accesses_in k (take (m + d) h ++ e ∷ []) q ≡ phase_accesses_in k (take (m + d) h) q
    one e at = elim (cases_eq q e.processor) [
      | inl is ↦ subst (λ p. phase_accesses_in k (take (m + d) h ++ event p e.kind ∷ []) q ≡ phase_accesses_in k (take (m + d) h) q) is
          (own e.kind (subst (λ p. slice_get h (m + d) ≡ Some (event p e.kind)) (sym is) at))
      | inr apart ↦ phase_accesses_others k (take (m + d) h) e.processor q e.kind apart
    ]

-- a program in rounds holds no lock
round_history_unlocked : {r : Rounds} {n : ℕ} {s : Sizes} {g : PhaseGuards} {memory : List ℕ} {h : List Event} → IsInRounds r n s g memory h
    → (m p l : ℕ) → p < s.processors → phase_guard_holds_after (deeds (events_of (take m h) p)) l ≡ false
round_history_unlocked {h = h} x m p l less = elim (cases_Bool (phase_guard_holds_after (deeds (events_of (take m h) p)) l)) [
  | inr none ↦ none
  | inl has ↦ absurd (held (deed_history_holds l p (take m h) has))
]
  where
    held : Holds (take m h) p l → ⊥
    held holds =
        let found = guarded_deed_at h holds.place p (Acquire l)
        (slice_get-from_take h m holds.place (event p (Acquire l)) holds.acquires) refl in
        let some = slice_count_by-within is_round_acquire (deeds (events_of h p)) (length (deeds (events_of (take holds.place h) p)))
        (Acquire l) found.there refl in
        let none = (x.each p less).unlocked in
        omega (arith, some, none)

-- one event more
round_history_next : {r : Rounds} {n : ℕ} {s : Sizes} {g : PhaseGuards} {memory : List ℕ} {h : List Event} → IsInRounds r n s g memory h
    → (m p : ℕ) (kind : Kind) → Does h m p kind → (k : ℕ) → AreRoundStepsSoFar r n s g memory k (take m h)
    → (i : ℕ) × AreRoundStepsSoFar r n s g memory i (take m h ++ event p kind ∷ [])
round_history_next {r} {n} {s} {g} {memory} {h} x m p kind does k was = elim (round_step_kind kind) [
  | inl is ↦ subst (λ d. (i : ℕ) × AreRoundStepsSoFar r n s g memory i (j ++ event p d ∷ [])) (sym is)
      (departs (subst (λ d. Does h m p d) is does))
  | inr rest ↦ elim rest [
    | inl quiet ↦ (k, stays quiet.1 (round_step_amid_quiet memory k j p kind quiet.0 was.amid))
    | inr access ↦ (
      k,
      stays (round_step_access_stays kind access.0 access.1)
          (round_step_amid_access memory k j p kind (guarded access.0 access.1) (here access.0 access.1) (kept_fact_replayed m p kind x.replays does) was.amid),
    )
  ]
]
  where
    j : List Event
    j = take m h

    less : p < s.processors
    less = (x.well_formed m (event p kind) does).processor

    stays : event_departs kind ≡ false
        → IsRoundBeingMade (g k) (rounds_after r k memory) (phase_accesses_in k (j ++ event p kind ∷ [])) (memory_after memory (j ++ event p kind ∷ []))
        → AreRoundStepsSoFar r n s g memory k (j ++ event p kind ∷ [])
    stays goes amid = record {
      reached = was.reached;
      departed = λ q. (let same = round_step_departs_none j p q kind goes in let old = was.departed q in omega (arith, same, old));
      arrived = λ q lt. (let more = round_step_arrives_on j (event p kind ∷ []) q in let old = was.arrived q lt in omega (arith, more, old));
      amid = amid;
    }

    here : (a : ℕ) → event_address kind ≡ Some a → event_count event_departs j p ≡ k
    here a at =
        let idle = round_history_idle x m p kind a does at in
        let least = was.arrived p less in
        let most = was.departed p in
        omega (arith, idle, least, most)

    guarded : (a : ℕ) → event_address kind ≡ Some a → IsRoundStepAccess (g k) p kind
    guarded a at = record {
      address = a;
      at = at;
      access = round_step_access_has kind a at;
      guarded = round_step_access (g k a) p (phase_guard_holds_after (deeds (events_of j p))) (event_stores kind)
          (subst (λ i. phase_guard_lets_access (g i a) p (phase_guard_holds_after (deeds (events_of j p))) (event_stores kind) ≡ true) (here a at)
          (guarded_deed_allowed_at g h m p a (x.keep p) (record { kind = kind; does = does; address = at })))
          (λ l. round_history_unlocked x m p l less) (x.closed k a);
    }

    departs : Does h m p Depart → (i : ℕ) × AreRoundStepsSoFar r n s g memory i (j ++ event p Depart ∷ [])
    departs leaves = elim (cases_lt (event_count event_departs j p) k) [
      | inl behind ↦ (
        k,
        record {
          reached = was.reached;
          departed = λ q. elim (cases_eq q p) [
            | inl is ↦ subst (λ i. event_count event_departs (j ++ event p Depart ∷ []) i ≤ k) (sym is)
                (let one = round_step_departs_once j p in omega (arith, one, behind))
            | inr apart ↦ (let same = round_step_departs_others j p q Depart apart in let old = was.departed q in omega (arith, same, old))
          ];
          arrived = λ q lt. (let more = round_step_arrives_on j (event p Depart ∷ []) q in let old = was.arrived q lt in omega (arith, more, old));
          amid = round_step_amid_quiet memory k j p Depart refl was.amid;
        },
      )
      | inr first ↦ (
        suc k,
        record {
          reached = within first;
          departed = λ q. elim (cases_eq q p) [
            | inl is ↦ subst (λ i. event_count event_departs (j ++ event p Depart ∷ []) i ≤ suc k) (sym is)
                (let one = round_step_departs_once j p in let old = was.departed p in omega (arith, one, old))
            | inr apart ↦ (let same = round_step_departs_others j p q Depart apart in let old = was.departed q in omega (arith, same, old))
          ];
          arrived = λ q lt. (let more = round_step_arrives_on j (event p Depart ∷ []) q in let old = all first q lt in omega (arith, more, old));
          amid = round_made_start (g (suc k)) (rounds_after r (suc k) memory) (memory_after memory (j ++ event p Depart ∷ []))
              (phase_accesses_in (suc k) (j ++ event p Depart ∷ []))
              (λ q. phase_accesses_quiet (suc k) j p q Depart refl ∙ phase_accesses_in_later (suc k) j q (let old = was.departed q in omega (arith, old)))
              (kept_fact_memory_push memory j p Depart ∙ done first);
        },
      )
    ]
      where
        all : k ≤ event_count event_departs j p → (q : ℕ) → q < s.processors → k + 1 ≤ event_count event_arrives j q
        all first q lt =
            let arrived = (x.well_formed m (event p Depart) leaves).allowed.2 q lt in omega (arith, arrived, first)

        within : k ≤ event_count event_departs j p → suc k ≤ n
        within first =
            let ended : event_count event_departs h p ≡ n = sym (deed_history_phase h p) ∙ (x.each p less).ended in
            let now : event_count event_departs (take (suc m) h) p ≡ event_count event_departs j p + 1 =
            ap (λ (es : List Event). event_count event_departs es p) (slice_take-suc_at h m (event p Depart) leaves) ∙ round_step_departs_once j p in
            let most = slice_count_by-take-le (λ (e : Event). (e.processor == p) && event_departs e.kind) h (suc m) in
            omega (arith, ended, now, most, first)

        done : k ≤ event_count event_departs j p → memory_after memory j ≡ rounds_after r (suc k) memory
        done first = round_made r s.processors k was.amid x.covered (round_made_long r s.processors k memory x.covered x.long)
            (length-written (λ (e : Event). replay_memory_write e.kind) memory j ∙ x.long)
            (λ q lt. subst (HasMade r k (r.makes k q)) (settled q lt) ((x.each q lt).each k (let more = within first in omega (arith, more))))
            (λ q past. ap (λ es. round_part_in k (deeds es)) (program_threads_nobody_past s j q (well_formed_stays_take s h m x.well_formed) past))
          where
            inside : m < length h
            inside = slice_get_within h m (event p Depart) leaves

            settled : (q : ℕ) → q < s.processors → phase_accesses_in k h q ≡ phase_accesses_in k j q
            settled q lt =
                ap (λ es. phase_accesses_in k es q) (sym (take-length h)
                ∙ ap (λ i. take i h) (let e : length h ≡ m + (length h - m) = omega (arith, inside) in e))
                ∙ round_history_settled x k m q (length h - m) (omega (arith, inside)) (all first q lt)

-- and all of them
round_history_through : {r : Rounds} {n : ℕ} {s : Sizes} {g : PhaseGuards} {memory : List ℕ} {h : List Event} → IsInRounds r n s g memory h
    → (m : ℕ) → m ≤ length h → (k : ℕ) × AreRoundStepsSoFar r n s g memory k (take m h)
round_history_through {r} {n} {s} {g} {memory} {h} x zero le = (
  0,
  record {
    reached = omega arith;
    departed = λ q. omega arith;
    arrived = λ q lt. omega arith;
    amid = round_made_start (g 0) memory memory (phase_accesses_in 0 []) (λ q. refl) refl;
  },
)
round_history_through {r} {n} {s} {g} {memory} {h} x (suc m) le =
    let e = get_or h m (event 0 Arrive) in
    let at : slice_get h m ≡ Some e = slice_get-get_or h m (event 0 Arrive) (omega arith) in
    let was = round_history_through x m (omega arith) in
    subst (λ es. (k : ℕ) × AreRoundStepsSoFar r n s g memory k es) (sym (slice_take-suc_at h m e at))
    (round_history_next x m e.processor e.kind at was.0 was.1)

pub rounds_law : RoundsLaw
rounds_law r n s g memory h x =
    subst (λ i. memory_after memory h ≡ rounds_after r i memory) last_is
    (slice_sets_same (memory_after memory h) (rounds_after r k memory) same)
  where
    through : (k : ℕ) × AreRoundStepsSoFar r n s g memory k (take (length h) h)
    through = round_history_through x (length h) (le_refl (length h))

    k : ℕ
    k = through.0

    last : AreRoundStepsSoFar r n s g memory k h
    last = subst (AreRoundStepsSoFar r n s g memory k) (take-length h) through.1

    last_is : k ≡ n
    last_is =
        let ended : event_count event_departs h 0 ≡ n = sym (deed_history_phase h 0) ∙ (x.each 0 x.some).ended in
        let most = last.departed 0 in let least = last.reached in
        omega (arith, ended, most, least)

    none : (p : ℕ) → phase_accesses_in k h p ≡ []
    none p = elim (cases_lt p s.processors) [
      | inl less ↦ ap (λ i. phase_accesses_in i h p) last_is ∙ (x.each p less).since
      | inr past ↦ ap (λ es. round_part_in k (deeds es)) (program_threads_nobody_past s h p x.well_formed past)
    ]

    same : (a : ℕ) → slice_get (memory_after memory h) a ≡ slice_get (rounds_after r k memory) a
    same a = elim (round_made_owner (g k a)) [
      | inl owner ↦ last.amid.own owner.0 a owner.1
          ∙ ap (λ es. slice_get (written replay_memory_write (rounds_after r k memory) es) a) (none owner.0)
      | inr free ↦ last.amid.rest a free
    ]
