-- Whoever of a persistent set goes on behind events that are passed over asks for a free lock.
-- Passed over are events of processors outside the set, and members' asks for locks that are held. So behind them no lock is given
-- up by a member, no member has arrived, and no flag is set that a member awaits.
use Rattle.std.proofs.Common.{ℕ, suc, ◌≡◌, ◌≢◌, ◌+◌, ◌<◌, ◌≤◌, ◌↔◌, ◌⊎◌, inl, inr, Bool, List, [], ◌∷◌, ◌++◌, Option, Some, length, slice_index_or, refl, sym, ap, subst, ◌∙◌, append_assoc, append-nil, arith}
use Rattle.std.specs.Prelude.{None}
use Rattle.std.specs.Global.{Vec}
use Rattle.std.proofs.lemmas.Bool.{cases_lt, false≢true}
use Rattle.std.proofs.lemmas.Option.{none-some, same_Some}
use Rattle.base.proofs.SlicesAndCounts.{slice_append_cases, slice_push_cases}
use Rattle.journal.specs.declared.event.Event.{Event}
use Rattle.journal.specs.declared.event.Kind.{Kind}
use Rattle.journal.specs.declared.event.Kind.TheVariants.{Ask, Acquire, Release, Depart, Set, Await}
use Rattle.journal.specs.DidEvent.{did, event}
use Rattle.journal.specs.Events.{EventAt, event_count, event_arrives, event_departs}
use Rattle.journal.specs.WellFormed.{Does, Holds}
use Rattle.journal.proofs.Journals.HoldsOfOthers.{holds_over_others}
use Rattle.journal.proofs.Journals.WellFormedStays.{well_formed_stays_last_longer, well_formed_stays_last_now}
use Rattle.journal.proofs.Order.EventPlacesAndCounts.{event_count-append, event_place_behind, event_place_numbered}
use Rattle.judge.specs.Why.{WhyWaitsFor}
use Rattle.lrc_script.specs.Plan.{Plan}
use Rattle.conformance.specs.Follows.{plan_sizes}
use Rattle.explore.specs.declared.prefixes.script_call.ScriptCall.{ScriptCall}
use Rattle.explore.specs.Machines.{AreLawfulMachineSteps}
use Rattle.explore.specs.PersistentSets.{AsksInPersistentSet, HasLateMember, HasLockHolder, HasAllYetToCall, IsPersistentMember, IsPersistentSet, IsYetToCall, PersistentMember}
use Rattle.explore.specs.PersistentSets.PersistentMember.{absent, ended, asks, asks_in_vain, waits_for_lock, waits_for_others, waits_for_flag}
use Rattle.explore.specs.Prefixes.FlatBeginnings.{IsFlatBeginning}
use Rattle.explore.proofs.Enabled.{enabled_only_awaited}
use Rattle.explore.proofs.MachineSteps.{machine_step_next_may, machine_step_next_within, machine_step_rows_many}
use Rattle.explore.proofs.PrefixRuns.Beginnings.{prefix_beginning_front}
use Rattle.explore.proofs.Reduced.Later.{later_ask, later_none, later_same_ask, later_set}
use Rattle.explore.proofs.Reduced.Reaching.{reaching_parted, reduced_reaching_first_of}

-- no event of these is p's
abbrev IsPersistentAway : List Event → ℕ → Type 0
IsPersistentAway es p = (m : ℕ) (e : Event) → EventAt es m e → e.processor ≢ p

-- an event is a member's only if it asks for a lock that is held
abbrev pub PersistentlyOver : List Event → List Bool → Event → Type 0
PersistentlyOver g members e = IsPersistentMember members e.processor → (l : ℕ) × (e.kind ≡ Ask l) × ((q : ℕ) × Holds g q l)

abbrev pub ArePersistentlyOver : List Event → List Bool → List Event → Type 0
ArePersistentlyOver g members es = (m : ℕ) (e : Event) → EventAt es m e → PersistentlyOver g members e

-- a take is no ask
persistent_not_ask : (l m : ℕ) → Acquire l ≢ Ask m
persistent_not_ask l m is = absurd cc

-- asks that are the same are for one lock
pub persistent_ask_same : (a b : ℕ) → Ask a ≡ Ask b → a ≡ b
persistent_ask_same a b is = cc

-- what p waits for after g, and others' events
persistent_waits_longer : (g more : List Event) (p : ℕ) (k : Kind) → IsPersistentAway more p → WhyWaitsFor g p k → WhyWaitsFor (g ++ more) p k
persistent_waits_longer g more p k away w = record {
  place = w.place;
  kind = w.kind;
  last = well_formed_stays_last_longer g more p w.place w.kind away w.last;
  awaits = w.awaits;
}

-- p waits after its own ask
persistent_waits_now : (g : List Event) (p l : ℕ) → WhyWaitsFor (did g p (Ask l)) p (Acquire l)
persistent_waits_now g p l = record {
  place = length g;
  kind = Ask l;
  last = well_formed_stays_last_now g (event p (Ask l));
  awaits = refl;
}

-- p goes on after some others' events, or its first event among these comes after some others'
record PersistentGoesOn (s : Plan) (g more : List Event) (p : ℕ) : Type 0 where
  before : List Event
  kind : Kind
  after : List Event
  are : more ≡ before ++ event p kind ∷ after
  away : IsPersistentAway before p
  next : IsFlatBeginning s (did (g ++ before) p kind)

persistent_goes_on : (s : Plan) (g more : List Event) (p : ℕ) → IsFlatBeginning s (g ++ more) → PersistentGoesOn s g more p ⊎ IsPersistentAway more p
persistent_goes_on s g more p begins = elim (reduced_reaching_first_of more p) [
  | inl f ↦
      (let own : f.own ≡ event p f.own.kind = ap (λ q. event q f.own.kind) f.mine in
      let are : more ≡ f.before ++ event p f.own.kind ∷ f.after = f.are ∙ ap (λ e. f.before ++ e ∷ f.after) own in
      let parted : g ++ more ≡ ((g ++ f.before) ++ event p f.own.kind ∷ []) ++ f.after =
      ap (λ xs. g ++ xs) are ∙ sym (append_assoc g f.before (event p f.own.kind ∷ f.after))
      ∙ sym (append_assoc (g ++ f.before) (event p f.own.kind ∷ []) f.after) in
      inl (record {
        before = f.before;
        kind = f.own.kind;
        after = f.after;
        are = are;
        away = f.away;
        next = prefix_beginning_front s ((g ++ f.before) ++ event p f.own.kind ∷ []) f.after (subst (IsFlatBeginning s) parted begins);
      }))
  | inr away ↦ inr away
]

-- an event that stands among some
persistent_at_own : (before : List Event) (e : Event) (after : List Event) → EventAt (before ++ e ∷ after) (length before) e
persistent_at_own [] e after = refl
persistent_at_own (x ∷ before) e after = persistent_at_own before e after

-- what stands behind the first event
persistent_at_after : (before : List Event) (e : Event) (after : List Event) (m : ℕ) (f : Event) → EventAt after m f
    → EventAt (before ++ e ∷ after) (length before + suc m) f
persistent_at_after before e after m f at = event_place_behind before (e ∷ after) (suc m) f at

module _ (s : Plan) (rows : List (Vec ScriptCall)) (steps : AreLawfulMachineSteps s rows) (g : List Event) (nexts : List (Option Kind))
    (are : (p : ℕ) (k : Kind) → (slice_index_or nexts p None ≡ Some k) ↔ IsFlatBeginning s (did g p k)) (members : List Bool)
    (set : IsPersistentSet rows g nexts members) where
  -- who goes on is there
  persistent_present : (p : ℕ) (k : Kind) (more : List Event) → length rows ≤ p → ¬ IsFlatBeginning s (did (g ++ more) p k)
  persistent_present p k more past next =
      let within = machine_step_next_within s (g ++ more) p k next in
      let many = machine_step_rows_many s rows steps in
      omega (arith, past, within, many)

  -- a member that asks for a free lock next has all that have yet to ask for it beside it
  pub persistent_rivals : (p lock : ℕ) → AsksInPersistentSet g nexts members p lock → (more : List Event) (q : ℕ)
      → IsFlatBeginning s (did (g ++ more) q (Ask lock)) → IsPersistentMember members q
  persistent_rivals p lock own more q later = by (set p own.member)
    where
      now : IsFlatBeginning s (did g p (Ask lock))
      now = (are p (Ask lock)).0 own.next

      waits : (k : Kind) → WhyWaitsFor g p k → k ≡ Ask lock
      waits k w = enabled_only_awaited (plan_sizes s) g p k (Ask lock) w (machine_step_next_may s g p (Ask lock) now)

      same : (l : ℕ) → slice_index_or nexts p None ≡ Some (Ask l) → l ≡ lock
      same l next = persistent_ask_same l lock (same_Some (Ask l) (Ask lock) (sym next ∙ own.next))

      not_depart : Depart ≢ Ask lock
      not_depart is = absurd cc

      not_await : (f : ℕ) → Await f ≢ Ask lock
      not_await f is = absurd cc

      by : PersistentMember rows g nexts members p → IsPersistentMember members q
      by (absent past) = absurd (persistent_present p (Ask lock) [] past (subst (λ x. IsFlatBeginning s (did x p (Ask lock))) (sym (append-nil g)) now))
      by (ended row at over) = absurd (later_none s rows steps g [] p (Ask lock) row at over (subst (λ x. IsFlatBeginning s (did x p (Ask lock))) (sym (append-nil g)) now))
      by (asks l next free all) = all q (subst (λ i. IsYetToCall rows g q (Ask i)) (sym (same l next)) (later_ask s rows steps g more q lock later))
      by (asks_in_vain l next held) = absurd (own.free held.holder (subst (Holds g held.holder) (same l next) held.holds))
      by (waits_for_lock l w held) = absurd (persistent_not_ask l lock (waits (Acquire l) w))
      by (waits_for_others w late) = absurd (not_depart (waits Depart w))
      by (waits_for_flag f w unset all) = absurd (not_await f (waits (Await f) w))

  module _ (more : List Event) (over : ArePersistentlyOver g members more) where
    -- a member makes no event but an ask
    persistent_only_asks : (m q : ℕ) (k : Kind) → IsPersistentMember members q → ((l : ℕ) → k ≢ Ask l) → ¬ Does more m q k
    persistent_only_asks m q k member other does = let ask = over m (event q k) does member in other ask.0 ask.1

    persistent_still_holds : (lock : ℕ) → (h : HasLockHolder g members lock) → Holds (g ++ more) h.holder lock
    persistent_still_holds lock h =
        holds_over_others g more h.holder lock (λ m. persistent_only_asks m h.holder (Release lock) h.member (λ l is. absurd cc)) h.holds

    persistent_no_grant : (p lock : ℕ) → HasLockHolder g members lock → ¬ IsFlatBeginning s (did (g ++ more) p (Acquire lock))
    persistent_no_grant p lock held next =
        let allowed = (machine_step_next_may s (g ++ more) p (Acquire lock) next).allowed in
        allowed.2.free held.holder (persistent_still_holds lock held)

    persistent_no_arrivals : (q : ℕ) → IsPersistentMember members q → event_count event_arrives more q ≡ 0
    persistent_no_arrivals q member = elim (cases_lt 0 (event_count event_arrives more q)) [
      | inl some ↦
          (let there = event_place_numbered event_arrives more q 0 some in
          let ask = over there.place (event q there.kind) there.does member in
          absurd (false≢true (ap event_arrives (sym ask.1) ∙ there.counts)))
      | inr none ↦ omega (arith, none)
    ]

    persistent_no_departure : (p : ℕ) → HasLateMember rows g members p → ¬ IsFlatBeginning s (did (g ++ more) p Depart)
    persistent_no_departure p late next =
        let allowed = (machine_step_next_may s (g ++ more) p Depart next).allowed in
        let many = machine_step_rows_many s rows steps in
        let present = late.present in
        let arrived = allowed.2 late.late (omega (arith, many, present)) in
        let arrivals = event_count-append event_arrives g more late.late in
        let departures = event_count-append event_departs g more p in
        let none = persistent_no_arrivals late.late late.member in
        let behind = late.behind in
        omega (arith, arrived, arrivals, departures, none, behind)

    persistent_no_signal : (p flag : ℕ) → ((k q : ℕ) → ¬ Does g k q (Set flag)) → HasAllYetToCall rows g members (Set flag)
        → IsFlatBeginning s (g ++ more) → ¬ IsFlatBeginning s (did (g ++ more) p (Await flag))
    persistent_no_signal p flag unset all begins next =
        let allowed = (machine_step_next_may s (g ++ more) p (Await flag) next).allowed in
        let q = allowed.2 in
        elim (slice_append_cases g more allowed.1 (event q (Set flag)) allowed.4) [
          | inl old ↦ unset allowed.1 q old.1
          | inr new ↦
              (let cut = reaching_parted more new.0 (event q (Set flag)) new.2 in
              let parted : g ++ more ≡ ((g ++ cut.before) ++ event q (Set flag) ∷ []) ++ cut.after =
              ap (λ xs. g ++ xs) cut.are ∙ sym (append_assoc g cut.before (event q (Set flag) ∷ cut.after))
              ∙ sym (append_assoc (g ++ cut.before) (event q (Set flag) ∷ []) cut.after) in
              let there = prefix_beginning_front s ((g ++ cut.before) ++ event q (Set flag) ∷ []) cut.after (subst (IsFlatBeginning s) parted begins) in
              let member = all q (later_set s rows steps g cut.before q flag there) in
              persistent_only_asks new.0 q (Set flag) member (λ l is. absurd cc) new.2)
        ]

    module _ (p : ℕ) (k : Kind) (member : IsPersistentMember members p) (next : IsFlatBeginning s (did (g ++ more) p k)) where
      persistent_begins : IsFlatBeginning s (g ++ more)
      persistent_begins = prefix_beginning_front s (g ++ more) (event p k ∷ []) next

      -- a member that waits goes on by what it waits for
      persistent_goes_by : (awaited : Kind) → ((l : ℕ) → awaited ≢ Ask l) → WhyWaitsFor g p awaited → awaited ≡ k
      persistent_goes_by awaited no_ask waits = elim (persistent_goes_on s g more p persistent_begins) [
        | inl f ↦
            (let is = enabled_only_awaited (plan_sizes s) (g ++ f.before) p awaited f.kind (persistent_waits_longer g f.before p awaited f.away waits)
            (machine_step_next_may s (g ++ f.before) p f.kind f.next) in
            let at = subst (λ es. EventAt es (length f.before) (event p f.kind)) (sym f.are) (persistent_at_own f.before (event p f.kind) f.after) in
            let ask = over (length f.before) (event p f.kind) at member in
            absurd (no_ask ask.0 (is ∙ ask.1)))
        | inr away ↦
            enabled_only_awaited (plan_sizes s) (g ++ more) p awaited k (persistent_waits_longer g more p awaited away waits)
            (machine_step_next_may s (g ++ more) p k next)
      ]

      -- one that may ask next asks, or it has asked and waits
      persistent_asks : (lock : ℕ) → IsFlatBeginning s (did g p (Ask lock)) → (k ≡ Ask lock) ⊎ ((Acquire lock ≡ k) × ((q : ℕ) × Holds g q lock))
      persistent_asks lock now = elim (persistent_goes_on s g more p persistent_begins) [
        | inl f ↦
            (let is = later_same_ask s rows steps g f.before p lock f.kind f.away now f.next in
            let at = subst (λ es. EventAt es (length f.before) (event p f.kind)) (sym f.are) (persistent_at_own f.before (event p f.kind) f.after) in
            let ask = over (length f.before) (event p f.kind) at member in
            let held : (q : ℕ) × Holds g q lock = (ask.2.0, subst (Holds g ask.2.0) (persistent_ask_same ask.0 lock (sym ask.1 ∙ is)) ask.2.1) in
            inr (persistent_asked f lock is, held))
        | inr away ↦ inl (later_same_ask s rows steps g more p lock k away now next)
      ]
        where
          persistent_asked : (f : PersistentGoesOn s g more p) → (lock : ℕ) → f.kind ≡ Ask lock → Acquire lock ≡ k
          persistent_asked f lock is =
              let asked = did (g ++ f.before) p (Ask lock) in
              let joined : g ++ more ≡ asked ++ f.after =
              ap (λ xs. g ++ xs) f.are ∙ sym (append_assoc g f.before (event p f.kind ∷ f.after))
              ∙ sym (append_assoc (g ++ f.before) (event p f.kind ∷ []) f.after) ∙ ap (λ c. did (g ++ f.before) p c ++ f.after) is in
              let waits = persistent_waits_now (g ++ f.before) p lock in
              let later = subst (λ x. IsFlatBeginning s (did x p k)) joined next in
              elim (persistent_goes_on s asked f.after p (subst (IsFlatBeginning s) joined persistent_begins)) [
                | inl h ↦
                    (let takes = enabled_only_awaited (plan_sizes s) (asked ++ h.before) p (Acquire lock) h.kind
                    (persistent_waits_longer asked h.before p (Acquire lock) h.away waits) (machine_step_next_may s (asked ++ h.before) p h.kind h.next) in
                    let inside = subst (λ es. EventAt es (length h.before) (event p h.kind)) (sym h.are) (persistent_at_own h.before (event p h.kind) h.after) in
                    let at = subst (λ es. EventAt es (length f.before + suc (length h.before)) (event p h.kind)) (sym f.are)
                    (persistent_at_after f.before (event p f.kind) f.after (length h.before) (event p h.kind) inside) in
                    let ask = over (length f.before + suc (length h.before)) (event p h.kind) at member in
                    absurd (persistent_not_ask lock ask.0 (takes ∙ ask.1)))
                | inr away ↦
                    enabled_only_awaited (plan_sizes s) (asked ++ f.after) p (Acquire lock) k
                    (persistent_waits_longer asked f.after p (Acquire lock) away waits) (machine_step_next_may s (asked ++ f.after) p k later)
              ]

      -- whoever of the set goes on asks: for a lock that is held, or for a free one that it may ask for at once
      pub persistent_first : ((l : ℕ) × (k ≡ Ask l) × ((q : ℕ) × Holds g q l)) ⊎ ((l : ℕ) × (k ≡ Ask l) × AsksInPersistentSet g nexts members p l)
      persistent_first = by (set p member)
        where
          no_grant : (lock : ℕ) → HasLockHolder g members lock → Acquire lock ≡ k → ⊥
          no_grant lock held is = persistent_no_grant p lock held (subst (λ c. IsFlatBeginning s (did (g ++ more) p c)) (sym is) next)

          by : PersistentMember rows g nexts members p
              → ((l : ℕ) × (k ≡ Ask l) × ((q : ℕ) × Holds g q l)) ⊎ ((l : ℕ) × (k ≡ Ask l) × AsksInPersistentSet g nexts members p l)
          by (absent past) = absurd (persistent_present p k more past next)
          by (ended row at past) = absurd (later_none s rows steps g more p k row at past next)
          by (asks l now free all) = elim (persistent_asks l ((are p (Ask l)).0 now)) [
            | inl is ↦ inr (l, is, record { member = member; next = now; free = free })
            | inr asked ↦ absurd (free asked.1.0 asked.1.1)
          ]
          by (asks_in_vain l now held) = elim (persistent_asks l ((are p (Ask l)).0 now)) [
            | inl is ↦ inl (l, is, (held.holder, held.holds))
            | inr asked ↦ absurd (no_grant l held asked.0)
          ]
          by (waits_for_lock l waits held) = absurd (no_grant l held (persistent_goes_by (Acquire l) (persistent_not_ask l) waits))
          by (waits_for_others waits late) =
              let is = persistent_goes_by Depart (λ l same. absurd cc) waits in
              absurd (persistent_no_departure p late (subst (λ c. IsFlatBeginning s (did (g ++ more) p c)) (sym is) next))
          by (waits_for_flag f waits unset all) =
              let is = persistent_goes_by (Await f) (λ l same. absurd cc) waits in
              absurd (persistent_no_signal p f unset all persistent_begins (subst (λ c. IsFlatBeginning s (did (g ++ more) p c)) (sym is) next))

  -- where all are members, and none may ask for a free lock, whatever comes asks for locks that are held
  module _ (everybody : (p : ℕ) → p < length rows → IsPersistentMember members p) (none : (p l : ℕ) → p < length rows → ¬ AsksInPersistentSet g nexts members p l) where
    persistent_hopeless_over : (after before : List Event) → IsFlatBeginning s (g ++ (before ++ after)) → ArePersistentlyOver g members before
        → ArePersistentlyOver g members (before ++ after)
    persistent_hopeless_over [] before begins over = subst (ArePersistentlyOver g members) (sym (append-nil before)) over
    persistent_hopeless_over (e ∷ after) before begins over =
        let joined = append_assoc before (e ∷ []) after in
        let longer = subst (λ xs. IsFlatBeginning s (g ++ xs)) (sym joined) begins in
        let all : IsFlatBeginning s (did (g ++ before) e.processor e.kind ++ after) =
        subst (λ xs. IsFlatBeginning s xs) (sym (append_assoc g (before ++ e ∷ []) after) ∙ ap (λ xs. xs ++ after) (sym (append_assoc g before (e ∷ [])))) longer in
        let next = prefix_beginning_front s (did (g ++ before) e.processor e.kind) after all in
        let within = machine_step_next_within s (g ++ before) e.processor e.kind next in
        let many = machine_step_rows_many s rows steps in
        let member = everybody e.processor (omega (arith, within, many)) in
        let held : (l : ℕ) × (e.kind ≡ Ask l) × ((q : ℕ) × Holds g q l) =
        elim (persistent_first before over e.processor e.kind member next) [
          | inl vain ↦ vain
          | inr ask ↦ absurd (none e.processor ask.0 (omega (arith, within, many)) ask.2)
        ] in
        let more : ArePersistentlyOver g members (before ++ e ∷ []) = λ m f at is. elim (slice_push_cases before e m f at) [
          | inl old ↦ over m f old.1 is
          | inr new ↦ subst (λ (x : Event). (l : ℕ) × (x.kind ≡ Ask l) × ((q : ℕ) × Holds g q l)) new.1 held
        ] in
        subst (ArePersistentlyOver g members) joined (persistent_hopeless_over after (before ++ e ∷ []) longer more)

    -- so whoever asks for a lock later may do so at once
    pub persistent_hopeless_ask : (more : List Event) (p lock : ℕ) → IsFlatBeginning s (did (g ++ more) p (Ask lock))
        → slice_index_or nexts p None ≡ Some (Ask lock)
    persistent_hopeless_ask more p lock next = by (set p member)
      where
        over : ArePersistentlyOver g members more
        over = persistent_hopeless_over more [] (prefix_beginning_front s (g ++ more) (event p (Ask lock) ∷ []) next) (λ m e at. absurd (none-some e at))

        present : p < length rows
        present =
            let within = machine_step_next_within s (g ++ more) p (Ask lock) next in
            let many = machine_step_rows_many s rows steps in
            omega (arith, within, many)

        member : IsPersistentMember members p
        member = everybody p present

        not_depart : Depart ≢ Ask lock
        not_depart is = absurd cc

        not_await : (f : ℕ) → Await f ≢ Ask lock
        not_await f is = absurd cc

        goes_by : (awaited : Kind) → ((l : ℕ) → awaited ≢ Ask l) → WhyWaitsFor g p awaited → awaited ≡ Ask lock
        goes_by = persistent_goes_by more over p (Ask lock) member next

        by : PersistentMember rows g nexts members p → slice_index_or nexts p None ≡ Some (Ask lock)
        by (absent past) = absurd (persistent_present p (Ask lock) more past next)
        by (ended row at past) = absurd (later_none s rows steps g more p (Ask lock) row at past next)
        by (asks l now free all) = absurd (none p l present (record { member = member; next = now; free = free }))
        by (asks_in_vain l now held) = elim (persistent_asks more over p (Ask lock) member next l ((are p (Ask l)).0 now)) [
          | inl is ↦ now ∙ ap Some (sym is)
          | inr asked ↦ absurd (persistent_not_ask l lock asked.0)
        ]
        by (waits_for_lock l waits held) = absurd (persistent_not_ask l lock (goes_by (Acquire l) (persistent_not_ask l) waits))
        by (waits_for_others waits late) = absurd (not_depart (goes_by Depart (λ l same. absurd cc) waits))
        by (waits_for_flag f waits unset all) = absurd (not_await f (goes_by (Await f) (λ l same. absurd cc) waits))
