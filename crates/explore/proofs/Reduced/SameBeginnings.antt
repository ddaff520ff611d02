-- Beginnings in which each processor has done the same, the words are the same, and the asks came in one order: they go on
-- alike, and so nothing else that has happened is of use to know.
use Rattle.std.proofs.Common.{ℕ, ◌≡◌, ◌≢◌, ◌+◌, ◌<◌, ◌↔◌, inl, inr, Bool, List, [], ◌∷◌, ◌++◌, count_by, length, replicate, refl, sym, ap, ap₂, subst, ◌∙◌, append_assoc, append-nil, arith}
use Rattle.std.specs.Prelude.{◌==◌}
use Rattle.std.proofs.lemmas.Bool.{cases_eq, cond-true, cond-false, eq-eqb, ne_eqb}
use Rattle.std.proofs.lemmas.Option.{none-some}
use Rattle.base.proofs.SlicesAndCounts.{slice_count_by-append, slice_push_cases, slice_push_induction}
use Rattle.base.proofs.LastWritten.{written-append}
use Rattle.base.specs.LastWrite.{wrote}
use Rattle.journal.specs.declared.event.Event.{Event}
use Rattle.journal.specs.declared.event.Kind.{Kind}
use Rattle.journal.specs.declared.event.Kind.TheVariants.{Ask, Acquire, Release, Arrive, Depart, Set, Watch, Await}
use Rattle.journal.specs.DidEvent.{did, event}
use Rattle.journal.specs.Events.{EventAt, event_count, event_arrives, event_departs, events_of}
use Rattle.journal.specs.ReplayMemory.{AnswersReplayMemory, replay_memory_write, memory_after}
use Rattle.journal.specs.WellFormed.{WellFormedAllArrived, WellFormedAllows, Does, Holds, LastIs, WellFormedNext}
use Rattle.journal.proofs.Order.EventPlacesAndCounts.{event_place_at_end, event_place_longer, event_place_inside, event_count-append}
use Rattle.journal.proofs.Times.TimesOfPlaces.{time_of_places_one_event}
use Rattle.journal.proofs.Journals.WellFormedStays.{well_formed_stays_holds_cases, well_formed_stays_holds_longer, well_formed_stays_holds_now, well_formed_stays_last_cases, well_formed_stays_last_longer, well_formed_stays_last_now, well_formed_stays_last_shorter, well_formed_stays_last_unique}
use Rattle.lrc_script.specs.Plan.{Plan}
use Rattle.lrc_script.specs.Lawful.{plan_addresses}
use Rattle.conformance.specs.Follows.{calls_of, call_kinds, plan_sizes}
use Rattle.conformance.proofs.FollowedCalls.{followed_calls_part-append}
use Rattle.explore.specs.Prefixes.FlatBeginnings.{IsFlatBeginning}
use Rattle.explore.specs.Prefixes.ScriptCalls.{IsScriptCallNext, script_calls_of_section, script_calls_shown_by}
use Rattle.explore.proofs.PrefixRuns.Beginnings.{prefix_beginning_front, prefix_beginning_next}

pub same_beginning_part_own : (j : List Event) (e : Event) → events_of (j ++ e ∷ []) e.processor ≡ events_of j e.processor ++ e ∷ []
same_beginning_part_own j e =
    followed_calls_part-append j (e ∷ []) e.processor
    ∙ ap (λ xs. events_of j e.processor ++ xs) (cond-true (e.processor == e.processor) (e ∷ []) [] (eq-eqb e.processor e.processor refl))

pub same_beginning_part_others : (j : List Event) (e : Event) (p : ℕ) → e.processor ≢ p → events_of (j ++ e ∷ []) p ≡ events_of j p
same_beginning_part_others j e p isnt =
    followed_calls_part-append j (e ∷ []) p
    ∙ ap (λ xs. events_of j p ++ xs) (cond-false (e.processor == p) (e ∷ []) [] (ne_eqb e.processor p isnt))
    ∙ append-nil (events_of j p)

-- others' events are none of a processor's
pub same_beginning_away_one : (e : Event) (p : ℕ) → e.processor ≢ p → (m : ℕ) (f : Event) → EventAt (e ∷ []) m f → f.processor ≢ p
same_beginning_away_one e p isnt m f at same = elim (slice_push_cases [] e m f at) [
  | inl old ↦ absurd (none-some f old.1)
  | inr new ↦ isnt (ap (λ (x : Event). x.processor) new.1 ∙ same)
]

-- what holds by p's own events alone holds of histories in which p has done the same
module _ (O : List Event → ℕ → Type 0)
    (own : (i j : List Event) (e : Event) → O i e.processor ↔ O j e.processor
    → O (i ++ e ∷ []) e.processor ↔ O (j ++ e ∷ []) e.processor)
    (others : (j : List Event) (e : Event) (p : ℕ) → e.processor ≢ p → O (j ++ e ∷ []) p ↔ O j p) where
  same_beginning_by_part : (j : List Event) (p : ℕ) → O j p ↔ O (events_of j p) p
  same_beginning_by_part j p = slice_push_induction (λ g. O g p ↔ O (events_of g p) p) ((λ o. o), (λ o. o)) step j
    where
      step : (g : List Event) (e : Event) → O g p ↔ O (events_of g p) p → O (g ++ e ∷ []) p ↔ O (events_of (g ++ e ∷ []) p) p
      step g e ih = elim (cases_eq e.processor p) [
        | inl is ↦
            (let old = subst (λ q. O g q ↔ O (events_of g q) q) (sym is) ih in
            let new = own g (events_of g e.processor) e old in
            subst (λ q. O (g ++ e ∷ []) q ↔ O (events_of (g ++ e ∷ []) q) q) is
            (subst (λ xs. O (g ++ e ∷ []) e.processor ↔ O xs e.processor) (sym (same_beginning_part_own g e)) new))
        | inr isnt ↦
            (let both = others g e p isnt in
            subst (λ xs. O (g ++ e ∷ []) p ↔ O xs p) (sym (same_beginning_part_others g e p isnt)) (
              (λ o. ih.0 (both.0 o)),
              (λ o. both.1 (ih.1 o)),
            ))
      ]

  pub same_beginning_part : (g h : List Event) (p : ℕ) → events_of g p ≡ events_of h p → O g p → O h p
  same_beginning_part g h p same o = (same_beginning_by_part h p).1 (subst (λ xs. O xs p) same ((same_beginning_by_part g p).0 o))

-- p's last event is of this kind
abbrev pub SameBeginningLastKind : Kind → List Event → ℕ → Type 0
SameBeginningLastKind k j p = (i : ℕ) × LastIs j p i k

same_beginning_last_own : (i j : List Event) (k : Kind) (e : Event) → SameBeginningLastKind k (i ++ e ∷ []) e.processor → SameBeginningLastKind k (j ++ e ∷ []) e.processor
same_beginning_last_own i j k e last =
    let same = well_formed_stays_last_unique (i ++ e ∷ []) e.processor last.0 (length i) k e.kind last.1 (well_formed_stays_last_now i e) in
    (length j, subst (LastIs (j ++ e ∷ []) e.processor (length j)) (sym same.1) (well_formed_stays_last_now j e))

pub same_beginning_last : (g h : List Event) (p : ℕ) (k : Kind) → events_of g p ≡ events_of h p → SameBeginningLastKind k g p → SameBeginningLastKind k h p
same_beginning_last g h p k =
    same_beginning_part (SameBeginningLastKind k) (λ i j e old. (same_beginning_last_own i j k e, same_beginning_last_own j i k e))
    (λ j e q isnt. (
      (λ last. (last.0, well_formed_stays_last_shorter j (e ∷ []) q last.0 k (same_beginning_away_one e q isnt) last.1)),
      (λ last. (last.0, well_formed_stays_last_longer j (e ∷ []) q last.0 k (same_beginning_away_one e q isnt) last.1)),
    )) g h p

same_beginning_held_own : (i j : List Event) (l : ℕ) (e : Event) → (Holds i e.processor l → Holds j e.processor l)
    → Holds (i ++ e ∷ []) e.processor l → Holds (j ++ e ∷ []) e.processor l
same_beginning_held_own i j l e old holds = elim (well_formed_stays_holds_cases i e e.processor l holds) [
  | inl was ↦ well_formed_stays_holds_longer j e e.processor l was.1 (old was.0)
  | inr now ↦ subst (λ f. Holds (j ++ f ∷ []) e.processor l) (sym now) (well_formed_stays_holds_now j e.processor l)
]

pub same_beginning_held : (g h : List Event) (p l : ℕ) → events_of g p ≡ events_of h p → Holds g p l → Holds h p l
same_beginning_held g h p l =
    same_beginning_part (λ j q. Holds j q l) (λ i j e old. (same_beginning_held_own i j l e old.0, same_beginning_held_own j i l e old.1))
    (λ j e q isnt. (
      (λ holds. elim (well_formed_stays_holds_cases j e q l holds) [
        | inl was ↦ was.0
        | inr now ↦ absurd (isnt (ap (λ (x : Event). x.processor) now))
      ]),
      (λ holds. well_formed_stays_holds_longer j e q l (λ is. isnt (ap (λ (x : Event). x.processor) is)) holds),
    )) g h p

-- p has set f
abbrev SameBeginningSetBy : ℕ → List Event → ℕ → Type 0
SameBeginningSetBy f j p = (k : ℕ) × Does j k p (Set f)

same_beginning_set_own : (i j : List Event) (f : ℕ) (e : Event) → (SameBeginningSetBy f i e.processor → SameBeginningSetBy f j e.processor)
    → SameBeginningSetBy f (i ++ e ∷ []) e.processor → SameBeginningSetBy f (j ++ e ∷ []) e.processor
same_beginning_set_own i j f e old set = elim (slice_push_cases i e set.0 (event e.processor (Set f)) set.1) [
  | inl was ↦
      (let there = old (set.0, was.1) in
      (there.0, event_place_longer j (e ∷ []) there.0 (event e.processor (Set f)) there.1))
  | inr now ↦ (length j, subst (λ x. EventAt (j ++ e ∷ []) (length j) x) now.1 (event_place_at_end j e))
]

pub same_beginning_set : (g h : List Event) (p f : ℕ) → events_of g p ≡ events_of h p → SameBeginningSetBy f g p → SameBeginningSetBy f h p
same_beginning_set g h p f =
    same_beginning_part (SameBeginningSetBy f) (λ i j e old. (same_beginning_set_own i j f e old.0, same_beginning_set_own j i f e old.1))
    (λ j e q isnt. (
      (λ set. elim (slice_push_cases j e set.0 (event q (Set f)) set.1) [
        | inl was ↦ (set.0, was.1)
        | inr now ↦ absurd (isnt (ap (λ (x : Event). x.processor) now.1))
      ]),
      (λ set. (set.0, event_place_longer j (e ∷ []) set.0 (event q (Set f)) set.1)),
    )) g h p

same_beginning_count_part : (is : Kind → Bool) (j : List Event) (p : ℕ) → event_count is j p ≡ count_by (λ (e : Event). is e.kind) (events_of j p)
same_beginning_count_part is j p = slice_push_induction (λ g. event_count is g p ≡ count_by (λ (e : Event). is e.kind) (events_of g p)) refl step j
  where
    one : (e : Event) → event_count is (e ∷ []) e.processor ≡ count_by (λ (x : Event). is x.kind) (e ∷ [])
    one e = let own = eq-eqb e.processor e.processor refl in rw own refl

    step : (g : List Event) (e : Event) → event_count is g p ≡ count_by (λ (x : Event). is x.kind) (events_of g p)
        → event_count is (g ++ e ∷ []) p ≡ count_by (λ (x : Event). is x.kind) (events_of (g ++ e ∷ []) p)
    step g e ih = elim (cases_eq e.processor p) [
      | inl same ↦
          (let old = subst (λ q. event_count is g q ≡ count_by (λ (x : Event). is x.kind) (events_of g q)) (sym same) ih in
          subst (λ q. event_count is (g ++ e ∷ []) q ≡ count_by (λ (x : Event). is x.kind) (events_of (g ++ e ∷ []) q)) same
          (event_count-append is g (e ∷ []) e.processor ∙ ap₂ (λ (m n : ℕ). m + n) old (one e)
          ∙ sym (slice_count_by-append (λ (x : Event). is x.kind) (events_of g e.processor) (e ∷ []))
          ∙ ap (count_by (λ (x : Event). is x.kind)) (sym (same_beginning_part_own g e))))
      | inr isnt ↦
          (let sum = event_count-append is g (e ∷ []) p in
          let none : event_count is (e ∷ []) p ≡ 0 = elim (time_of_places_one_event is e p) [
            | inl zero_more ↦ zero_more
            | inr own ↦ absurd (isnt own.0)
          ] in
          let same : event_count is (g ++ e ∷ []) p ≡ event_count is g p = omega arith in
          same ∙ ih ∙ ap (count_by (λ (x : Event). is x.kind)) (sym (same_beginning_part_others g e p isnt)))
    ]

pub same_beginning_count : (is : Kind → Bool) (g h : List Event) (p : ℕ) → events_of g p ≡ events_of h p → event_count is g p ≡ event_count is h p
same_beginning_count is g h p same = same_beginning_count_part is g p ∙ ap (count_by (λ (e : Event). is e.kind)) same ∙ sym (same_beginning_count_part is h p)

-- p's ask is open, and came before q's, which is open too
pub record SameBeginningAsksFirst (j : List Event) (l p q : ℕ) : Type 0 where
  pub first : ℕ
  pub second : ℕ
  pub asks : LastIs j p first (Ask l)
  pub other : LastIs j q second (Ask l)
  pub before : first < second

-- each processor has done the same, the words are the same, and open asks of a lock came in one order
pub record IsSameBeginning (s : Plan) (g h : List Event) : Type 0 where
  pub parts : (p : ℕ) → events_of g p ≡ events_of h p
  pub memory : memory_after (replicate (plan_addresses s) 0) g ≡ memory_after (replicate (plan_addresses s) 0) h
  pub asks : (l p q : ℕ) → SameBeginningAsksFirst g l p q ↔ SameBeginningAsksFirst h l p q

-- the first and the last of these, which alone say what may come next
pub record IsSameBeginningOrder (g h : List Event) : Type 0 where
  pub parts : (p : ℕ) → events_of g p ≡ events_of h p
  pub asks : (l p q : ℕ) → SameBeginningAsksFirst g l p q ↔ SameBeginningAsksFirst h l p q

pub same_beginning_order : (s : Plan) (g h : List Event) → IsSameBeginning s g h → IsSameBeginningOrder g h
same_beginning_order s g h same = record { parts = same.parts; asks = same.asks }

pub same_beginning_order_other_way : (g h : List Event) → IsSameBeginningOrder g h → IsSameBeginningOrder h g
same_beginning_order_other_way g h same = record {
  parts = λ p. sym (same.parts p);
  asks = λ l p q. ((same.asks l p q).1, (same.asks l p q).0);
}

pub same_beginning_as_itself : (s : Plan) (g : List Event) → IsSameBeginning s g g
same_beginning_as_itself s g = record { parts = λ p. refl; memory = refl; asks = λ l p q. ((λ a. a), (λ a. a)) }

pub same_beginning_other_way : (s : Plan) (g h : List Event) → IsSameBeginning s g h → IsSameBeginning s h g
same_beginning_other_way s g h same = record {
  parts = λ p. sym (same.parts p);
  memory = sym same.memory;
  asks = λ l p q. ((same.asks l p q).1, (same.asks l p q).0);
}

pub same_beginning_after_that : (s : Plan) (g h i : List Event) → IsSameBeginning s g h → IsSameBeginning s h i → IsSameBeginning s g i
same_beginning_after_that s g h i one two = record {
  parts = λ p. one.parts p ∙ two.parts p;
  memory = one.memory ∙ two.memory;
  asks = λ l p q. ((λ a. (two.asks l p q).0 ((one.asks l p q).0 a)), (λ a. (one.asks l p q).1 ((two.asks l p q).1 a)));
}

pub same_beginning_calls : (s : Plan) (g h : List Event) (p : ℕ) → IsSameBeginning s g h → calls_of g p ≡ calls_of h p
same_beginning_calls s g h p same = ap call_kinds (same.parts p)

-- memory after one event more
pub same_beginning_memory_did : (start : List ℕ) (g : List Event) (p : ℕ) (k : Kind)
    → memory_after start (did g p k) ≡ wrote (memory_after start g) (replay_memory_write k)
same_beginning_memory_did start g p k = written-append (λ (e : Event). replay_memory_write e.kind) start g (event p k ∷ [])

module _ (s : Plan) (g h : List Event) (same : IsSameBeginningOrder g h) where
  same_beginning_allowed : (p : ℕ) (k : Kind) → WellFormedAllows (plan_sizes s) g p k → WellFormedAllows (plan_sizes s) h p k
  same_beginning_allowed p (Ask l) a = λ holds. a (same_beginning_held h g p l (sym (same.parts p)) holds)
  same_beginning_allowed p (Acquire l) a =
      let last = same_beginning_last g h p (Ask l) (same.parts p) (a.0, a.1) in (
        last.0,
        last.1,
        record {
          free = λ q holds. a.2.free q (same_beginning_held h g q l (sym (same.parts q)) holds);
          first = λ k q lt asks.
              let order = (same.asks l q p).1 (record { first = k; second = last.0; asks = asks; other = last.1; before = lt }) in
              let mine = well_formed_stays_last_unique g p order.second a.0 (Ask l) (Ask l) order.other a.1 in
              a.2.first order.first q (subst (λ n. order.first < n) mine.0 order.before) order.asks;
        },
      )
  same_beginning_allowed p (Release l) a = same_beginning_held g h p l (same.parts p) a
  same_beginning_allowed p Depart a =
      let last = same_beginning_last g h p Arrive (same.parts p) (a.0, a.1) in
      let own = same_beginning_count event_departs g h p (same.parts p) in
      let all : WellFormedAllArrived (plan_sizes s) h (event_count event_departs h p + 1) = λ q within.
      (let enough = a.2 q within in
      let others = same_beginning_count event_arrives g h q (same.parts q) in
      omega (arith, enough, others, own)) in
      (last.0, last.1, all)
  same_beginning_allowed p (Await f) a =
      let last = same_beginning_last g h p (Watch f) (same.parts p) (a.0, a.3) in
      let set = same_beginning_set g h a.2 f (same.parts a.2) (a.1, a.4) in
      (last.0, set.0, a.2, last.1, set.1)
  same_beginning_allowed p _ a = a

  pub same_beginning_may_follow : (e : Event) → WellFormedNext (plan_sizes s) g e → WellFormedNext (plan_sizes s) h e
  same_beginning_may_follow e may = record {
    processor = may.processor;
    in_range = may.in_range;
    answers = λ i k last.
        let there = same_beginning_last h g e.processor k (sym (same.parts e.processor)) (i, last) in
        may.answers there.0 k there.1;
    allowed = same_beginning_allowed e.processor e.kind may.allowed;
  }

  same_beginning_asks_push : (e : Event) (l p q : ℕ) → SameBeginningAsksFirst (g ++ e ∷ []) l p q → SameBeginningAsksFirst (h ++ e ∷ []) l p q
  same_beginning_asks_push e l p q a = elim (well_formed_stays_last_cases g e p a.first (Ask l) a.asks) [
    | inl mine ↦
        (let within = event_place_inside (g ++ e ∷ []) a.second (event q (Ask l)) a.other.does in
        let lt = a.before in
        absurd (elim (slice_push_cases g e a.second (event q (Ask l)) a.other.does) [
          | inl old ↦ (let less = old.0 in let is = mine.1 in omega arith)
          | inr new ↦ (let there = new.0 in let is = mine.1 in omega arith)
        ]))
    | inr old ↦ elim (well_formed_stays_last_cases g e q a.second (Ask l) a.other) [
      | inl mine ↦
          (let there = same_beginning_last g h p (Ask l) (same.parts p) (a.first, old.1) in
          record {
            first = there.0;
            second = length h;
            asks = well_formed_stays_last_longer h (e ∷ []) p there.0 (Ask l) (same_beginning_away_one e p old.0) there.1;
            other = subst (λ r. LastIs (h ++ e ∷ []) r (length h) (Ask l)) mine.0
                (subst (LastIs (h ++ e ∷ []) e.processor (length h)) (sym mine.2) (well_formed_stays_last_now h e));
            before = event_place_inside h there.0 (event p (Ask l)) there.1.does;
          })
      | inr other ↦
          (let there = (same.asks l p q).0 (record {
            first = a.first;
            second = a.second;
            asks = old.1;
            other = other.1;
            before = a.before;
          }) in
          record {
            first = there.first;
            second = there.second;
            asks = well_formed_stays_last_longer h (e ∷ []) p there.first (Ask l) (same_beginning_away_one e p old.0) there.asks;
            other = well_formed_stays_last_longer h (e ∷ []) q there.second (Ask l) (same_beginning_away_one e q other.0) there.other;
            before = there.before;
          })
    ]
  ]

-- one event more keeps the order
pub same_beginning_order_push : (s : Plan) (g h : List Event) (p : ℕ) (k : Kind) → IsSameBeginningOrder g h → IsSameBeginningOrder (did g p k) (did h p k)
same_beginning_order_push s g h p k same = record {
  parts = λ q. elim (cases_eq p q) [
    | inl is ↦
        subst (λ r. events_of (did g p k) r ≡ events_of (did h p k) r) is
        (same_beginning_part_own g (event p k) ∙ ap (λ xs. xs ++ event p k ∷ []) (same.parts p) ∙ sym (same_beginning_part_own h (event p k)))
    | inr isnt ↦ same_beginning_part_others g (event p k) q isnt ∙ same.parts q ∙ sym (same_beginning_part_others h (event p k) q isnt)
  ];
  asks = λ l r q. (
    same_beginning_asks_push s g h same (event p k) l r q,
    same_beginning_asks_push s h g (same_beginning_order_other_way g h same) (event p k) l r q,
  );
}

-- one event more is the same
pub same_beginning_push : (s : Plan) (g h : List Event) (p : ℕ) (k : Kind) → IsSameBeginning s g h → IsSameBeginning s (did g p k) (did h p k)
same_beginning_push s g h p k same =
    let order = same_beginning_order_push s g h p k (same_beginning_order s g h same) in
    record {
      parts = order.parts;
      memory =
          same_beginning_memory_did (replicate (plan_addresses s) 0) g p k ∙ ap (λ m. wrote m (replay_memory_write k)) same.memory
          ∙ sym (same_beginning_memory_did (replicate (plan_addresses s) 0) h p k);
      asks = order.asks;
    }

-- and it may come next
pub same_beginning_next : (s : Plan) (g h : List Event) (p : ℕ) (k : Kind) → IsSameBeginning s g h → IsFlatBeginning s h
    → IsFlatBeginning s (did g p k) → IsFlatBeginning s (did h p k)
same_beginning_next s g h p k same begins next =
    let may = ((prefix_beginning_next s g p k).0 next).1 in
    (prefix_beginning_next s h p k).1 (
      begins,
      record {
        may_follow = same_beginning_may_follow s g h (same_beginning_order s g h same) (event p k) may.may_follow;
        calls = record {
          call = may.calls.call;
          next = λ section at.
              subst (λ calls. IsScriptCallNext (script_calls_of_section section (script_calls_shown_by s p)) calls k) (same_beginning_calls s g h p same)
              (may.calls.next section at);
        };
        answers = subst (λ m. AnswersReplayMemory m k) same.memory may.answers;
      },
    )

-- so they go on alike
pub same_beginning_goes_on : (s : Plan) (w g h : List Event) → IsSameBeginning s g h → IsFlatBeginning s h → IsFlatBeginning s (g ++ w)
    → IsFlatBeginning s (h ++ w) × IsSameBeginning s (g ++ w) (h ++ w)
same_beginning_goes_on s [] g h same begins whole = (
  subst (IsFlatBeginning s) (sym (append-nil h)) begins,
  subst (λ x. IsSameBeginning s x (h ++ [])) (sym (append-nil g)) (subst (IsSameBeginning s g) (sym (append-nil h)) same),
)
same_beginning_goes_on s (e ∷ w) g h same begins whole =
    let longer = subst (IsFlatBeginning s) (sym (append_assoc g (e ∷ []) w)) whole in
    let now = prefix_beginning_front s (g ++ e ∷ []) w longer in
    let next = same_beginning_next s g h e.processor e.kind same begins now in
    let more = same_beginning_goes_on s w (g ++ e ∷ []) (h ++ e ∷ []) (same_beginning_push s g h e.processor e.kind same) next longer in (
      subst (IsFlatBeginning s) (append_assoc h (e ∷ []) w) more.0,
      subst (λ x. IsSameBeginning s x (h ++ e ∷ w)) (append_assoc g (e ∷ []) w)
          (subst (IsSameBeginning s ((g ++ e ∷ []) ++ w)) (append_assoc h (e ∷ []) w) more.1),
    )
