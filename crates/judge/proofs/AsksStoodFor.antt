-- Lax, an acquire or an await without its ask or watch is judged as with it right before it.
use Rattle.std.proofs.Common.{◌≡◌, ◌≢◌, ℕ, ◌+◌, ◌≤◌, ◌↔◌, ◌&&◌, ◌==◌, inl, inr, Bool, true, false, cond, List, [], ◌∷◌, ◌++◌, length, take, Some, None, subst, sym, refl, ap, ◌∙◌, append_assoc, append-nil, arith}
use Rattle.std.proofs.lemmas.Option.{same_Some, none-some}
use Rattle.std.proofs.Math.Seq.{take-append-le, take-append_seam}
use Rattle.base.proofs.SlicesAndCounts.{slice_push_cases}
use Rattle.journal.specs.declared.event.Event.{Event}
use Rattle.journal.specs.declared.event.Kind.{Kind}
use Rattle.journal.specs.declared.event.Kind.TheVariants.{Ask, Acquire, Release, Arrive, Depart, Set, Watch, Await}
use Rattle.journal.specs.AwaitedNext.{AwaitsNothingNext, awaited_next}
use Rattle.journal.specs.DidEvent.{event}
use Rattle.journal.specs.Sizes.{Sizes}
use Rattle.journal.specs.Events.{EventAt, event_count, event_arrives, event_departs}
use Rattle.journal.specs.WellFormed.{Holds, LastIs, WellFormedAnswer, WellFormedKindInRange}
use Rattle.journal.proofs.Order.EventPlacesAndCounts.{event_count-append, event_place_at_end, event_place_inside, event_place_longer}
use Rattle.journal.proofs.Journals.WellFormedStays.{well_formed_stays_holds_cases, well_formed_stays_holds_longer, well_formed_stays_holds_now, well_formed_stays_last_cases, well_formed_stays_last_longer, well_formed_stays_last_now}
use Rattle.judge.specs.FrontTells.{FrontTellsFlagSet}
use Rattle.judge.specs.LaxWellFormed.{LaxAllowed, LaxAskLaw, LaxMayFollow, LaxWellFormed, lax_ask_of}
use Rattle.judge.proofs.FrontNoting.{front_noting_count_one, front_noting_one_away}

-- ---- histories after which the same may come next

record AreAsksAlike (j h : List Event) : Type 0 where
  last : (p : ℕ) (b : Kind) → ((i : ℕ) × LastIs j p i b) ↔ ((i : ℕ) × LastIs h p i b)
  holds : (q l : ℕ) → Holds j q l ↔ Holds h q l
  sets : (f : ℕ) → FrontTellsFlagSet j f ↔ FrontTellsFlagSet h f
  arrivals : (q : ℕ) → event_count event_arrives j q ≡ event_count event_arrives h q
  departures : (q : ℕ) → event_count event_departs j q ≡ event_count event_departs h q

asks_alike_back : (j h : List Event) → AreAsksAlike j h → AreAsksAlike h j
asks_alike_back j h x = record {
  last = λ p b. ((x.last p b).1, (x.last p b).0);
  holds = λ q l. ((x.holds q l).1, (x.holds q l).0);
  sets = λ f. ((x.sets f).1, (x.sets f).0);
  arrivals = λ q. sym (x.arrivals q);
  departures = λ q. sym (x.departures q);
}

asks_alike_allowed : (s : Sizes) (j h : List Event) (p : ℕ) (k : Kind) → AreAsksAlike j h → LaxAllowed s j p k → LaxAllowed s h p k
asks_alike_allowed s j h p (Acquire l) x a = λ q holds. a q ((x.holds q l).1 holds)
asks_alike_allowed s j h p (Await f) x a = (x.sets f).0 a
asks_alike_allowed s j h p (Ask l) x a = λ holds. a ((x.holds p l).1 holds)
asks_alike_allowed s j h p (Release l) x a = (x.holds p l).0 a
asks_alike_allowed s j h p Depart x a =
    let last = (x.last p Arrive).0 (a.0, a.1) in (
      last.0,
      last.1,
      λ q lt. (let enough = a.2 q lt in
          let arrived = x.arrivals q in
          let departed = x.departures p in
          omega arith),
    )
asks_alike_allowed s j h p _ x a = tt

asks_alike_may : (s : Sizes) (j h : List Event) (e : Event) → AreAsksAlike j h → LaxMayFollow s j e → LaxMayFollow s h e
asks_alike_may s j h e x m = record {
  processor = m.processor;
  in_range = m.in_range;
  answers = λ i b last. (let was = (x.last e.processor b).1 (i, last) in m.answers was.0 b was.1);
  allowed = asks_alike_allowed s j h e.processor e.kind x m.allowed;
}

-- ---- one event more

asks_push_last : (j h : List Event) (e : Event) → ((p : ℕ) (b : Kind) → e.processor ≢ p → ((i : ℕ) × LastIs j p i b) → ((i : ℕ) × LastIs h p i b))
    → (p : ℕ) (b : Kind) → ((i : ℕ) × LastIs (j ++ e ∷ []) p i b) → ((i : ℕ) × LastIs (h ++ e ∷ []) p i b)
asks_push_last j h e same p b x = elim (well_formed_stays_last_cases j e p x.0 b x.1) [
  | inl now ↦ (
    length h,
    subst (λ q. LastIs (h ++ e ∷ []) q (length h) b) now.0
        (subst (LastIs (h ++ e ∷ []) e.processor (length h)) (sym now.2) (well_formed_stays_last_now h e)),
  )
  | inr old ↦ (let was = same p b old.0 (x.0, old.1) in
      (was.0, well_formed_stays_last_longer h (e ∷ []) p was.0 b (front_noting_one_away e p old.0) was.1))
]

asks_push_holds : (j h : List Event) (e : Event) (q l : ℕ) → (Holds j q l → Holds h q l) → Holds (j ++ e ∷ []) q l → Holds (h ++ e ∷ []) q l
asks_push_holds j h e q l same x = elim (well_formed_stays_holds_cases j e q l x) [
  | inl old ↦ well_formed_stays_holds_longer h e q l old.1 (same old.0)
  | inr new ↦ subst (λ (y : Event). Holds (h ++ y ∷ []) q l) (sym new) (well_formed_stays_holds_now h q l)
]

asks_push_sets : (j h : List Event) (e : Event) (f : ℕ) → (FrontTellsFlagSet j f → FrontTellsFlagSet h f)
    → FrontTellsFlagSet (j ++ e ∷ []) f → FrontTellsFlagSet (h ++ e ∷ []) f
asks_push_sets j h e f same x = elim (slice_push_cases j e x.0 (event x.1 (Set f)) x.2) [
  | inl old ↦ (let was = same (x.0, x.1, old.1) in
      (was.0, was.1, event_place_longer h (e ∷ []) was.0 (event was.1 (Set f)) was.2))
  | inr new ↦ (length h, x.1, subst (EventAt (h ++ e ∷ []) (length h)) new.1 (event_place_at_end h e))
]

asks_push_count : (is : Kind → Bool) (j h : List Event) (e : Event) (q : ℕ) → event_count is j q ≡ event_count is h q
    → event_count is (j ++ e ∷ []) q ≡ event_count is (h ++ e ∷ []) q
asks_push_count is j h e q same = event_count-append is j (e ∷ []) q ∙ ap (λ n. n + event_count is (e ∷ []) q) same
    ∙ sym (event_count-append is h (e ∷ []) q)

asks_alike_push : (j h : List Event) (e : Event) → AreAsksAlike j h → AreAsksAlike (j ++ e ∷ []) (h ++ e ∷ [])
asks_alike_push j h e x = record {
  last = λ p b. (
    asks_push_last j h e (λ q k _ was. (x.last q k).0 was) p b,
    asks_push_last h j e (λ q k _ was. (x.last q k).1 was) p b,
  );
  holds = λ q l. (asks_push_holds j h e q l (x.holds q l).0, asks_push_holds h j e q l (x.holds q l).1);
  sets = λ f. (asks_push_sets j h e f (x.sets f).0, asks_push_sets h j e f (x.sets f).1);
  arrivals = λ q. asks_push_count event_arrives j h e q (x.arrivals q);
  departures = λ q. asks_push_count event_departs j h e q (x.departures q);
}

-- ---- an ask or a watch

record IsAskQuiet (a : Kind) : Type 0 where
  acquires : (l : ℕ) → a ≢ Acquire l
  releases : (l : ℕ) → a ≢ Release l
  sets : (f : ℕ) → a ≢ Set f
  arrives : event_arrives a ≡ false
  departs : event_departs a ≡ false

ask_quiet : (k a : Kind) → lax_ask_of k ≡ Some a → IsAskQuiet a
ask_quiet (Acquire l) a is = subst IsAskQuiet (same_Some (Ask l) a is) (record {
  acquires = λ m same. absurd cc;
  releases = λ m same. absurd cc;
  sets = λ f same. absurd cc;
  arrives = refl;
  departs = refl;
})
ask_quiet (Await f) a is = subst IsAskQuiet (same_Some (Watch f) a is) (record {
  acquires = λ m same. absurd cc;
  releases = λ m same. absurd cc;
  sets = λ g same. absurd cc;
  arrives = refl;
  departs = refl;
})
ask_quiet _ a is = absurd (none-some a is)

ask_kind : (p q : ℕ) (a b : Kind) → event p a ≡ event q b → a ≡ b
ask_kind p q a b same = ap (λ (x : Event). x.kind) same

ask_holds_on : (j : List Event) (p : ℕ) (a : Kind) (q l : ℕ) → IsAskQuiet a → Holds j q l → Holds (j ++ event p a ∷ []) q l
ask_holds_on j p a q l quiet = well_formed_stays_holds_longer j (event p a) q l (λ same. quiet.releases l (ask_kind p q a (Release l) same))

ask_holds_before : (j : List Event) (p : ℕ) (a : Kind) (q l : ℕ) → IsAskQuiet a → Holds (j ++ event p a ∷ []) q l → Holds j q l
ask_holds_before j p a q l quiet x = elim (well_formed_stays_holds_cases j (event p a) q l x) [
  | inl old ↦ old.0
  | inr new ↦ absurd (quiet.acquires l (ask_kind p q a (Acquire l) new))
]

ask_sets_on : (j : List Event) (p : ℕ) (a : Kind) (f : ℕ) → FrontTellsFlagSet j f → FrontTellsFlagSet (j ++ event p a ∷ []) f
ask_sets_on j p a f x = (x.0, x.1, event_place_longer j (event p a ∷ []) x.0 (event x.1 (Set f)) x.2)

ask_sets_before : (j : List Event) (p : ℕ) (a : Kind) (f : ℕ) → IsAskQuiet a → FrontTellsFlagSet (j ++ event p a ∷ []) f → FrontTellsFlagSet j f
ask_sets_before j p a f quiet x = elim (slice_push_cases j (event p a) x.0 (event x.1 (Set f)) x.2) [
  | inl old ↦ (x.0, x.1, old.1)
  | inr new ↦ absurd (quiet.sets f (ask_kind p x.1 a (Set f) new.1))
]

ask_count_nothing : (b : Bool) → ◌≡◌ {A = ℕ} (cond (b && false) 1 0) 0
ask_count_nothing true = refl
ask_count_nothing false = refl

ask_count : (is : Kind → Bool) (j : List Event) (p : ℕ) (a : Kind) (q : ℕ) → is a ≡ false
    → event_count is j q ≡ event_count is (j ++ event p a ∷ []) q
ask_count is j p a q quiet =
    let one = front_noting_count_one is (event p a) q ∙ ap (λ b. cond ((p == q) && b) 1 0) quiet ∙ ask_count_nothing (p == q) in
    let all = event_count-append is j (event p a ∷ []) q in
    omega (arith, one, all)

ask_last_before : (j : List Event) (p q : ℕ) (a b : Kind) → p ≢ q → ((i : ℕ) × LastIs (j ++ event p a ∷ []) q i b) → ((i : ℕ) × LastIs j q i b)
ask_last_before j p q a b isnt x = elim (well_formed_stays_last_cases j (event p a) q x.0 b x.1) [
  | inl now ↦ absurd (isnt now.0)
  | inr old ↦ (x.0, old.1)
]

-- with it right before an event of its processor, or without it, the same may come next
asks_alike_with : (j : List Event) (p : ℕ) (k a : Kind) → IsAskQuiet a
    → AreAsksAlike (j ++ event p k ∷ []) ((j ++ event p a ∷ []) ++ event p k ∷ [])
asks_alike_with j p k a quiet = record {
  last = λ q b. (
    asks_push_last j (j ++ event p a ∷ []) (event p k) (λ r c isnt was.
        (was.0, well_formed_stays_last_longer j (event p a ∷ []) r was.0 c (front_noting_one_away (event p a) r isnt) was.1)) q b,
    asks_push_last (j ++ event p a ∷ []) j (event p k) (λ r c isnt was. ask_last_before j p r a c isnt was) q b,
  );
  holds = λ q l. (
    asks_push_holds j (j ++ event p a ∷ []) (event p k) q l (ask_holds_on j p a q l quiet),
    asks_push_holds (j ++ event p a ∷ []) j (event p k) q l (ask_holds_before j p a q l quiet),
  );
  sets = λ f. (
    asks_push_sets j (j ++ event p a ∷ []) (event p k) f (ask_sets_on j p a f),
    asks_push_sets (j ++ event p a ∷ []) j (event p k) f (ask_sets_before j p a f quiet),
  );
  arrivals = λ q. asks_push_count event_arrives j (j ++ event p a ∷ []) (event p k) q (ask_count event_arrives j p a q quiet.arrives);
  departures = λ q. asks_push_count event_departs j (j ++ event p a ∷ []) (event p k) q (ask_count event_departs j p a q quiet.departs);
}

-- ---- the event itself

-- nothing is answered by a processor that waits for nothing
ask_answers_nothing : (b k : Kind) → awaited_next b ≡ None → WellFormedAnswer b k
ask_answers_nothing (Ask l) k none = absurd (none-some (Acquire l) (sym none))
ask_answers_nothing Arrive k none = absurd (none-some Depart (sym none))
ask_answers_nothing (Watch f) k none = absurd (none-some (Await f) (sym none))
ask_answers_nothing _ k none = tt

-- the event answers its ask
ask_answered : (k a : Kind) → lax_ask_of k ≡ Some a → WellFormedAnswer a k
ask_answered (Acquire l) a is = subst (λ b. WellFormedAnswer b (Acquire l)) (same_Some (Ask l) a is) refl
ask_answered (Await f) a is = subst (λ b. WellFormedAnswer b (Await f)) (same_Some (Watch f) a is) refl
ask_answered _ a is = absurd (none-some a is)

ask_in_range : (s : Sizes) (k a : Kind) → lax_ask_of k ≡ Some a → WellFormedKindInRange s k → WellFormedKindInRange s a
ask_in_range s (Acquire l) a is range = subst (WellFormedKindInRange s) (same_Some (Ask l) a is) range
ask_in_range s (Await f) a is range = subst (WellFormedKindInRange s) (same_Some (Watch f) a is) range
ask_in_range s _ a is range = absurd (none-some a is)

ask_allowed : (s : Sizes) (j : List Event) (p : ℕ) (k a : Kind) → lax_ask_of k ≡ Some a → LaxAllowed s j p k → LaxAllowed s j p a
ask_allowed s j p (Acquire l) a is free = subst (LaxAllowed s j p) (same_Some (Ask l) a is) (free p)
ask_allowed s j p (Await f) a is set = subst (LaxAllowed s j p) (same_Some (Watch f) a is) tt
ask_allowed s j p _ a is allowed = absurd (none-some a is)

ask_event_allowed : (s : Sizes) (j : List Event) (p : ℕ) (k a : Kind) → lax_ask_of k ≡ Some a → LaxAllowed s j p k
    → LaxAllowed s (j ++ event p a ∷ []) p k
ask_event_allowed s j p (Acquire l) a is free = λ q holds. free q (ask_holds_before j p a q l (ask_quiet (Acquire l) a is) holds)
ask_event_allowed s j p (Await f) a is set = ask_sets_on j p a f set
ask_event_allowed s j p _ a is allowed = absurd (none-some a is)

ask_event_allowed_before : (s : Sizes) (j : List Event) (p : ℕ) (k a : Kind) → lax_ask_of k ≡ Some a
    → LaxAllowed s (j ++ event p a ∷ []) p k → LaxAllowed s j p k
ask_event_allowed_before s j p (Acquire l) a is free = λ q holds. free q (ask_holds_on j p a q l (ask_quiet (Acquire l) a is) holds)
ask_event_allowed_before s j p (Await f) a is set = ask_sets_before j p a f (ask_quiet (Await f) a is) set
ask_event_allowed_before s j p _ a is allowed = absurd (none-some a is)

module _ (s : Sizes) (j : List Event) (p : ℕ) (k a : Kind) (is : lax_ask_of k ≡ Some a) (idle : AwaitsNothingNext j p) where
  ask_may : LaxMayFollow s j (event p k) → LaxMayFollow s j (event p a)
  ask_may m = record {
    processor = m.processor;
    in_range = ask_in_range s k a is m.in_range;
    answers = λ i b last. ask_answers_nothing b a (idle i b last);
    allowed = ask_allowed s j p k a is m.allowed;
  }

  ask_event_may : LaxMayFollow s j (event p k) → LaxMayFollow s (j ++ event p a ∷ []) (event p k)
  ask_event_may m = record {
    processor = m.processor;
    in_range = m.in_range;
    answers = λ i b last. elim (well_formed_stays_last_cases j (event p a) p i b last) [
      | inl now ↦ subst (λ c. WellFormedAnswer c k) (sym now.2) (ask_answered k a is)
      | inr old ↦ absurd (old.0 refl)
    ];
    allowed = ask_event_allowed s j p k a is m.allowed;
  }

  ask_event_may_before : LaxMayFollow s (j ++ event p a ∷ []) (event p k) → LaxMayFollow s j (event p k)
  ask_event_may_before m = record {
    processor = m.processor;
    in_range = m.in_range;
    answers = λ i b last. ask_answers_nothing b k (idle i b last);
    allowed = ask_event_allowed_before s j p k a is m.allowed;
  }

-- ---- the whole history

-- each of these events may follow what stands before it
abbrev AsksRun : Sizes → List Event → List Event → Type 0
AsksRun s x [] = Unit {0}
AsksRun s x (e ∷ es) = LaxMayFollow s x e × AsksRun s (x ++ e ∷ []) es

asks_front : (s : Sizes) (x es : List Event) → LaxWellFormed s (x ++ es) → LaxWellFormed s x
asks_front s x es well k e at =
    let lt = event_place_inside x k e at in
    subst (λ xs. LaxMayFollow s xs e) (take-append-le k x es (omega arith)) (well k e (event_place_longer x es k e at))

asks_next : (s : Sizes) (x : List Event) (e : Event) (es : List Event) → LaxWellFormed s (x ++ e ∷ es) → LaxMayFollow s x e
asks_next s x e es well =
    let at : EventAt (x ++ e ∷ es) (length x) e =
    subst (λ xs. EventAt xs (length x) e) (append_assoc x (e ∷ []) es) (event_place_longer (x ++ e ∷ []) es (length x) e (event_place_at_end x e)) in
    subst (λ xs. LaxMayFollow s xs e) (take-append_seam x (e ∷ es)) (well (length x) e at)

asks_run_of : (s : Sizes) (x es : List Event) → LaxWellFormed s (x ++ es) → AsksRun s x es
asks_run_of s x [] well = tt
asks_run_of s x (e ∷ es) well =
    (asks_next s x e es well, asks_run_of s (x ++ e ∷ []) es (subst (LaxWellFormed s) (sym (append_assoc x (e ∷ []) es)) well))

asks_push : (s : Sizes) (x : List Event) (e : Event) → LaxWellFormed s x → LaxMayFollow s x e → LaxWellFormed s (x ++ e ∷ [])
asks_push s x e well may k f at = elim (slice_push_cases x e k f at) [
  | inl old ↦ (let le : k ≤ length x = omega (arith, old.0) in
      subst (λ xs. LaxMayFollow s xs f) (sym (take-append-le k x (e ∷ []) le)) (well k f old.1))
  | inr new ↦ (let front = ap (λ n. take n (x ++ e ∷ [])) new.0 ∙ take-append_seam x (e ∷ []) in
      subst (λ xs. LaxMayFollow s xs f) (sym front) (subst (LaxMayFollow s x) new.1 may))
]

asks_well_of : (s : Sizes) (x es : List Event) → LaxWellFormed s x → AsksRun s x es → LaxWellFormed s (x ++ es)
asks_well_of s x [] well run = subst (LaxWellFormed s) (sym (append-nil x)) well
asks_well_of s x (e ∷ es) well run =
    subst (LaxWellFormed s) (append_assoc x (e ∷ []) es) (asks_well_of s (x ++ e ∷ []) es (asks_push s x e well run.0) run.1)

asks_alike_run : (s : Sizes) (x y es : List Event) → AreAsksAlike x y → AsksRun s x es → AsksRun s y es
asks_alike_run s x y [] alike run = tt
asks_alike_run s x y (e ∷ es) alike run =
    (asks_alike_may s x y e alike run.0, asks_alike_run s (x ++ e ∷ []) (y ++ e ∷ []) es (asks_alike_push x y e alike) run.1)

pub asks_stood_for_law : LaxAskLaw
asks_stood_for_law s j p k a es is idle =
    let alike = asks_alike_with j p k a (ask_quiet k a is) in
    let one = j ++ event p k ∷ [] in
    let two = (j ++ event p a ∷ []) ++ event p k ∷ [] in
    let first : one ++ es ≡ j ++ event p k ∷ es = append_assoc j (event p k ∷ []) es in
    let second : two ++ es ≡ j ++ event p a ∷ event p k ∷ es =
    append_assoc (j ++ event p a ∷ []) (event p k ∷ []) es ∙ append_assoc j (event p a ∷ []) (event p k ∷ es) in (
      λ well.
          let may = asks_next s j (event p k) es well in
          let front = asks_front s j (event p k ∷ es) well in
          let asked = asks_push s j (event p a) front (ask_may s j p k a is idle may) in
          let both = asks_push s (j ++ event p a ∷ []) (event p k) asked (ask_event_may s j p k a is idle may) in
          let run = asks_run_of s one es (subst (LaxWellFormed s) (sym first) well) in
          subst (LaxWellFormed s) second (asks_well_of s two es both (asks_alike_run s one two es alike run)),
      λ well.
          let whole = subst (LaxWellFormed s) (sym second) well in
          let front = asks_front s j (event p a ∷ event p k ∷ es) well in
          let may = asks_next s (j ++ event p a ∷ []) (event p k) [] (asks_front s two es whole) in
          let one_well = asks_push s j (event p k) front (ask_event_may_before s j p k a is idle may) in
          let run = asks_run_of s two es whole in
          subst (LaxWellFormed s) first (asks_well_of s one es one_well (asks_alike_run s two one es (asks_alike_back one two alike) run)),
    )
