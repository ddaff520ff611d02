-- The cuts after one more event.
use Rattle.std.proofs.Common.{◌≡◌, ◌≢◌, ℕ, ◌+◌, ◌<◌, ◌≤◌, ◌-◌, List, [], ◌∷◌, ◌++◌, length, length-append, inl, inr, Bool, true, false, cond, ◌==◌, ◌&&◌, slice_index, subst, sym, refl, ap, ◌∙◌, arith}
use Rattle.std.proofs.lemmas.Bool.{cases_eq, cases_lt}
use Rattle.base.proofs.SlicesAndCounts.{slice_push_cases}
use Rattle.journal.specs.declared.event.Event.{Event}
use Rattle.journal.specs.declared.event.Kind.{Kind}
use Rattle.journal.specs.declared.event.Kind.TheVariants.{Acquire, Release, Arrive, Depart, Set, Await}
use Rattle.journal.specs.DidEvent.{event}
use Rattle.journal.specs.Events.{EventAt, event_count, event_takes, event_arrives, event_departs}
use Rattle.journal.specs.Pasts.{UpTo, InPastOfSome}
use Rattle.journal.specs.Brings.{BringsFromKind, BringsFromSomeArrival, Brings}
use Rattle.judge.specs.CutRows.{cut_entry}
use Rattle.journal.proofs.Order.EventPlacesAndCounts.{event_count-append}
use Rattle.judge.specs.declared.cut_rows.CutRows.{CutRows}
use Rattle.judge.specs.declared.cuts.Cuts.{Cuts}
use Rattle.judge.specs.Cuts.{AreCuts, AreCutsLong, CutsAfterArrival, IsCutIn, IsCutOf}
use Rattle.judge.specs.CutEntries.{CutEntriesJoinedAt, CutEntriesMarkedAt}
use Rattle.judge.specs.NumberedCuts.{numbered_cut_at}
use Rattle.judge.proofs.cuts.CutsOfPlaces.{IsRaisedCut, cut_of_places_equal}
use Rattle.judge.proofs.cuts.PushedCuts.{pushed_cut_others, pushed_cut_own, pushed_cut_taking, pushed_cut_handed}
use Rattle.judge.proofs.cuts.KeptCuts.{kept_cut_of_kind, kept_cut_kind_joins, kept_cut_of_arrivals, kept_cut_other_arrivals, kept_cut_arrival_joins}

-- ---- what is kept

-- kept cuts, one for each kind k n
abbrev AreKeptNextCuts : List Event → (ℕ → Kind) → (ℕ → ℕ → ℕ) → Type 0
AreKeptNextCuts j k cuts = (n : ℕ) → IsCutIn j (InPastOfSome j (BringsFromKind j (k n))) (cuts n)

-- and one for each episode from this one on
abbrev AreGatheredNextCuts : List Event → CutRows → ℕ → Type 0
AreGatheredNextCuts j xs gone =
    (n : ℕ) → gone ≤ n → IsCutIn j (InPastOfSome j (BringsFromSomeArrival j n)) (cut_entry xs (n - gone))

next_cut_one_event : (e f : Event) (k : Kind) (m : ℕ) → EventAt (e ∷ []) m f → e.kind ≢ k → f.kind ≢ k
next_cut_one_event e f k m at isnt same =
    elim (slice_push_cases [] e m f at) [ inl old ↦ absurd (cc (old.1)) | inr new ↦ isnt (ap (λ x. x.kind) new.1 ∙ same) ]

next_cuts_kept_same : (j : List Event) (e : Event) (k : ℕ → Kind) (xs ys : ℕ → ℕ → ℕ) → ((n : ℕ) → e.kind ≢ k n) → ys ≡ xs
    → AreKeptNextCuts j k xs → AreKeptNextCuts (j ++ e ∷ []) k ys
next_cuts_kept_same j e k xs ys isnt same a n =
    subst (λ zs. IsCutIn (j ++ e ∷ []) (InPastOfSome (j ++ e ∷ []) (BringsFromKind (j ++ e ∷ []) (k n))) (zs n)) (sym same)
    (kept_cut_of_kind j (e ∷ []) (k n) (xs n) (λ m f at. next_cut_one_event e f (k n) m at (isnt n)) (a n))

next_cuts_gathered_same : (j : List Event) (e : Event) (xs ys : CutRows) (gone : ℕ) → e.kind ≢ Arrive → ys ≡ xs
    → AreGatheredNextCuts j xs gone → AreGatheredNextCuts (j ++ e ∷ []) ys gone
next_cuts_gathered_same j e xs ys gone isnt same a n le =
    subst
    (λ zs. IsCutIn (j ++ e ∷ []) (InPastOfSome (j ++ e ∷ []) (BringsFromSomeArrival (j ++ e ∷ []) n)) (cut_entry zs (n - gone)))
    (sym same)
    (kept_cut_of_arrivals j (e ∷ []) n (cut_entry xs (n - gone)) (λ m f at. next_cut_one_event e f Arrive m at isnt) (a n le))

-- the last event e hands on the cut `own`
abbrev pub HandsOnNextCut : List Event → Event → (ℕ → ℕ) → Type 0
HandsOnNextCut j e own = IsCutIn (j ++ e ∷ []) (UpTo (j ++ e ∷ []) (length j)) own

next_cuts_kept_joined : {m : ℕ} {xs ys : ℕ → ℕ → ℕ} {own : ℕ → ℕ} → (j : List Event) (p : ℕ) (k : ℕ → Kind)
    → ((n : ℕ) → n ≢ m → k m ≢ k n) → HandsOnNextCut j (event p (k m)) own → CutEntriesJoinedAt xs ys m own
    → AreKeptNextCuts j k xs → AreKeptNextCuts (j ++ event p (k m) ∷ []) k ys
next_cuts_kept_joined {m} {xs} {ys} {own} j p k apart hands joined a n = elim (cases_eq n m) [
  | inl is ↦ subst (λ x. IsCutIn now (InPastOfSome now (BringsFromKind now (k x))) (ys x)) (sym is)
      (kept_cut_kind_joins j e joined.joined (a m) hands)
  | inr isnt ↦ cut_of_places_equal now (InPastOfSome now (BringsFromKind now (k n))) (xs n) (ys n)
      (λ q. sym (joined.same n q isnt))
      (kept_cut_of_kind j (e ∷ []) (k n) (xs n) (λ i f at. next_cut_one_event e f (k n) i at (apart n isnt)) (a n))
]
  where
    e : Event
    e = event p (k m)

    now : List Event
    now = j ++ event p (k m) ∷ []

-- an arrival joins what it hands on into what its episode keeps
next_cuts_gathered_joined : {j : List Event} {c d : Cuts} {p : ℕ}
    → HandsOnNextCut j (event p Arrive) (cut_entry d.processors p)
    → slice_index c.arrivals.items p ≡ event_count event_arrives j p → CutsAfterArrival c d p
    → AreGatheredNextCuts j c.episodes c.gone
    → AreGatheredNextCuts (j ++ event p Arrive ∷ []) d.episodes c.gone
next_cuts_gathered_joined {j} {c} {d} {p} hands number arrived a n le = elim (cases_eq n m) [
  | inl is ↦
      (let place : m - c.gone ≡ n - c.gone = omega arith in
      let above : c.gone ≤ m = omega arith in
      let raised : IsRaisedCut (cut_entry xs (n - c.gone)) own (cut_entry ys (n - c.gone)) =
      subst (λ x. IsRaisedCut (cut_entry xs x) own (cut_entry ys x)) place (arrived.joined above).joined in
      let all = event_count event_arrives j p in
      let old : IsCutIn j (InPastOfSome j (BringsFromSomeArrival j all)) (cut_entry xs (n - c.gone)) =
      subst (λ x. IsCutIn j (InPastOfSome j (BringsFromSomeArrival j x)) (cut_entry xs (n - c.gone))) (is ∙ number) (a n le) in
      subst (λ x. IsCutIn now (InPastOfSome now (BringsFromSomeArrival now x)) (cut_entry ys (n - c.gone))) (sym (is ∙ number))
      (kept_cut_arrival_joins j e raised refl old hands))
  | inr isnt ↦ cut_of_places_equal now (InPastOfSome now (BringsFromSomeArrival now n)) (cut_entry xs (n - c.gone))
      (cut_entry ys (n - c.gone)) (others isnt)
      (kept_cut_other_arrivals j e n (cut_entry xs (n - c.gone)) (λ eq. isnt (sym (number ∙ eq))) (a n le))
]
  where
    e : Event
    e = event p Arrive

    now : List Event
    now = j ++ event p Arrive ∷ []

    m : ℕ
    m = slice_index c.arrivals.items p

    xs : CutRows
    xs = c.episodes

    ys : CutRows
    ys = d.episodes

    own : ℕ → ℕ
    own = cut_entry d.processors p

    others : n ≢ m → (q : ℕ) → cut_entry xs (n - c.gone) q ≡ cut_entry ys (n - c.gone) q
    others isnt q = elim (cases_lt m c.gone) [
      | inl below ↦ ap (λ zs. cut_entry zs (n - c.gone) q) (sym (arrived.gone below))
      | inr above ↦
          (let apart : n - c.gone ≢ m - c.gone = omega arith in
          sym ((arrived.joined above).same (n - c.gone) q apart))
    ]

-- ---- one event more

-- p is one of the processors, c are the cuts of the history j, and d has as many
pub record StepsToNextCuts (j : List Event) (c d : Cuts) (p : ℕ) : Type 0 where
  pub so_far : AreCuts j c
  pub processor : p < c.present
  pub long : AreCutsLong d
  pub present : d.present ≡ c.present
  pub gone : d.gone ≡ c.gone
  pub place : d.place ≡ c.place + 1

-- what the cuts become by an event of p of kind k
pub record AreNextCuts (j : List Event) (c d : Cuts) (p : ℕ) (k : Kind) : Type 0 where
  pub own : IsCutOf (j ++ event p k ∷ []) p (cut_entry d.processors p)
  pub others : (m q : ℕ) → m ≢ p → cut_entry d.processors m q ≡ cut_entry c.processors m q
  pub locks : AreKeptNextCuts (j ++ event p k ∷ []) (λ l. Release l) (numbered_cut_at d.locks)
  pub flags : AreKeptNextCuts (j ++ event p k ∷ []) (λ f. Set f) (numbered_cut_at d.flags)
  pub episodes : AreGatheredNextCuts (j ++ event p k ∷ []) d.episodes c.gone
  pub arrivals : (q : ℕ) → slice_index d.arrivals.items q ≡ slice_index c.arrivals.items q + cond ((p == q) && event_arrives k) 1 0
  pub departures : (q : ℕ) → slice_index d.departures.items q ≡ slice_index c.departures.items q + cond ((p == q) && event_departs k) 1 0

next_cuts_counts : (is : Kind → Bool) (j : List Event) (p q : ℕ) (k : Kind) (x y : ℕ) → y ≡ x + cond ((p == q) && is k) 1 0
    → x ≡ event_count is j q → y ≡ event_count is (j ++ event p k ∷ []) q
next_cuts_counts is j p q k x y next now =
    let sum = event_count-append is j (event p k ∷ []) q in
    omega arith

-- after the event the cuts are those of the history with it
pub next_cuts : {j : List Event} {c d : Cuts} {p : ℕ} {k : Kind} → StepsToNextCuts j c d p → AreNextCuts j c d p k
    → AreCuts (j ++ event p k ∷ []) d
next_cuts {j} {c} {d} {p} {k} s n = record {
  place =
      (let sum = length-append j (event p k ∷ []) in let was = a.place in let now = s.place in
      omega arith);
  long = s.long;
  cuts = cuts;
  locks = n.locks;
  flags = n.flags;
  episodes = subst (λ x. AreGatheredNextCuts (j ++ event p k ∷ []) d.episodes x) (sym s.gone) n.episodes;
  left =
      λ q within. (let old = a.left q (let same = s.present in omega arith) in let rise = n.departures q in
      let gone = s.gone in omega arith);
  arrivals =
      λ q within. next_cuts_counts event_arrives j p q k (slice_index c.arrivals.items q) (slice_index d.arrivals.items q)
      (n.arrivals q) (a.arrivals q (let same = s.present in omega arith));
  departures =
      λ q within. next_cuts_counts event_departs j p q k (slice_index c.departures.items q) (slice_index d.departures.items q)
      (n.departures q) (a.departures q (let same = s.present in omega arith));
}
  where
    a : AreCuts j c
    a = s.so_far

    cuts : (m : ℕ) → m < d.present → IsCutOf (j ++ event p k ∷ []) m (cut_entry d.processors m)
    cuts m within = elim (cases_eq m p) [
      | inl is ↦ subst (λ x. IsCutOf (j ++ event p k ∷ []) x (cut_entry d.processors x)) (sym is) n.own
      | inr isnt ↦ pushed_cut_others j (event p k) m (cut_entry c.processors m) (cut_entry d.processors m)
          (λ same. isnt (sym same)) (λ q. n.others m q isnt) (a.cuts m (let same = s.present in omega arith))
    ]

-- ---- each kind of event

next_cut_and_true : (b c : Bool) → c ≡ true → cond {A = ℕ} (b && c) 1 0 ≡ cond b 1 0
next_cut_and_true true c h = rw h
next_cut_and_true false c h = refl

next_cut_and_false : (b c : Bool) → c ≡ false → cond {A = ℕ} (b && c) 1 0 ≡ 0
next_cut_and_false true c h = rw h
next_cut_and_false false c h = refl

-- an event by which a lock, a flag or an episode gets to know of others'
abbrev pub next_cut_hands_on : Kind → Bool
next_cut_hands_on (Release l) = true
next_cut_hands_on (Set f) = true
next_cut_hands_on Arrive = true
next_cut_hands_on _ = false

next_cut_no_arrive : (k : Kind) → next_cut_hands_on k ≡ false → event_arrives k ≡ false
next_cut_no_arrive Arrive h = absurd cc
next_cut_no_arrive _ h = refl

next_cuts_own_before : {j : List Event} {c d : Cuts} {p : ℕ} → StepsToNextCuts j c d p
    → IsCutOf j p (cut_entry c.processors p)
next_cuts_own_before {p = p} s = s.so_far.cuts p s.processor

-- what is kept is the same after an event that hands on nothing
next_cuts_keeping : {j : List Event} {c d : Cuts} {p : ℕ} → (k : Kind) → next_cut_hands_on k ≡ false
    → StepsToNextCuts j c d p
    → d ≡ record c { processors = d.processors; departures = d.departures; place = c.place + 1 }
    → IsCutOf (j ++ event p k ∷ []) p (cut_entry d.processors p)
    → ((m q : ℕ) → m ≢ p → cut_entry d.processors m q ≡ cut_entry c.processors m q)
    → ((q : ℕ) → slice_index d.departures.items q ≡ slice_index c.departures.items q + cond ((p == q) && event_departs k) 1 0)
    → AreCuts (j ++ event p k ∷ []) d
next_cuts_keeping {j} {c} {d} {p} k quiet s rest own others departures = next_cuts s (record {
  own = own;
  others = others;
  locks =
      next_cuts_kept_same j (event p k) (λ l. Release l) (numbered_cut_at c.locks) (numbered_cut_at d.locks)
      (λ l same. absurd cc) (ap (λ x. numbered_cut_at x.locks) rest) s.so_far.locks;
  flags =
      next_cuts_kept_same j (event p k) (λ f. Set f) (numbered_cut_at c.flags) (numbered_cut_at d.flags)
      (λ f same. absurd cc) (ap (λ x. numbered_cut_at x.flags) rest) s.so_far.flags;
  episodes =
      next_cuts_gathered_same j (event p k) c.episodes d.episodes c.gone
      (λ same. absurd cc) (ap (λ x. x.episodes) rest) s.so_far.episodes;
  arrivals =
      λ q. (let none = next_cut_and_false (p == q) (event_arrives k) (next_cut_no_arrive k quiet) in
      let same = ap (λ x. slice_index x.arrivals.items q) rest in omega arith);
  departures = departures;
})

-- after an event that neither takes nor hands on
pub next_cuts_plain : {j : List Event} {c d : Cuts} {p : ℕ} → (k : Kind) → event_takes k ≡ false → event_departs k ≡ false
    → next_cut_hands_on k ≡ false → StepsToNextCuts j c d p → d ≡ record c { place = c.place + 1 }
    → AreCuts (j ++ event p k ∷ []) d
next_cuts_plain {j} {c} {d} {p} k takes departs quiet s rest =
    next_cuts_keeping k quiet s same own others departures
  where
    same : d ≡ record c { processors = d.processors; departures = d.departures; place = c.place + 1 }
    same = rw rest refl

    entries : (m q : ℕ) → cut_entry d.processors m q ≡ cut_entry c.processors m q
    entries m q = ap (λ x. cut_entry x.processors m q) rest

    own : IsCutOf (j ++ event p k ∷ []) p (cut_entry d.processors p)
    own =
        let before = next_cuts_own_before s in
        pushed_cut_own j (event p k) (cut_entry c.processors p) (cut_entry d.processors p) takes (λ q apart. entries p q)
        (let is = entries p p in let top = before.within p in omega arith) before

    others : (m q : ℕ) → m ≢ p → cut_entry d.processors m q ≡ cut_entry c.processors m q
    others m q isnt = entries m q

    departures : (q : ℕ) → slice_index d.departures.items q ≡ slice_index c.departures.items q + cond ((p == q) && event_departs k) 1 0
    departures q =
        let none = next_cut_and_false (p == q) (event_departs k) departs in
        let is = ap (λ x. slice_index x.departures.items q) rest in
        omega arith

-- p's cut has joined that of what its event brings
record TakesNextCut (j : List Event) (c d : Cuts) (p : ℕ) (k : Kind) (brought : ℕ → ℕ) : Type 0 where
  pub joined : CutEntriesJoinedAt (cut_entry c.processors) (cut_entry d.processors) p brought
  pub brings : IsCutIn j (Brings j p k) brought

next_cuts_taken_own : {j : List Event} {c d : Cuts} {p : ℕ} {brought : ℕ → ℕ} → (k : Kind) → StepsToNextCuts j c d p
    → TakesNextCut j c d p k brought → IsCutOf (j ++ event p k ∷ []) p (cut_entry d.processors p)
next_cuts_taken_own {j} {p = p} k s takes =
    pushed_cut_taking j (event p k) takes.joined.joined (next_cuts_own_before s) takes.brings

-- after an acquire or an await
next_cuts_taken : {j : List Event} {c d : Cuts} {p : ℕ} {brought : ℕ → ℕ} → (k : Kind) → event_departs k ≡ false
    → next_cut_hands_on k ≡ false → StepsToNextCuts j c d p → d ≡ record c { processors = d.processors; place = c.place + 1 }
    → TakesNextCut j c d p k brought → AreCuts (j ++ event p k ∷ []) d
next_cuts_taken {j} {c} {d} {p} k departs quiet s rest takes =
    next_cuts_keeping k quiet s same (next_cuts_taken_own k s takes) takes.joined.same departures
  where
    left : d.departures ≡ c.departures
    left = ap (λ x. x.departures) rest

    same : d ≡ record c { processors = d.processors; departures = d.departures; place = c.place + 1 }
    same = rest ∙ ap (λ x. record c { processors = d.processors; departures = x; place = c.place + 1 }) (sym left)

    departures : (q : ℕ) → slice_index d.departures.items q ≡ slice_index c.departures.items q + cond ((p == q) && event_departs k) 1 0
    departures q =
        let none = next_cut_and_false (p == q) (event_departs k) departs in
        let is = ap (λ x. slice_index x.items q) left in
        omega arith

pub next_cuts_acquired : {j : List Event} {c d : Cuts} {p : ℕ} → (l : ℕ) → StepsToNextCuts j c d p
    → d ≡ record c { processors = d.processors; place = c.place + 1 }
    → CutEntriesJoinedAt (cut_entry c.processors) (cut_entry d.processors) p (numbered_cut_at c.locks l)
    → AreCuts (j ++ event p (Acquire l) ∷ []) d
next_cuts_acquired l s rest joined =
    next_cuts_taken (Acquire l) refl refl s rest (record { joined = joined; brings = s.so_far.locks l })

pub next_cuts_awaited : {j : List Event} {c d : Cuts} {p : ℕ} → (f : ℕ) → StepsToNextCuts j c d p
    → d ≡ record c { processors = d.processors; place = c.place + 1 }
    → CutEntriesJoinedAt (cut_entry c.processors) (cut_entry d.processors) p (numbered_cut_at c.flags f)
    → AreCuts (j ++ event p (Await f) ∷ []) d
next_cuts_awaited f s rest joined =
    next_cuts_taken (Await f) refl refl s rest (record { joined = joined; brings = s.so_far.flags f })

-- after a departure
pub next_cuts_departed : {j : List Event} {c d : Cuts} {p : ℕ} → StepsToNextCuts j c d p
    → d ≡ record c { processors = d.processors; departures = d.departures; place = c.place + 1 }
    → CutEntriesJoinedAt (cut_entry c.processors) (cut_entry d.processors) p
    (cut_entry c.episodes (slice_index c.departures.items p - c.gone))
    → ((q : ℕ) → slice_index d.departures.items q ≡ slice_index c.departures.items q + cond (p == q) 1 0)
    → AreCuts (j ++ event p Depart ∷ []) d
next_cuts_departed {j} {c} {d} {p} s rest joined counted =
    next_cuts_keeping Depart refl s rest (next_cuts_taken_own Depart s (record { joined = joined; brings = brings }))
    joined.same (λ q. (let one = next_cut_and_true (p == q) true refl in let count = counted q in omega arith))
  where
    kept : ℕ → ℕ
    kept = cut_entry c.episodes (slice_index c.departures.items p - c.gone)

    brings : IsCutIn j (Brings j p Depart) kept
    brings =
        let P : ℕ → Type 0 = λ n. IsCutIn j (InPastOfSome j (BringsFromSomeArrival j n)) kept in
        subst P (s.so_far.departures p s.processor)
        (s.so_far.episodes (slice_index c.departures.items p) (s.so_far.left p s.processor))

-- p's own entry says that its events up to its event at c's place are known
abbrev pub MarksNextCut : Cuts → Cuts → ℕ → Type 0
MarksNextCut c d p = CutEntriesMarkedAt (cut_entry c.processors) (cut_entry d.processors) p p (c.place + 1)

next_cuts_marked_own : {j : List Event} {c d : Cuts} {p : ℕ} → (k : Kind) → event_takes k ≡ false → StepsToNextCuts j c d p
    → MarksNextCut c d p → IsCutOf (j ++ event p k ∷ []) p (cut_entry d.processors p)
next_cuts_marked_own {j} {c} {d} {p} k takes s marked =
    let place = s.so_far.place in
    let own = marked.own in
    pushed_cut_own j (event p k) (cut_entry c.processors p) (cut_entry d.processors p) takes marked.others (omega arith)
    (next_cuts_own_before s)

next_cuts_marked_hands : {j : List Event} {c d : Cuts} {p : ℕ} → (k : Kind) → event_takes k ≡ false → StepsToNextCuts j c d p
    → MarksNextCut c d p → HandsOnNextCut j (event p k) (cut_entry d.processors p)
next_cuts_marked_hands {j} {c} {d} {p} k takes s marked =
    let place = s.so_far.place in
    let own = marked.own in
    pushed_cut_handed j (event p k) (cut_entry d.processors p) (omega arith) (next_cuts_marked_own k takes s marked)

-- after a release
pub next_cuts_released : {j : List Event} {c d : Cuts} {p : ℕ} → (l : ℕ) → StepsToNextCuts j c d p
    → d ≡ record c { processors = d.processors; locks = d.locks; place = c.place + 1 } → MarksNextCut c d p
    → CutEntriesJoinedAt (numbered_cut_at c.locks) (numbered_cut_at d.locks) l (cut_entry d.processors p)
    → AreCuts (j ++ event p (Release l) ∷ []) d
next_cuts_released {j} {c} {d} {p} l s rest marked joined =
    let e : Event = event p (Release l) in
    next_cuts s (record {
      own = next_cuts_marked_own (Release l) refl s marked;
      others = marked.same;
      locks =
          next_cuts_kept_joined j p (λ m. Release m) (λ m isnt same. isnt cc) (next_cuts_marked_hands (Release l) refl s marked)
          joined s.so_far.locks;
      flags =
          next_cuts_kept_same j e (λ f. Set f) (numbered_cut_at c.flags) (numbered_cut_at d.flags) (λ f same. absurd cc)
          (ap (λ x. numbered_cut_at x.flags) rest) s.so_far.flags;
      episodes =
          next_cuts_gathered_same j e c.episodes d.episodes c.gone (λ same. absurd cc)
          (ap (λ x. x.episodes) rest) s.so_far.episodes;
      arrivals =
          λ q. (let none = next_cut_and_false (p == q) false refl in let same = ap (λ x. slice_index x.arrivals.items q) rest in
          omega arith);
      departures =
          λ q. (let none = next_cut_and_false (p == q) false refl in let same = ap (λ x. slice_index x.departures.items q) rest in
          omega arith);
    })

-- after a set
pub next_cuts_set : {j : List Event} {c d : Cuts} {p : ℕ} → (f : ℕ) → StepsToNextCuts j c d p
    → d ≡ record c { processors = d.processors; flags = d.flags; place = c.place + 1 } → MarksNextCut c d p
    → CutEntriesJoinedAt (numbered_cut_at c.flags) (numbered_cut_at d.flags) f (cut_entry d.processors p)
    → AreCuts (j ++ event p (Set f) ∷ []) d
next_cuts_set {j} {c} {d} {p} f s rest marked joined =
    let e : Event = event p (Set f) in
    next_cuts s (record {
      own = next_cuts_marked_own (Set f) refl s marked;
      others = marked.same;
      locks =
          next_cuts_kept_same j e (λ l. Release l) (numbered_cut_at c.locks) (numbered_cut_at d.locks) (λ l same. absurd cc)
          (ap (λ x. numbered_cut_at x.locks) rest) s.so_far.locks;
      flags =
          next_cuts_kept_joined j p (λ m. Set m) (λ m isnt same. isnt cc) (next_cuts_marked_hands (Set f) refl s marked)
          joined s.so_far.flags;
      episodes =
          next_cuts_gathered_same j e c.episodes d.episodes c.gone (λ same. absurd cc)
          (ap (λ x. x.episodes) rest) s.so_far.episodes;
      arrivals =
          λ q. (let none = next_cut_and_false (p == q) false refl in let same = ap (λ x. slice_index x.arrivals.items q) rest in
          omega arith);
      departures =
          λ q. (let none = next_cut_and_false (p == q) false refl in let same = ap (λ x. slice_index x.departures.items q) rest in
          omega arith);
    })

-- after an arrival
pub next_cuts_arrived : {j : List Event} {c d : Cuts} {p : ℕ} → StepsToNextCuts j c d p
    → d ≡ record c { processors = d.processors; episodes = d.episodes; arrivals = d.arrivals; place = c.place + 1 }
    → MarksNextCut c d p → CutsAfterArrival c d p → AreCuts (j ++ event p Arrive ∷ []) d
next_cuts_arrived {j} {c} {d} {p} s rest marked arrived =
    let e : Event = event p Arrive in
    next_cuts s (record {
      own = next_cuts_marked_own Arrive refl s marked;
      others = marked.same;
      locks =
          next_cuts_kept_same j e (λ l. Release l) (numbered_cut_at c.locks) (numbered_cut_at d.locks) (λ l same. absurd cc)
          (ap (λ x. numbered_cut_at x.locks) rest) s.so_far.locks;
      flags =
          next_cuts_kept_same j e (λ f. Set f) (numbered_cut_at c.flags) (numbered_cut_at d.flags) (λ f same. absurd cc)
          (ap (λ x. numbered_cut_at x.flags) rest) s.so_far.flags;
      episodes =
          next_cuts_gathered_joined (next_cuts_marked_hands Arrive refl s marked) (s.so_far.arrivals p s.processor)
          arrived s.so_far.episodes;
      arrivals = λ q. (let one = next_cut_and_true (p == q) true refl in let count = arrived.counted q in omega arith);
      departures =
          λ q. (let none = next_cut_and_false (p == q) false refl in let same = ap (λ x. slice_index x.departures.items q) rest in
          omega arith);
    })

-- ---- episodes that every processor has departed from

-- d is c without some of these episodes
pub record NextCutsLetGo (c d : Cuts) : Type 0 where
  pub rest : d ≡ record c { episodes = d.episodes; gone = d.gone }
  pub left : (p : ℕ) → p < c.present → c.gone ≤ slice_index c.departures.items p → d.gone ≤ slice_index c.departures.items p
  pub episodes : (n q : ℕ) → d.gone ≤ n
      → (c.gone ≤ n) × (cut_entry d.episodes (n - d.gone) q ≡ cut_entry c.episodes (n - c.gone) q)
  pub long : AreCutsLong d

pub next_cuts_let_go : {j : List Event} {c d : Cuts} → AreCuts j c → NextCutsLetGo c d → AreCuts j d
next_cuts_let_go {j} {c} {d} a go = subst (AreCuts j) (sym go.rest) (record {
  place = a.place;
  long = subst AreCutsLong go.rest go.long;
  cuts = a.cuts;
  locks = a.locks;
  flags = a.flags;
  episodes =
      λ n le. cut_of_places_equal j (InPastOfSome j (BringsFromSomeArrival j n)) (cut_entry c.episodes (n - c.gone))
      (cut_entry d.episodes (n - d.gone)) (λ q. sym (go.episodes n q le).1) (a.episodes n (go.episodes n 0 le).0);
  left = λ p h. go.left p h (a.left p h);
  arrivals = a.arrivals;
  departures = a.departures;
})
