-- The race checker's timestamps after one more event.
use Rattle.std.proofs.Common.{◌≡◌, ◌≢◌, ℕ, ◌+◌, ◌<◌, ◌≤◌, ◌-◌, ◌^◌, max, List, [], ◌∷◌, ◌++◌, length, take, inl, inr, Bool, true, false, cond, ◌==◌, ◌&&◌, slice_index, vec_len, subst, sym, refl, ap, ◌∙◌, add-one, arith}
use Rattle.std.proofs.lemmas.Bool.{cases_eq, cases_lt}
use Rattle.std.proofs.lemmas.List.Sums.{count_by-le-length}
use Rattle.journal.specs.declared.event.Event.{Event}
use Rattle.journal.specs.declared.event.Kind.{Kind}
use Rattle.journal.specs.declared.event.Kind.TheVariants.{Acquire, Release, Arrive, Depart, Set, Await}
use Rattle.journal.specs.declared.event_clocks.EventClocks.{EventClocks}
use Rattle.journal.specs.DidEvent.{event}
use Rattle.journal.specs.Events.{EventAt, event_count, event_closes, event_takes, event_arrives, event_departs}
use Rattle.journal.specs.Pasts.{InPast, InPastOfSome}
use Rattle.journal.specs.Times.{IsTimeIn, IsTimeOf}
use Rattle.journal.specs.Brings.{BringsFromKind, BringsFromSomeArrival, Brings}
use Rattle.journal.specs.ClockEntry.{entry, ClockEntryClosedAt, ClockEntryJoinedAt}
use Rattle.journal.specs.declared.numbered_clocks.NumberedClocks.{NumberedClocks}
use Rattle.journal.specs.NumberedClocks.{numbered_clock_at}
use Rattle.journal.specs.Clocks.{AreClocks, ClocksAfterArrival}
use Rattle.base.proofs.SlicesAndCounts.{slice_push_cases, slice_take-suc_at}
use Rattle.journal.proofs.Order.EventPlacesAndCounts.{event_count-append}
use Rattle.journal.proofs.Times.TimesOfPlaces.{time_of_places_equal, time_of_places_none, time_of_places_one_event}
use Rattle.journal.proofs.Times.PushedTimes.{pushed_time, pushed_time_others, pushed_time_own_quiet}
use Rattle.journal.proofs.Passes.NextRaces.{next_race_cond_and_true, next_race_cond_and_false}
use Rattle.journal.proofs.Times.KeptTimes.{kept_time_of_kind, kept_time_kind_joins, kept_time_of_arrivals, kept_time_other_arrivals, kept_time_arrival_joins}

-- entry q of what an event of p of this kind brings, by the kept timestamps
abbrev pub next_clock_brought_at : EventClocks → ℕ → Kind → ℕ → ℕ
next_clock_brought_at c p (Acquire l) q = numbered_clock_at c.locks l q
next_clock_brought_at c p (Await f) q = numbered_clock_at c.flags f q
next_clock_brought_at c p Depart q = entry c.episodes.items (slice_index c.departures p - c.gone) q
next_clock_brought_at c p _ q = 0

-- what locks, flags and episodes keep, after an event of p of this kind that left p at this timestamp
abbrev pub KeepsNextClocks : EventClocks → NumberedClocks → NumberedClocks → List (List ℕ) → ℕ → (ℕ → ℕ) → Kind → Type 0
KeepsNextClocks c locks flags episodes p own (Release l) =
    ClockEntryJoinedAt (numbered_clock_at c.locks) (numbered_clock_at locks) l own × (flags ≡ c.flags) × (episodes ≡ c.episodes.items)
KeepsNextClocks c locks flags episodes p own (Set f) =
    (locks ≡ c.locks) × ClockEntryJoinedAt (numbered_clock_at c.flags) (numbered_clock_at flags) f own × (episodes ≡ c.episodes.items)
KeepsNextClocks c locks flags episodes p own Arrive =
    (locks ≡ c.locks) × (flags ≡ c.flags)
    × (c.gone ≤ slice_index c.arrivals p
    → ClockEntryJoinedAt (entry c.episodes.items) (entry episodes) (slice_index c.arrivals p - c.gone) own)
    × (slice_index c.arrivals p < c.gone → episodes ≡ c.episodes.items)
KeepsNextClocks c locks flags episodes p own _ = (locks ≡ c.locks) × (flags ≡ c.flags) × (episodes ≡ c.episodes.items)

-- no entry is past the number of events
pub next_clock_time_small : (j : List Event) (among : ℕ → Type 0) (t : ℕ → ℕ) (q : ℕ) → IsTimeIn j among t → t q ≤ length j
next_clock_time_small j among t q a =
    let top = a.within q in
    let all = count_by-le-length (λ (e : Event). (e.processor == q) && event_closes e.kind) j in
    omega arith

next_clock_one_event : (e f : Event) (k : Kind) (m : ℕ) → EventAt (e ∷ []) m f → e.kind ≢ k → f.kind ≢ k
next_clock_one_event e f k m at isnt same =
    elim (slice_push_cases [] e m f at) [ inl old ↦ absurd (cc (old.1)) | inr new ↦ isnt (ap (λ x. x.kind) new.1 ∙ same) ]

next_clock_one_others : (e f : Event) (p m : ℕ) → EventAt (e ∷ []) m f → e.processor ≢ p → f.processor ≢ p
next_clock_one_others e f p m at isnt same =
    elim (slice_push_cases [] e m f at)
    [ inl old ↦ absurd (cc (old.1)) | inr new ↦ isnt (ap (λ x. x.processor) new.1 ∙ same) ]

-- what the kept timestamps say that an event brings is the time of what it brings
pub next_clock_brought_time : (j : List Event) (c : EventClocks) (p : ℕ) (k : Kind) → AreClocks j c → p < c.present
    → IsTimeIn j (Brings j p k) (next_clock_brought_at c p k)
next_clock_brought_time j c p (Acquire l) a h = a.locks l
next_clock_brought_time j c p (Await f) a h = a.flags f
next_clock_brought_time j c p Depart a h =
    let few = a.few in
    let P : ℕ → Type 0 =
    λ n. IsTimeIn j (InPastOfSome j (BringsFromSomeArrival j n)) (entry c.episodes.items (slice_index c.departures p - c.gone))
    in
    subst P (a.departures p (omega arith)) (a.episodes (slice_index c.departures p) (a.left p h))
next_clock_brought_time j c p _ a h = time_of_places_none j (InPastOfSome j (λ _. ⊥)) (λ i x. x.1)

-- kept timestamps, one for each kind k n
abbrev AreKeptNextClocks : List Event → (ℕ → Kind) → (ℕ → ℕ → ℕ) → Type 0
AreKeptNextClocks j k times = (n : ℕ) → IsTimeIn j (InPastOfSome j (BringsFromKind j (k n))) (times n)

-- and one for each episode from this one on
abbrev AreGatheredNextClocks : List Event → List (List ℕ) → ℕ → Type 0
AreGatheredNextClocks j xs gone = (n : ℕ) → gone ≤ n → IsTimeIn j (InPastOfSome j (BringsFromSomeArrival j n)) (entry xs (n - gone))

next_clock_kept_same : (j : List Event) (e : Event) (k : ℕ → Kind) (xs ys : ℕ → ℕ → ℕ) → ((n : ℕ) → e.kind ≢ k n) → ys ≡ xs
    → AreKeptNextClocks j k xs → AreKeptNextClocks (j ++ e ∷ []) k ys
next_clock_kept_same j e k xs ys isnt same a n =
    subst (λ zs. IsTimeIn (j ++ e ∷ []) (InPastOfSome (j ++ e ∷ []) (BringsFromKind (j ++ e ∷ []) (k n))) (zs n)) (sym same)
    (kept_time_of_kind j (e ∷ []) (k n) (xs n) (λ m f at. next_clock_one_event e f (k n) m at (isnt n)) (a n))

next_clock_kept_joined : {m : ℕ} {xs ys : ℕ → ℕ → ℕ} {own : ℕ → ℕ} → (j : List Event) (p : ℕ) (k : ℕ → Kind)
    → ((n : ℕ) → n ≢ m → k m ≢ k n) → IsTimeOf (j ++ event p (k m) ∷ []) p own → ClockEntryJoinedAt xs ys m own
    → AreKeptNextClocks j k xs → AreKeptNextClocks (j ++ event p (k m) ∷ []) k ys
next_clock_kept_joined {m} {xs} {ys} {own} j p k apart time joined a n = elim (cases_eq n m) [
  | inl is ↦ subst (λ x. IsTimeIn now (InPastOfSome now (BringsFromKind now (k x))) (ys x)) (sym is) (time_of_places_equal now
      (InPastOfSome now (BringsFromKind now (k m))) (λ q. max (xs m q) (own q)) (ys m) (λ q. sym (joined.joined q))
      (kept_time_kind_joins j e (xs m) own (a m) time))
  | inr isnt ↦ time_of_places_equal now (InPastOfSome now (BringsFromKind now (k n))) (xs n) (ys n) (λ q. sym (joined.same n q isnt))
      (kept_time_of_kind j (e ∷ []) (k n) (xs n) (λ i f at. next_clock_one_event e f (k n) i at (apart n isnt)) (a n))
]
  where
    e : Event
    e = event p (k m)

    now : List Event
    now = j ++ event p (k m) ∷ []

next_clock_gathered_same : (j : List Event) (e : Event) (xs ys : List (List ℕ)) (gone : ℕ) → e.kind ≢ Arrive → ys ≡ xs
    → AreGatheredNextClocks j xs gone → AreGatheredNextClocks (j ++ e ∷ []) ys gone
next_clock_gathered_same j e xs ys gone isnt same a n le =
    subst (λ zs. IsTimeIn (j ++ e ∷ []) (InPastOfSome (j ++ e ∷ []) (BringsFromSomeArrival (j ++ e ∷ []) n)) (entry zs (n - gone)))
    (sym same)
    (kept_time_of_arrivals j (e ∷ []) n (entry xs (n - gone)) (λ m f at. next_clock_one_event e f Arrive m at isnt) (a n le))

-- p is one of the processors, the timestamps c are those of the journal j, and d has as many
pub record StepsToNextClocks (j : List Event) (c d : EventClocks) (p : ℕ) : Type 0 where
  pub present : p < c.present
  pub so_far : AreClocks j c
  pub long : vec_len d.processors ≡ vec_len c.processors

-- what the timestamps become by an event of p of kind k
record AreNextClocks (c d : EventClocks) (p : ℕ) (k : Kind) : Type 0 where
  pub present : d.present ≡ c.present
  pub gone : d.gone ≡ c.gone
  pub own : (q : ℕ)
      → entry d.processors.items p q
      ≡ max (entry c.processors.items p q) (next_clock_brought_at c p k q) + cond ((p == q) && event_closes k) 1 0
  pub others : (m q : ℕ) → m ≢ p → entry d.processors.items m q ≡ entry c.processors.items m q
  pub keeps : KeepsNextClocks c d.locks d.flags d.episodes.items p (entry d.processors.items p) k
  pub arrivals : (q : ℕ) → slice_index d.arrivals q ≡ slice_index c.arrivals q + cond ((p == q) && event_arrives k) 1 0
  pub departures : (q : ℕ)
      → slice_index d.departures q ≡ slice_index c.departures q + cond ((p == q) && event_departs k) 1 0

next_clocks_steps_within : {j : List Event} {c d : EventClocks} {p : ℕ} → StepsToNextClocks j c d p → p < 16
next_clocks_steps_within s = (let few = s.so_far.few in let h = s.present in omega arith)

next_clock_own_time : {j : List Event} {c d : EventClocks} {p : ℕ} {k : Kind} → StepsToNextClocks j c d p → AreNextClocks c d p k
    → IsTimeOf (j ++ event p k ∷ []) p (entry d.processors.items p)
next_clock_own_time {j} {c} {d} {p} {k} s n =
    time_of_places_equal (j ++ event p k ∷ []) (InPast (j ++ event p k ∷ []) p)
    (λ q. max (entry c.processors.items p q) (next_clock_brought_at c p k q) + event_count event_closes (event p k ∷ []) q)
    (entry d.processors.items p) (λ q. omega (arith, n.own q)) (pushed_time j (event p k) (entry c.processors.items p)
    (next_clock_brought_at c p k) (s.so_far.times p (next_clocks_steps_within s)) (next_clock_brought_time j c p k s.so_far s.present))

next_clocks_times : {j : List Event} {c d : EventClocks} {p : ℕ} {k : Kind} → StepsToNextClocks j c d p → AreNextClocks c d p k → (m : ℕ)
    → m < 16 → IsTimeOf (j ++ event p k ∷ []) m (entry d.processors.items m)
next_clocks_times {j} {c} {d} {p} {k} s n m within = elim (cases_eq m p) [
  | inl is ↦ subst (λ x. IsTimeOf (j ++ event p k ∷ []) x (entry d.processors.items x)) (sym is) (next_clock_own_time s n)
  | inr isnt ↦ time_of_places_equal (j ++ event p k ∷ []) (InPast (j ++ event p k ∷ []) m) (entry c.processors.items m)
      (entry d.processors.items m) (λ q. sym (n.others m q isnt)) (pushed_time_others j (event p k ∷ []) m
      (entry c.processors.items m) (λ i f at. next_clock_one_others (event p k) f m i at (λ same. isnt (sym same)))
      (s.so_far.times m within))
]

-- an arrival joins its timestamp into what its episode keeps
next_clock_gathered_joined : {j : List Event} {c d : EventClocks} {p : ℕ} → StepsToNextClocks j c d p → AreNextClocks c d p Arrive
    → AreGatheredNextClocks (j ++ event p Arrive ∷ []) d.episodes.items c.gone
next_clock_gathered_joined {j} {c} {d} {p} s next n le = elim (cases_eq n m) [
  | inl is ↦
      (let here = next.keeps.2 (omega arith) in
      let place : n - c.gone ≡ m - c.gone = omega arith in
      let entries : (q : ℕ) → max (entry xs (n - c.gone) q) (own q) ≡ entry ys (n - c.gone) q =
      λ q. sym (subst (λ x. entry ys x q ≡ max (entry xs x q) (own q)) (sym place) (here.joined q)) in
      let old =
      subst (λ x. IsTimeIn j (InPastOfSome j (BringsFromSomeArrival j x)) (entry xs (n - c.gone))) (is ∙ number)
      (s.so_far.episodes n le) in
      subst (λ x. IsTimeIn now (InPastOfSome now (BringsFromSomeArrival now x)) (entry ys (n - c.gone))) (sym (is ∙ number))
      (time_of_places_equal now (InPastOfSome now (BringsFromSomeArrival now (event_count event_arrives j p)))
      (λ q. max (entry xs (n - c.gone) q) (own q)) (entry ys (n - c.gone)) entries
      (kept_time_arrival_joins j e (entry xs (n - c.gone)) own refl old (next_clock_own_time s next))))
  | inr isnt ↦ time_of_places_equal now (InPastOfSome now (BringsFromSomeArrival now n)) (entry xs (n - c.gone)) (entry ys (n - c.gone))
      (others isnt)
      (kept_time_other_arrivals j e n (entry xs (n - c.gone)) (λ eq. isnt (sym (number ∙ eq))) (s.so_far.episodes n le))
]
  where
    e : Event
    e = event p Arrive

    now : List Event
    now = j ++ event p Arrive ∷ []

    m : ℕ
    m = slice_index c.arrivals p

    xs : List (List ℕ)
    xs = c.episodes.items

    ys : List (List ℕ)
    ys = d.episodes.items

    own : ℕ → ℕ
    own = entry d.processors.items p

    number : m ≡ event_count event_arrives j p
    number = s.so_far.arrivals p (next_clocks_steps_within s)

    others : n ≢ m → (q : ℕ) → entry xs (n - c.gone) q ≡ entry ys (n - c.gone) q
    others isnt q = elim (cases_lt m c.gone) [
      | inl below ↦ ap (λ zs. entry zs (n - c.gone) q) (sym (next.keeps.3 below))
      | inr above ↦ (let apart : n - c.gone ≢ m - c.gone = omega arith in sym ((next.keeps.2 above).same (n - c.gone) q apart))
    ]

next_clocks_counts : (is : Kind → Bool) (j : List Event) (p q : ℕ) (k : Kind) (x y : ℕ) → y ≡ x + cond ((p == q) && is k) 1 0
    → x ≡ event_count is j q → y ≡ event_count is (j ++ event p k ∷ []) q
next_clocks_counts is j p q k x y next now =
    let sum = event_count-append is j (event p k ∷ []) q in
    omega arith

-- the kept timestamps after the event
record AreNextClocksAllKept (j : List Event) (d : EventClocks) : Type 0 where
  pub locks : AreKeptNextClocks j (λ l. Release l) (numbered_clock_at d.locks)
  pub flags : AreKeptNextClocks j (λ f. Set f) (numbered_clock_at d.flags)
  pub episodes : AreGatheredNextClocks j d.episodes.items d.gone

next_clocks_kept : {j : List Event} {c d : EventClocks} {p : ℕ} → (k : Kind) → StepsToNextClocks j c d p → AreNextClocks c d p k
    → AreNextClocksAllKept (j ++ event p k ∷ []) d
next_clocks_kept {j} {c} {d} {p} (Release l) s n = record {
  locks = next_clock_kept_joined j p (λ m. Release m) (λ m isnt same. isnt cc) (next_clock_own_time s n) n.keeps.0 s.so_far.locks;
  flags =
      next_clock_kept_same j (event p (Release l)) (λ f. Set f) (numbered_clock_at c.flags) (numbered_clock_at d.flags) (λ m same. absurd cc)
      (ap numbered_clock_at n.keeps.1) s.so_far.flags;
  episodes =
      subst (λ x. AreGatheredNextClocks (j ++ event p (Release l) ∷ []) d.episodes.items x) (sym n.gone) (next_clock_gathered_same j
      (event p (Release l)) c.episodes.items d.episodes.items c.gone (λ same. absurd cc) n.keeps.2 s.so_far.episodes);
}
next_clocks_kept {j} {c} {d} {p} (Set f) s n = record {
  locks =
      next_clock_kept_same j (event p (Set f)) (λ m. Release m) (numbered_clock_at c.locks) (numbered_clock_at d.locks) (λ m same. absurd cc)
      (ap numbered_clock_at n.keeps.0) s.so_far.locks;
  flags = next_clock_kept_joined j p (λ m. Set m) (λ m isnt same. isnt cc) (next_clock_own_time s n) n.keeps.1 s.so_far.flags;
  episodes =
      subst (λ x. AreGatheredNextClocks (j ++ event p (Set f) ∷ []) d.episodes.items x) (sym n.gone) (next_clock_gathered_same j
      (event p (Set f)) c.episodes.items d.episodes.items c.gone (λ same. absurd cc) n.keeps.2 s.so_far.episodes);
}
next_clocks_kept {j} {c} {d} {p} Arrive s n = record {
  locks =
      next_clock_kept_same j (event p Arrive) (λ m. Release m) (numbered_clock_at c.locks) (numbered_clock_at d.locks) (λ m same. absurd cc)
      (ap numbered_clock_at n.keeps.0) s.so_far.locks;
  flags =
      next_clock_kept_same j (event p Arrive) (λ f. Set f) (numbered_clock_at c.flags) (numbered_clock_at d.flags) (λ m same. absurd cc)
      (ap numbered_clock_at n.keeps.1) s.so_far.flags;
  episodes =
      subst (λ x. AreGatheredNextClocks (j ++ event p Arrive ∷ []) d.episodes.items x) (sym n.gone) (next_clock_gathered_joined s n);
}
next_clocks_kept {j} {c} {d} {p} k s n = record {
  locks =
      next_clock_kept_same j (event p k) (λ m. Release m) (numbered_clock_at c.locks) (numbered_clock_at d.locks) (λ m same. absurd cc)
      (ap numbered_clock_at n.keeps.0) s.so_far.locks;
  flags =
      next_clock_kept_same j (event p k) (λ f. Set f) (numbered_clock_at c.flags) (numbered_clock_at d.flags) (λ m same. absurd cc)
      (ap numbered_clock_at n.keeps.1) s.so_far.flags;
  episodes =
      subst (λ x. AreGatheredNextClocks (j ++ event p k ∷ []) d.episodes.items x) (sym n.gone)
      (next_clock_gathered_same j (event p k) c.episodes.items d.episodes.items c.gone (λ same. absurd cc) n.keeps.2 s.so_far.episodes);
}

-- after the event the timestamps are those of the journal with it
next_clocks : {j : List Event} {c d : EventClocks} {p : ℕ} {k : Kind} → StepsToNextClocks j c d p → AreNextClocks c d p k
    → AreClocks (j ++ event p k ∷ []) d
next_clocks {j} {c} {d} {p} {k} s n =
    let a = s.so_far in
    let few = a.few in
    let kept = next_clocks_kept k s n in
    record {
      long = s.long ∙ a.long;
      few = (let same = n.present in omega arith);
      left =
          λ q within. (let old = a.left q (let same = n.present in omega arith) in let rise = n.departures q in
          let gone = n.gone in omega arith);
      times = next_clocks_times s n;
      locks = kept.locks;
      flags = kept.flags;
      episodes = kept.episodes;
      arrivals =
          λ q within. next_clocks_counts event_arrives j p q k (slice_index c.arrivals q) (slice_index d.arrivals q)
          (n.arrivals q) (a.arrivals q within);
      departures =
          λ q within. next_clocks_counts event_departs j p q k (slice_index c.departures q) (slice_index d.departures q)
          (n.departures q) (a.departures q within);
    }

next_clock_no_arrive : (k : Kind) → event_closes k ≡ false → event_arrives k ≡ false
next_clock_no_arrive Arrive h = absurd cc
next_clock_no_arrive _ h = refl

next_clock_no_depart : (k : Kind) → event_takes k ≡ false → event_departs k ≡ false
next_clock_no_depart Depart h = absurd cc
next_clock_no_depart _ h = refl

-- what closes takes nothing
next_clocks_closing_brings_nothing : (c : EventClocks) (p : ℕ) (k : Kind) → event_closes k ≡ true → (q : ℕ) → next_clock_brought_at c p k q ≡ 0
next_clocks_closing_brings_nothing c p (Acquire l) h q = absurd cc
next_clocks_closing_brings_nothing c p (Await f) h q = absurd cc
next_clocks_closing_brings_nothing c p Depart h q = absurd cc
next_clocks_closing_brings_nothing c p _ h q = refl

next_clocks_closing_no_depart : (k : Kind) → event_closes k ≡ true → event_departs k ≡ false
next_clocks_closing_no_depart Depart h = absurd cc
next_clocks_closing_no_depart _ h = refl

-- after an event that neither takes nor closes they are as before
pub next_clocks_plain : (j : List Event) (e : Event) (c : EventClocks) → event_takes e.kind ≡ false → event_closes e.kind ≡ false
    → AreClocks j c → AreClocks (j ++ e ∷ []) c
next_clocks_plain j e c takes closes a = record {
  long = a.long;
  few = a.few;
  left = a.left;
  times = times;
  locks =
      next_clock_kept_same j e (λ l. Release l) (numbered_clock_at c.locks) (numbered_clock_at c.locks)
      (λ l same. absurd (cc (closes, ap (λ k. event_closes k) same))) refl a.locks;
  flags =
      next_clock_kept_same j e (λ f. Set f) (numbered_clock_at c.flags) (numbered_clock_at c.flags)
      (λ f same. absurd (cc (closes, ap (λ k. event_closes k) same))) refl a.flags;
  episodes =
      next_clock_gathered_same j e c.episodes.items c.episodes.items c.gone
      (λ same. absurd (cc (closes, ap (λ k. event_closes k) same))) refl a.episodes;
  arrivals =
      λ q h. (let none = none_of event_arrives q (next_clock_no_arrive e.kind closes) in
      let sum = event_count-append event_arrives j (e ∷ []) q in let now = a.arrivals q h in omega arith);
  departures =
      λ q h. (let none = none_of event_departs q (next_clock_no_depart e.kind takes) in
      let sum = event_count-append event_departs j (e ∷ []) q in let now = a.departures q h in omega arith);
}
  where
    none_of : (is : Kind → Bool) (q : ℕ) → is e.kind ≡ false → event_count is (e ∷ []) q ≡ 0
    none_of is q no_one = elim (time_of_places_one_event is e q) [ inl none ↦ none | inr one ↦ absurd (cc (no_one, one.1)) ]

    times : (p : ℕ) → p < 16 → IsTimeOf (j ++ e ∷ []) p (entry c.processors.items p)
    times p h = elim (cases_eq p e.processor) [
      | inl is ↦ subst (λ x. IsTimeOf (j ++ e ∷ []) x (entry c.processors.items x)) (sym is) (pushed_time_own_quiet j e
          (entry c.processors.items e.processor) takes closes (a.times e.processor (subst (λ x. x < 16) is h)))
      | inr isnt ↦ pushed_time_others j (e ∷ []) p (entry c.processors.items p)
          (λ i f at. next_clock_one_others e f p i at (λ same. isnt (sym same))) (a.times p h)
    ]

-- the front of a journal with the event at its end
pub next_clocks_front : (events : List Event) (place : ℕ) (e : Event) → EventAt events place e
    → take (place + 1) events ≡ take place events ++ e ∷ []
next_clocks_front events place e at = ap (λ n. take n events) (add-one place) ∙ slice_take-suc_at events place e at

-- there is room for one more in its own entry
pub next_clock_own_room : (j : List Event) (c : EventClocks) (p : ℕ) → p < c.present → length j < 2 ^ 22 → AreClocks j c
    → entry c.processors.items p p < 2 ^ 22
next_clock_own_room j c p h few a =
    let few_processors = a.few in
    let small = next_clock_time_small j (InPast j p) (entry c.processors.items p) p (a.times p (omega arith)) in
    omega arith

-- the timestamps after an event that closes p's interval, without meeting anybody
pub next_clocks_closed : {j : List Event} {c d : EventClocks} {p : ℕ} → (k : Kind) → event_closes k ≡ true → event_arrives k ≡ false
    → StepsToNextClocks j c d p → d ≡ record c { processors = d.processors; locks = d.locks; flags = d.flags }
    → ClockEntryClosedAt (entry c.processors.items) (entry d.processors.items) p
    → KeepsNextClocks c d.locks d.flags c.episodes.items p (entry d.processors.items p) k
    → AreClocks (j ++ event p k ∷ []) d
next_clocks_closed {j} {c} {d} {p} k closes stays s rest closed keeps =
    next_clocks s (record {
      present = ap (λ x. x.present) rest;
      gone = ap (λ x. x.gone) rest;
      own =
          λ q. (let one_more = closed.own q in let none = next_clocks_closing_brings_nothing c p k closes q in
          let one = next_race_cond_and_true (p == q) (event_closes k) closes in omega arith);
      others = closed.same;
      keeps =
          subst (λ es. KeepsNextClocks c d.locks d.flags es p (entry d.processors.items p) k)
          (sym (ap (λ x. x.episodes.items) rest)) keeps;
      arrivals =
          λ q. (let none = next_race_cond_and_false (p == q) (event_arrives k) stays in
          let same = ap (λ x. slice_index x.arrivals q) rest in omega arith);
      departures =
          λ q. (let none = next_race_cond_and_false (p == q) (event_departs k) (next_clocks_closing_no_depart k closes) in
          let same = ap (λ x. slice_index x.departures q) rest in omega arith);
    })

-- after an event that takes what a lock or a flag keeps
pub next_clocks_taken : {j : List Event} {c d : EventClocks} {p : ℕ} → (k : Kind) → event_closes k ≡ false → event_departs k ≡ false
    → StepsToNextClocks j c d p → d ≡ record c { processors = d.processors }
    → ClockEntryJoinedAt (entry c.processors.items) (entry d.processors.items) p (next_clock_brought_at c p k)
    → KeepsNextClocks c d.locks d.flags d.episodes.items p (entry d.processors.items p) k
    → AreClocks (j ++ event p k ∷ []) d
next_clocks_taken {j} {c} {d} {p} k closes goes s rest joined keeps =
    next_clocks s (record {
      present = ap (λ x. x.present) rest;
      gone = ap (λ x. x.gone) rest;
      own =
          λ q. (let most = joined.joined q in let none = next_race_cond_and_false (p == q) (event_closes k) closes in omega arith);
      others = joined.same;
      keeps = keeps;
      arrivals =
          λ q. (let none = next_race_cond_and_false (p == q) (event_arrives k) (next_clock_no_arrive k closes) in
          let same = ap (λ x. slice_index x.arrivals q) rest in omega arith);
      departures =
          λ q. (let none = next_race_cond_and_false (p == q) (event_departs k) goes in
          let same = ap (λ x. slice_index x.departures q) rest in omega arith);
    })

-- after an arrival
pub next_clocks_arrived : {j : List Event} {c d : EventClocks} {p : ℕ} → StepsToNextClocks j c d p
    → d ≡ record c { processors = d.processors; episodes = d.episodes; arrivals = d.arrivals }
    → ClockEntryClosedAt (entry c.processors.items) (entry d.processors.items) p
    → ClocksAfterArrival c d p → AreClocks (j ++ event p Arrive ∷ []) d
next_clocks_arrived {j} {c} {d} {p} s rest closed arrived =
    next_clocks s (record {
      present = ap (λ x. x.present) rest;
      gone = ap (λ x. x.gone) rest;
      own = λ q. (let one_more = closed.own q in let one = next_race_cond_and_true (p == q) true refl in omega arith);
      others = closed.same;
      keeps = (ap (λ x. x.locks) rest, ap (λ x. x.flags) rest, arrived.joined, arrived.gone);
      arrivals = λ q. (let one = next_race_cond_and_true (p == q) true refl in let count = arrived.counted q in omega arith);
      departures =
          λ q. (let none = next_race_cond_and_false (p == q) false refl in
          let same = ap (λ x. slice_index x.departures q) rest in omega arith);
    })

-- after a departure
pub next_clocks_departed : {j : List Event} {c d : EventClocks} {p : ℕ} → StepsToNextClocks j c d p
    → d ≡ record c { processors = d.processors; departures = d.departures }
    → ClockEntryJoinedAt (entry c.processors.items) (entry d.processors.items) p (next_clock_brought_at c p Depart)
    → ((q : ℕ) → slice_index d.departures q ≡ slice_index c.departures q + cond (p == q) 1 0)
    → AreClocks (j ++ event p Depart ∷ []) d
next_clocks_departed {j} {c} {d} {p} s rest joined counted =
    next_clocks s (record {
      present = ap (λ x. x.present) rest;
      gone = ap (λ x. x.gone) rest;
      own = λ q. (let most = joined.joined q in let none = next_race_cond_and_false (p == q) false refl in omega arith);
      others = joined.same;
      keeps = (ap (λ x. x.locks) rest, ap (λ x. x.flags) rest, ap (λ x. x.episodes.items) rest);
      arrivals =
          λ q. (let none = next_race_cond_and_false (p == q) false refl in
          let same = ap (λ x. slice_index x.arrivals q) rest in omega arith);
      departures = λ q. (let one = next_race_cond_and_true (p == q) true refl in let count = counted q in omega arith);
    })

-- d is c without some of the episodes that every processor has departed from
pub record NextClocksLetGo (c d : EventClocks) : Type 0 where
  pub processors : d.processors ≡ c.processors
  pub locks : d.locks ≡ c.locks
  pub flags : d.flags ≡ c.flags
  pub arrivals : d.arrivals ≡ c.arrivals
  pub departures : d.departures ≡ c.departures
  pub present : d.present ≡ c.present
  pub left : (p : ℕ) → p < c.present → c.gone ≤ slice_index c.departures p → d.gone ≤ slice_index c.departures p
  pub episodes : (n q : ℕ) → d.gone ≤ n
      → (c.gone ≤ n) × (entry d.episodes.items (n - d.gone) q ≡ entry c.episodes.items (n - c.gone) q)

pub next_clocks_let_go : {j : List Event} {c d : EventClocks} → AreClocks j c → NextClocksLetGo c d → AreClocks j d
next_clocks_let_go {j} {c} {d} a go = record {
  long = ap (λ v. vec_len v) go.processors ∙ a.long;
  few = (let few = a.few in let present = go.present in omega arith);
  times = λ p h. subst (λ v. IsTimeOf j p (entry v.items p)) (sym go.processors) (a.times p h);
  locks = λ l. subst (λ v. IsTimeIn j (InPastOfSome j (BringsFromKind j (Release l))) (numbered_clock_at v l)) (sym go.locks) (a.locks l);
  flags = λ f. subst (λ v. IsTimeIn j (InPastOfSome j (BringsFromKind j (Set f))) (numbered_clock_at v f)) (sym go.flags) (a.flags f);
  episodes =
      λ n le. time_of_places_equal j (InPastOfSome j (BringsFromSomeArrival j n)) (entry c.episodes.items (n - c.gone))
      (entry d.episodes.items (n - d.gone)) (λ q. sym (go.episodes n q le).1) (a.episodes n (go.episodes n 0 le).0);
  left =
      λ p h. (let present = go.present in subst (λ xs. d.gone ≤ slice_index xs p) (sym go.departures)
      (go.left p (omega arith) (a.left p (omega arith))));
  arrivals = λ p h. ap (λ xs. slice_index xs p) go.arrivals ∙ a.arrivals p h;
  departures = λ p h. ap (λ xs. slice_index xs p) go.departures ∙ a.departures p h;
}
