-- Which of a processor's events an event reaches first, and how a way goes on from there.
-- The cut after an event of q has p's event i exactly where i is up to that event (`reached_path_taken_tells`). What another's
-- event reaches first of q is one that takes (`reached_path_taking_before`), so the first cut that has it is that event's.
-- It is reached by its news alone: by an event of q it would not be the first.
use Rattle.std.proofs.Common.{◌≡◌, ◌≢◌, ℕ, ◌+◌, ◌-◌, ◌<◌, ◌≤◌, inl, inr, ◌↔◌, IsTrue, List, [], ◌∷◌, ◌++◌, Some, length, take, slice_get, slice_index, zero, suc, subst, sym, refl, ap, ◌∙◌, length-append, arith}
use Rattle.std.proofs.lemmas.Bool.{cases_eq, cases_lt}
use Rattle.std.proofs.lemmas.List.{length-take-le}
use Rattle.std.proofs.lemmas.Option.{same_Some, slice_get_within}
use Rattle.base.specs.InOrderOnce.{InOrder}
use Rattle.base.proofs.SlicesAndCounts.{slice_push_cases, slice_get-append_left, slice_get-from_take, slice_get-last, slice_get-take, slice_get-take_within}
use Rattle.journal.specs.declared.event.Event.{Event}
use Rattle.journal.specs.declared.event.Kind.{Kind}
use Rattle.journal.specs.declared.event.Kind.TheVariants.{Acquire, Release, Set, Await}
use Rattle.journal.specs.DidEvent.{event}
use Rattle.journal.specs.Events.{event_takes}
use Rattle.journal.specs.HappensBeforeEdges.{Edge, HappensBefore, LetsThrough, Link, same, lets, meets}
use Rattle.journal.specs.Pasts.{InPast, UpTo}
use Rattle.judge.specs.Cuts.{IsCutOf}
use Rattle.journal.specs.WellFormed.{Does}
use Rattle.journal.proofs.Order.EventPlacesAndCounts.{event_place_same, event_place_inside, event_place_does, event_place_does_same}
use Rattle.journal.proofs.Order.HappensBefore.{happens_before_goes_forward}
use Rattle.journal.proofs.Order.IntoPast.{into_past_last_step, into_past_up_to_back}
use Rattle.journal.proofs.Times.LeavingCloses.{leaving_closes_own_order}
use Rattle.causes.specs.declared.taking_events.Taking.{Taking}
use Rattle.causes.specs.Edges.{EdgeFromOther}
use Rattle.causes.specs.News.{IsNews}
use Rattle.causes.specs.TakingEvents.{AreTakingEvents, IsFirstTakingEventAbove, IsTakingEvent, NoTakingEventAbove}
use Rattle.causes.specs.Paths.{IsPathEntry, IsPathWay}
use Rattle.causes.proofs.FreshNews.{fresh_news_from_front, fresh_news_in_front}

-- what is up to a place doesn't stand behind it
pub reached_path_up_to_le : (j : List Event) (k i : ℕ) → UpTo j k i → i ≤ k
reached_path_up_to_le j k i (inl is) = omega arith
reached_path_up_to_le j k i (inr h) = let lt : i < k = happens_before_goes_forward j h in omega arith

-- what is up to something is up to what that is up to
pub reached_path_up_to_longer : (j : List Event) (i m k : ℕ) → UpTo j m i → UpTo j k m → UpTo j k i
reached_path_up_to_longer j i m k (inl is) up = subst (λ n. UpTo j k n) (sym is) up
reached_path_up_to_longer j i m k (inr h) up = into_past_up_to_back j i m k h up

-- at place i p does something, and at place k another processor, q
pub record AreReachedPathEnds (j : List Event) (p i q k : ℕ) : Type 0 where
  pub first : Kind
  pub does : Does j i p first
  pub second : Kind
  pub did : Does j k q second
  pub apart : p ≢ q

-- what is up to an event of q is up to each later one of q
pub reached_path_up_to_own : {a b : Kind} (j : List Event) (q i k m : ℕ) → Does j k q a → Does j m q b → k ≤ m → UpTo j k i
    → UpTo j m i
reached_path_up_to_own {a} {b} j q i k m one two le up = elim (cases_eq k m) [
  | inl is ↦ subst (λ n. UpTo j n i) is up
  | inr isnt ↦ reached_path_up_to_longer j i k m up (inr (leaving_closes_own_order j q k m a b one two (omega arith)))
]

-- after its event at place m, q's cut has p's event at place i exactly where that is up to place m
pub reached_path_taken_tells : {j : List Event} {p i q m : ℕ} {t : ℕ → ℕ} → AreReachedPathEnds j p i q m
    → IsCutOf (take (m + 1) j) q t → UpTo j m i ↔ (i < t p)
reached_path_taken_tells {j} {p} {i} {q} {m} {t} two cut = (there, back)
  where
    a : Kind
    a = two.first

    b : Kind
    b = two.second

    does : Does j i p a
    does = two.does

    at : Does j m q b
    at = two.did

    apart : p ≢ q
    apart = two.apart

    within : m < length j
    within = event_place_inside j m (event q b) at

    there : UpTo j m i → i < t p
    there (inl is) = absurd (apart (event_place_does_same j m p q a b (subst (λ n. Does j n p a) is does) at).0)
    there (inr h) =
        let lt : i < m = happens_before_goes_forward j h in
        let inside = within in
        let past : InPast (take (m + 1) j) q i =
        record {
          own = m;
          event = event q b;
          at = slice_get-take j (m + 1) m (omega arith) ∙ at;
          mine = refl;
          reaches = inr (fresh_news_in_front j (m + 1) i m (omega arith) (omega arith) h);
        } in
        (cut.covers i (event p a) (slice_get-take j (m + 1) i (omega arith) ∙ does) apart).0 past

    up_front : (k : ℕ) → UpTo (take (m + 1) j) k i → UpTo j k i
    up_front k (inl is) = inl is
    up_front k (inr h) = inr (fresh_news_from_front j (m + 1) i k h)

    from_past : InPast (take (m + 1) j) q i → UpTo j m i
    from_past x =
        let lt = slice_get-take_within j (m + 1) x.own x.event x.at in
        let there = slice_get-from_take j (m + 1) x.own x.event x.at in
        reached_path_up_to_own j q i x.own m (event_place_does j x.own q x.event there x.mine) at (omega arith)
        (up_front x.own x.reaches)

    back : i < t p → UpTo j m i
    back lt =
        let top = cut.within p in
        let long = length-take-le (m + 1) j (let inside = within in omega arith) in
        from_past ((cut.covers i (event p a) (slice_get-take j (m + 1) i (omega arith) ∙ does) apart).1 lt)

reached_path_lets_takes : (a b : Kind) → LetsThrough a b → IsTrue (event_takes b)
reached_path_lets_takes (Release l) (Acquire m) h = refl
reached_path_lets_takes (Set f) (Await g) h = refl
reached_path_lets_takes _ _ h = absurd h

-- an edge from another processor leads to an event that takes
reached_path_link_takes : (j : List Event) (i k : ℕ) (e f : Event) → Link j i k e f → e.processor ≢ f.processor
    → IsTrue (event_takes f.kind)
reached_path_link_takes j i k e f (same s) apart = absurd (apart s)
reached_path_link_takes j i k e f (lets l) apart = reached_path_lets_takes e.kind f.kind l
reached_path_link_takes j i k e f (meets m) apart = rw m.departs refl

-- an event of q that takes, up to place k, to which place i is
pub record ReachedPathTakingBefore (j : List Event) (q i k : ℕ) : Type 0 where
  pub place : ℕ
  pub within : place ≤ k
  pub kind : Kind
  pub does : Does j place q kind
  pub takes : IsTrue (event_takes kind)
  pub reached : UpTo j place i

-- what is up to another's event happens before it
reached_path_before : {j : List Event} {p i q k : ℕ} → AreReachedPathEnds j p i q k → UpTo j k i → HappensBefore j i k
reached_path_before {j} {p} {i} {q} {k} two (inl is) =
    absurd (two.apart (event_place_does_same j k p q two.first two.second
    (subst (λ n. Does j n p two.first) is two.does) two.did).0)
reached_path_before {j} {p} {i} {q} {k} two (inr h) = h

reached_path_taking_within : (j : List Event) (n p i q k : ℕ) → k < n → AreReachedPathEnds j p i q k → HappensBefore j i k
    → ReachedPathTakingBefore j q i k
reached_path_taking_within j zero p i q k lt two h = absurd (omega arith)
reached_path_taking_within j (suc n) p i q k lt two h =
    let s = into_past_last_step j i k h in
    let l = s.0 in
    let d = s.2 in
    let before = d.before in
    let into : d.to ≡ event q two.second = event_place_same j k d.to (event q two.second) d.to_at two.did in
    let to_mine : d.to.processor ≡ q = ap (λ (e : Event). e.processor) into in
    let to_kind : d.to.kind ≡ two.second = ap (λ (e : Event). e.kind) into in
    elim (cases_eq d.from.processor q) [
      | inl is ↦
          (let one : AreReachedPathEnds j p i q l = record {
            first = two.first;
            does = two.does;
            second = d.from.kind;
            did = event_place_does j l q d.from d.from_at is;
            apart = two.apart;
          } in
          let t = reached_path_taking_within j n p i q l (omega arith) one (reached_path_before one s.1) in
          let le = t.within in
          record {
            place = t.place;
            within = omega arith;
            kind = t.kind;
            does = t.does;
            takes = t.takes;
            reached = t.reached;
          })
      | inr isnt ↦
          record {
            place = k;
            within = omega arith;
            kind = two.second;
            does = two.did;
            takes = subst (λ c. IsTrue (event_takes c)) to_kind
                (reached_path_link_takes j l k d.from d.to d.link (λ s. isnt (s ∙ to_mine)));
            reached = inr h;
          }
    ]

-- where another's event is up to one of q, there is such an event
pub reached_path_taking_before : {j : List Event} {p i q k : ℕ} → AreReachedPathEnds j p i q k → UpTo j k i → ReachedPathTakingBefore j q i k
reached_path_taking_before {j} {p} {i} {q} {k} two up =
    reached_path_taking_within j (suc k) p i q k (omega arith) two (reached_path_before two up)

-- of its own processor's events, an event reaches itself first
pub reached_path_first_own : (j : List Event) (p i : ℕ) (a : Kind) → Does j i p a → IsPathEntry j i p i
reached_path_first_own j p i a does = record {
  kind = a;
  does = does;
  reached = inl refl;
  first = λ k b lt at up. (let le = reached_path_up_to_le j k i up in absurd (omega arith));
}

-- p does something at place i, and these are the events below place n that take of another one, q
pub record ReachedPathTakesBesides (j : List Event) (p i q n : ℕ) (takings : List Taking) : Type 0 where
  pub kind : Kind
  pub does : Does j i p kind
  pub apart : p ≢ q
  pub are : AreTakingEvents j q n takings

-- p's event, and one of q
reached_path_beside : {j : List Event} {p i q n : ℕ} {takings : List Taking} (k : ℕ) (b : Kind)
    → ReachedPathTakesBesides j p i q n takings → Does j k q b → AreReachedPathEnds j p i q k
reached_path_beside {j} {p} {i} {q} {n} {takings} k b x at =
    record { first = x.kind; does = x.does; second = b; did = at; apart = x.apart }

-- the cut after an event of q that takes has p's event exactly where that is up to it
reached_path_taking_tells : {j : List Event} {p i q n : ℕ} {takings : List Taking} (y : Taking)
    → ReachedPathTakesBesides j p i q n takings → IsTakingEvent j q n y → UpTo j y.place i ↔ (i < slice_index y.after.items p)
reached_path_taking_tells {j} {p} {i} {q} {n} {takings} y x is =
    reached_path_taken_tells (reached_path_beside y.place is.kind x is.does) is.after

-- the cuts of takings that don't have p's event stand in front
pub reached_path_parted : {j : List Event} {p i q n : ℕ} {takings : List Taking} → ReachedPathTakesBesides j p i q n takings
    → InOrder (λ (x y : Taking). slice_index y.after.items p ≤ i → slice_index x.after.items p ≤ i) takings
reached_path_parted {j} {p} {i} {q} {n} {takings} besides k m x y lt at to le =
    elim (cases_lt i (slice_index x.after.items p)) [
      | inl above ↦
          (let one = besides.are.each k x at in
          let two = besides.are.each m y to in
          let rises = besides.are.rising k m x y lt at to in
          let up = (reached_path_taking_tells x besides one).1 above in
          let more =
          (reached_path_taking_tells y besides two).0
          (reached_path_up_to_own j q i x.place y.place one.does two.does (omega arith) up) in
          absurd (omega arith))
      | inr within ↦ within
    ]

-- where no cut has it, it reaches none of q's events
pub reached_path_none : {j : List Event} {p i q : ℕ} {takings : List Taking}
    → ReachedPathTakesBesides j p i q (length j) takings → NoTakingEventAbove takings p i
    → (k : ℕ) (b : Kind) → Does j k q b → ¬ UpTo j k i
reached_path_none {j} {p} {i} {q} {takings} besides none k b at up =
    let t = reached_path_taking_before (reached_path_beside k b besides at) up in
    let w = besides.are.all t.place t.kind (event_place_inside j t.place (event q t.kind) t.does) t.does t.takes in
    let le = none w.0 w.1 w.2 in
    let more =
    (reached_path_taking_tells w.1 besides (besides.are.each w.0 w.1 w.2)).0
    (subst (λ n. UpTo j n i) (sym w.3) t.reached) in
    omega arith

-- the first one that has it is that after the first event that it reaches
pub reached_path_first : {j : List Event} {p i q m : ℕ} {takings : List Taking}
    → ReachedPathTakesBesides j p i q (length j) takings → IsFirstTakingEventAbove takings p i m → IsPathEntry j i q m
reached_path_first {j} {p} {i} {q} {m} {takings} besides found =
    subst (IsPathEntry j i q) found.place_is
    (record { kind = here.kind; does = here.does; reached = reached; first = first })
  where
    are : AreTakingEvents j q (length j) takings
    are = besides.are

    x : Taking
    x = found.taking

    here : IsTakingEvent j q (length j) x
    here = are.each found.index x found.at

    reached : UpTo j x.place i
    reached = (reached_path_taking_tells x besides here).1 found.above

    first : (k : ℕ) (b : Kind) → k < x.place → Does j k q b → ¬ UpTo j k i
    first k b lt at up =
        let t = reached_path_taking_before (reached_path_beside k b besides at) up in
        let w = are.all t.place t.kind (event_place_inside j t.place (event q t.kind) t.does) t.does t.takes in
        let y = w.1 in
        let place : y.place ≡ t.place = w.3 in
        let le = t.within in
        let more =
        (reached_path_taking_tells y besides (are.each w.0 y w.2)).0 (subst (λ n. UpTo j n i) (sym w.3) t.reached) in
        elim (cases_lt w.0 found.index) [
          | inl before ↦ (let under = found.below w.0 y before w.2 in omega arith)
          | inr behind ↦ elim (cases_eq w.0 found.index) [
            | inl one ↦
                (let both : y ≡ x = same_Some y x (sym w.2 ∙ ap (slice_get takings) one ∙ found.at) in
                let places = ap (λ (z : Taking). z.place) both in
                omega arith)
            | inr isnt ↦ (let rises = are.rising found.index w.0 x y (omega arith) found.at w.2 in omega arith)
          ]
        ]

-- it reaches that event of q and those behind
pub reached_path_from : (j : List Event) (q i m k : ℕ) (b : Kind) → IsPathEntry j i q m → Does j k q b
    → (m ≤ k) ↔ UpTo j k i
reached_path_from j q i m k b first at = (
  λ le. reached_path_up_to_own j q i m k first.does at le first.reached,
  λ up. elim (cases_lt k m) [ inl lt ↦ absurd (first.first k b lt at up) | inr le ↦ le ],
)

-- where it reaches none of the news of q's first event that it reaches, it is that event
pub reached_path_none_enters : (j : List Event) (q i k : ℕ) → IsPathEntry j i q k → ((n : ℕ) → IsNews j n k → ¬ UpTo j n i)
    → k ≡ i
reached_path_none_enters j q i k first none = go first.reached
  where
    into : (l : ℕ) → UpTo j l i → (d : Edge j l k) → ⊥
    into l up d =
        let to = event_place_same j k d.to (event q first.kind) d.to_at first.does in
        let mine : d.to.processor ≡ q = ap (λ (e : Event). e.processor) to in
        elim (cases_eq d.from.processor q) [
          | inl is ↦ first.first l d.from.kind d.before (event_place_does j l q d.from d.from_at is) up
          | inr isnt ↦
              (let leads : EdgeFromOther j l k = record { edge = d; apart = λ s. isnt (s ∙ mine) } in
              let news : IsNews j l k = record {
                leads = leads;
                first = λ m f lt at own h.
                    first.first m f.kind lt (event_place_does j m q f at (own ∙ mine)) (reached_path_up_to_longer j i l m up (inr h));
              } in
              none l news up)
        ]

    go : UpTo j k i → k ≡ i
    go (inl is) = sym is
    go (inr h) = let s = into_past_last_step j i k h in absurd (into s.0 s.1 s.2)

-- a way goes on by an edge
pub reached_path_way_longer : (j : List Event) (i m k : ℕ) (places : List ℕ) → IsPathWay j i m places → Edge j m k
    → IsPathWay j i k (places ++ k ∷ [])
reached_path_way_longer j i m k places way d = record { first = first; last = last; steps = steps }
  where
    some : 0 < length places
    some = slice_get_within places 0 i way.first

    first : slice_get (places ++ k ∷ []) 0 ≡ Some i
    first = slice_get-append_left places (k ∷ []) 0 some ∙ way.first

    last : slice_get (places ++ k ∷ []) (length (places ++ k ∷ []) - 1) ≡ Some k
    last =
        let long = length-append places (k ∷ []) in
        let is : length (places ++ k ∷ []) - 1 ≡ length places = omega arith in
        ap (slice_get (places ++ k ∷ [])) is ∙ slice_get-last places k

    steps : (n a b : ℕ) → slice_get (places ++ k ∷ []) n ≡ Some a → slice_get (places ++ k ∷ []) (n + 1) ≡ Some b
        → Edge j a b
    steps n a b at to = elim (slice_push_cases places k (n + 1) b to) [
      | inl old ↦
          (let lt = old.0 in
          way.steps n a b (sym (slice_get-append_left places (k ∷ []) n (omega arith)) ∙ at) old.1)
      | inr new ↦
          (let end = new.0 in
          let is : length places - 1 ≡ n = omega arith in
          let here : slice_get places n ≡ Some a =
          sym (slice_get-append_left places (k ∷ []) n (omega arith)) ∙ at in
          let from : m ≡ a = same_Some m a (sym way.last ∙ ap (slice_get places) is ∙ here) in
          subst (λ y. Edge j a y) new.1 (subst (λ x. Edge j x k) from d))
    ]
