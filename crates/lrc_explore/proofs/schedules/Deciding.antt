-- Whether an event may come next is decided by going through the events so far.
use Rattle.std.proofs.Common.{ℕ, zero, suc, ◌≡◌, ◌≢◌, ◌+◌, ◌<◌, ◌≤◌, ◌⊎◌, inl, inr, List, length, Option, Some, slice_get, refl, sym, ap, ap₂, subst, ◌∙◌, arith}
use Rattle.std.specs.Prelude.{None}
use Rattle.std.proofs.lemmas.Bool.{cases_eq, cases_lt}
use Rattle.std.proofs.lemmas.Option.{none-some, same_Some}
use Rattle.journal.specs.declared.event.Event.{Event}
use Rattle.journal.specs.declared.event.Kind.{Kind}
use Rattle.journal.specs.declared.event.Kind.TheVariants.{Load, Store, Fetch, Ask, Acquire, Release, Arrive, Depart, Set, Watch, Await}
use Rattle.journal.specs.DidEvent.{event}
use Rattle.journal.specs.Events.{EventAt, event_count, event_arrives, event_departs}
use Rattle.journal.specs.Sizes.{Sizes, addresses}
use Rattle.journal.specs.WellFormed.{WellFormedAllArrived, WellFormedAllows, WellFormedAnswer, Does, Holds, WellFormedKindInRange, LastIs, WellFormedGrant, WellFormedNext}
use Rattle.journal.proofs.Order.EventPlacesAndCounts.{event_place_inside}

-- it is so, or it isn't
abbrev pub Decided : Type 0 → Type 0
Decided P = P ⊎ (¬ P)

-- what is decided of one thing is decided of another that is so exactly then
schedule_decided_moved : {A B : Type 0} → (A → B) → (B → A) → Decided A → Decided B
schedule_decided_moved there back (inl a) = inl (there a)
schedule_decided_moved there back (inr none) = inr (λ b. none (back b))

decided_not : {A : Type 0} → Decided A → Decided (¬ A)
decided_not (inl a) = inr (λ none. none a)
decided_not (inr none) = inl none

pub decided_and : {A B : Type 0} → Decided A → Decided B → Decided (A × B)
decided_and (inl a) (inl b) = inl (a, b)
decided_and (inr none) other = inr (λ both. none both.0)
decided_and (inl a) (inr none) = inr (λ both. none both.1)

decided_if : {A B : Type 0} → Decided A → Decided B → Decided (A → B)
decided_if (inr none) other = inl (λ a. absurd (none a))
decided_if (inl a) (inl b) = inl (λ _. b)
decided_if (inl a) (inr none) = inr (λ f. none (f a))

decided_lt : (a b : ℕ) → Decided (a < b)
decided_lt a b = elim (cases_lt a b) [ inl lt ↦ inl lt | inr le ↦ inr (λ lt. absurd (omega (arith, le, lt))) ]

decided_le : (a b : ℕ) → Decided (a ≤ b)
decided_le a b = schedule_decided_moved (λ (lt : a < suc b). omega (arith, lt)) (λ le. omega (arith, le)) (decided_lt a (suc b))

-- of all numbers below one, and of some number below it
module _ (P : ℕ → Type 0) (each : (i : ℕ) → Decided (P i)) where
  pub decided_all : (n : ℕ) → Decided ((i : ℕ) → i < n → P i)
  decided_all zero = inl (λ i lt. absurd (omega (arith, lt)))
  decided_all (suc n) =
      schedule_decided_moved (λ (both : P n × ((i : ℕ) → i < n → P i)). λ i lt. elim (cases_eq i n) [
        | inl is ↦ subst P (sym is) both.0
        | inr isnt ↦ both.1 i (omega (arith, lt, isnt))
      ]) (λ all. (all n (omega arith), λ i lt. all i (omega (arith, lt)))) (decided_and (each n) (decided_all n))

  pub decided_some : (n : ℕ) → Decided ((i : ℕ) × (i < n) × P i)
  decided_some zero = inr (λ some. absurd (let lt = some.1 in omega (arith, lt)))
  decided_some (suc n) = go (each n) (decided_some n)
    where
      go : Decided (P n) → Decided ((i : ℕ) × (i < n) × P i) → Decided ((i : ℕ) × (i < suc n) × P i)
      go (inl mine) before = inl (n, omega arith, mine)
      go (inr none) (inl some) = inl (some.0, (let lt = some.1 in omega (arith, lt)), some.2)
      go (inr none) (inr nobody) = inr (λ some. elim (cases_eq some.0 n) [
        | inl is ↦ none (subst P is some.2)
        | inr isnt ↦ nobody (some.0, (let lt = some.1 in omega (arith, lt, isnt)), some.2)
      ])

-- whether a kind is this one
schedule_decided_is_ask : (l : ℕ) (k : Kind) → Decided (k ≡ Ask l)
schedule_decided_is_ask l (Ask m) = schedule_decided_moved (λ is. ap Ask is) (λ is. cc) (cases_eq m l)
schedule_decided_is_ask l _ = inr (λ is. absurd cc)

schedule_decided_is_acquire : (l : ℕ) (k : Kind) → Decided (k ≡ Acquire l)
schedule_decided_is_acquire l (Acquire m) = schedule_decided_moved (λ is. ap Acquire is) (λ is. cc) (cases_eq m l)
schedule_decided_is_acquire l _ = inr (λ is. absurd cc)

schedule_decided_is_release : (l : ℕ) (k : Kind) → Decided (k ≡ Release l)
schedule_decided_is_release l (Release m) = schedule_decided_moved (λ is. ap Release is) (λ is. cc) (cases_eq m l)
schedule_decided_is_release l _ = inr (λ is. absurd cc)

schedule_decided_is_arrival : (k : Kind) → Decided (k ≡ Arrive)
schedule_decided_is_arrival Arrive = inl refl
schedule_decided_is_arrival _ = inr (λ is. absurd cc)

schedule_decided_is_departure : (k : Kind) → Decided (k ≡ Depart)
schedule_decided_is_departure Depart = inl refl
schedule_decided_is_departure _ = inr (λ is. absurd cc)

schedule_decided_is_set : (f : ℕ) (k : Kind) → Decided (k ≡ Set f)
schedule_decided_is_set f (Set g) = schedule_decided_moved (λ is. ap Set is) (λ is. cc) (cases_eq g f)
schedule_decided_is_set f _ = inr (λ is. absurd cc)

schedule_decided_is_watch : (f : ℕ) (k : Kind) → Decided (k ≡ Watch f)
schedule_decided_is_watch f (Watch g) = schedule_decided_moved (λ is. ap Watch is) (λ is. cc) (cases_eq g f)
schedule_decided_is_watch f _ = inr (λ is. absurd cc)

schedule_decided_is_await : (f : ℕ) (k : Kind) → Decided (k ≡ Await f)
schedule_decided_is_await f (Await g) = schedule_decided_moved (λ is. ap Await is) (λ is. cc) (cases_eq g f)
schedule_decided_is_await f _ = inr (λ is. absurd cc)

-- what is decided of each event is decided of the one at a place, if there is one
module _ (j : List Event) (P : ℕ → Event → Type 0) (each : (i : ℕ) (e : Event) → EventAt j i e → Decided (P i e)) where
  schedule_decided_at_place : (i : ℕ) → Decided ((e : Event) → EventAt j i e → P i e)
  schedule_decided_at_place i = go (slice_get j i) refl
    where
      go : (o : Option Event) → slice_get j i ≡ o → Decided ((e : Event) → EventAt j i e → P i e)
      go None is = inl (λ e at. absurd (none-some e (sym is ∙ at)))
      go (Some e) is =
          schedule_decided_moved (λ mine f at. subst (P i) (same_Some e f (sym is ∙ at)) mine) (λ all. all e is) (each i e is)

  -- and so of each event
  pub schedule_decided_of_every : Decided ((i : ℕ) (e : Event) → EventAt j i e → P i e)
  schedule_decided_of_every =
      schedule_decided_moved (λ (all : (i : ℕ) → i < length j → (e : Event) → EventAt j i e → P i e). λ i e at. all i (event_place_inside j i e at) e at)
      (λ all i lt. all i) (decided_all (λ i. (e : Event) → EventAt j i e → P i e) schedule_decided_at_place (length j))

  schedule_decided_some_place : (i : ℕ) → Decided ((e : Event) × EventAt j i e × P i e)
  schedule_decided_some_place i = go (slice_get j i) refl
    where
      go : (o : Option Event) → slice_get j i ≡ o → Decided ((e : Event) × EventAt j i e × P i e)
      go None is = inr (λ some. absurd (none-some some.0 (sym is ∙ some.1)))
      go (Some e) is =
          schedule_decided_moved (λ mine. (e, is, mine)) (λ some. subst (P i) (same_Some some.0 e (sym some.1 ∙ is)) some.2) (each i e is)

  -- and of some event
  pub some : Decided ((i : ℕ) × (e : Event) × EventAt j i e × P i e)
  some =
      schedule_decided_moved (λ (s : (i : ℕ) × (i < length j) × ((e : Event) × EventAt j i e × P i e)). (s.0, s.2.0, s.2.1, s.2.2))
      (λ s. (s.0, event_place_inside j s.0 s.1 s.2, (s.1, s.2, s.3)))
      (decided_some (λ i. (e : Event) × EventAt j i e × P i e) schedule_decided_some_place (length j))

-- an event is p's, of this kind
schedule_decided_is_event : (p : ℕ) (k : Kind) (e : Event) → ((b : Kind) → Decided (b ≡ k)) → Decided (e ≡ event p k)
schedule_decided_is_event p k e same =
    schedule_decided_moved (λ (both : (e.processor ≡ p) × (e.kind ≡ k)). ap₂ (λ q b. event q b) both.0 both.1)
    (λ is. (ap (λ (x : Event). x.processor) is, ap (λ (x : Event). x.kind) is))
    (decided_and (cases_eq e.processor p) (same e.kind))

module _ (j : List Event) where
  -- p does nothing after place i
  decided_last : (p i : ℕ) (k : Kind) → Does j i p k → Decided (LastIs j p i k)
  decided_last p i k does =
      schedule_decided_moved (λ (none : (m : ℕ) (f : Event) → EventAt j m f → i < m → f.processor ≢ p).
      record { does = does; last = λ m f lt at. none m f at lt }) (λ last m f at lt. last.last m f lt at)
      (schedule_decided_of_every j (λ m f. i < m → f.processor ≢ p) (λ m f at. decided_if (decided_lt i m) (decided_not (cases_eq f.processor p))))

  -- p's last event is of this kind, and there it is so
  decided_last_with : (p : ℕ) (k : Kind) (P : ℕ → Type 0) → ((b : Kind) → Decided (b ≡ k)) → ((i : ℕ) → Decided (P i))
      → Decided ((i : ℕ) × LastIs j p i k × P i)
  decided_last_with p k P same each =
      schedule_decided_moved (λ (s : (i : ℕ) × (e : Event) × EventAt j i e × ((e ≡ event p k) × LastIs j p i k × P i)). (s.0, s.3.1, s.3.2))
      (λ s. (s.0, event p k, s.1.does, (refl, s.1, s.2)))
      (some j (λ i e. (e ≡ event p k) × LastIs j p i k × P i) (λ i e at. here i e at (schedule_decided_is_event p k e same)))
    where
      here : (i : ℕ) (e : Event) → EventAt j i e → Decided (e ≡ event p k) → Decided ((e ≡ event p k) × LastIs j p i k × P i)
      here i e at (inl is) =
          schedule_decided_moved (λ (both : LastIs j p i k × P i). (is, both.0, both.1)) (λ all. (all.1, all.2))
          (decided_and (decided_last p i k (subst (EventAt j i) is at)) (each i))
      here i e at (inr isnt) = inr (λ all. isnt all.0)

  decided_holds : (p l : ℕ) → Decided (Holds j p l)
  decided_holds p l =
      schedule_decided_moved (λ (s : (i : ℕ) × (e : Event) × EventAt j i e
      × ((e ≡ event p (Acquire l)) × ((m : ℕ) (f : Event) → EventAt j m f → i < m → f ≢ event p (Release l)))).
      record {
        place = s.0;
        acquires = subst (EventAt j s.0) s.3.0 s.2;
        keeps = λ m after does. s.3.1 m (event p (Release l)) does after refl;
      })
      (λ h. (
        h.place,
        event p (Acquire l),
        h.acquires,
        (refl, λ m f at after is. h.keeps m after (subst (EventAt j m) is at)),
      ))
      (some j (λ i e. (e ≡ event p (Acquire l))
      × ((m : ℕ) (f : Event) → EventAt j m f → i < m → f ≢ event p (Release l))) (λ i e at.
      decided_and (schedule_decided_is_event p (Acquire l) e (schedule_decided_is_acquire l)) (schedule_decided_of_every j (λ m f. i < m → f ≢ event p (Release l)) (λ m f here.
      decided_if (decided_lt i m) (decided_not (schedule_decided_is_event p (Release l) f (schedule_decided_is_release l)))))))

  decided_granted : (i l : ℕ) → Decided (WellFormedGrant j i l)
  decided_granted i l =
      schedule_decided_moved (λ (both : ((m : ℕ) (e : Event) → EventAt j m e → ¬ Holds j e.processor l)
      × ((m : ℕ) (e : Event) → EventAt j m e → m < i → ¬ LastIs j e.processor m (Ask l))).
      record {
        free = λ q held. both.0 held.place (event q (Acquire l)) held.acquires held;
        first = λ m q lt last. both.1 m (event q (Ask l)) last.does lt last;
      })
      (λ may. (λ m e at held. may.free e.processor held, λ m e at lt last. may.first m e.processor lt last))
      (decided_and (schedule_decided_of_every j (λ m e. ¬ Holds j e.processor l) (λ m e at. decided_not (decided_holds e.processor l)))
      (schedule_decided_of_every j (λ m e. m < i → ¬ LastIs j e.processor m (Ask l)) (λ m e at.
      decided_if (decided_lt m i) (decided_not (asked m e at (schedule_decided_is_ask l e.kind))))))
    where
      asked : (m : ℕ) (e : Event) → EventAt j m e → Decided (e.kind ≡ Ask l) → Decided (LastIs j e.processor m (Ask l))
      asked m e at (inl is) = decided_last e.processor m (Ask l) (subst (λ k. EventAt j m (event e.processor k)) is at)
      asked m e at (inr isnt) = inr (λ last. isnt (ap (λ (x : Event). x.kind) (same_Some e (event e.processor (Ask l)) (sym at ∙ last.does))))

  decided_allowed : (s : Sizes) (p : ℕ) (k : Kind) → Decided (WellFormedAllows s j p k)
  decided_allowed s p (Ask l) = decided_not (decided_holds p l)
  decided_allowed s p (Acquire l) = decided_last_with p (Ask l) (λ i. WellFormedGrant j i l) (schedule_decided_is_ask l) (λ i. decided_granted i l)
  decided_allowed s p (Release l) = decided_holds p l
  decided_allowed s p Depart =
      decided_last_with p Arrive (λ i. WellFormedAllArrived s j (event_count event_departs j p + 1)) schedule_decided_is_arrival (λ i.
      decided_all (λ q. event_count event_departs j p + 1 ≤ event_count event_arrives j q) (λ q. decided_le _ _) s.processors)
  decided_allowed s p (Await f) =
      schedule_decided_moved (λ (both : ((i : ℕ) × LastIs j p i (Watch f) × Unit {0}) × ((i : ℕ) × (e : Event) × EventAt j i e × (e.kind ≡ Set f))).
      (both.0.0, both.1.0, both.1.1.processor, both.0.1, subst (λ k. EventAt j both.1.0 (event both.1.1.processor k)) both.1.3 both.1.2))
      (λ a. ((a.0, a.3, tt), (a.1, event a.2 (Set f), a.4, refl)))
      (decided_and (decided_last_with p (Watch f) (λ i. Unit {0}) (schedule_decided_is_watch f) (λ i. inl tt))
      (some j (λ i e. e.kind ≡ Set f) (λ i e at. schedule_decided_is_set f e.kind)))
  decided_allowed s p _ = inl tt

  decided_answers : (a k : Kind) → Decided (WellFormedAnswer a k)
  decided_answers (Ask l) k = schedule_decided_is_acquire l k
  decided_answers Arrive k = schedule_decided_is_departure k
  decided_answers (Watch f) k = schedule_decided_is_await f k
  decided_answers _ k = inl tt

  decided_turn : (p : ℕ) (k : Kind) → Decided ((i : ℕ) (b : Kind) → LastIs j p i b → WellFormedAnswer b k)
  decided_turn p k =
      schedule_decided_moved (λ (all : (i : ℕ) (e : Event) → EventAt j i e → LastIs j p i e.kind → WellFormedAnswer e.kind k).
      λ i b last. all i (event p b) last.does last) (λ all i e at last. all i e.kind last)
      (schedule_decided_of_every j (λ i e. LastIs j p i e.kind → WellFormedAnswer e.kind k) (λ i e at.
      decided_if (mine i e at (cases_eq e.processor p)) (decided_answers e.kind k)))
    where
      mine : (i : ℕ) (e : Event) → EventAt j i e → Decided (e.processor ≡ p) → Decided (LastIs j p i e.kind)
      mine i e at (inl is) = decided_last p i e.kind (subst (λ q. EventAt j i (event q e.kind)) is at)
      mine i e at (inr isnt) = inr (λ last. isnt (ap (λ (x : Event). x.processor) (same_Some e (event p e.kind) (sym at ∙ last.does))))

decided_range : (s : Sizes) (k : Kind) → Decided (WellFormedKindInRange s k)
decided_range s (Load a v) = decided_lt a (addresses s)
decided_range s (Store a v) = decided_lt a (addresses s)
decided_range s (Fetch w n r d) = decided_lt n s.pages
decided_range s (Ask l) = decided_lt l s.locks
decided_range s (Acquire l) = decided_lt l s.locks
decided_range s (Release l) = decided_lt l s.locks
decided_range s (Set f) = decided_lt f s.flags
decided_range s (Watch f) = decided_lt f s.flags
decided_range s (Await f) = decided_lt f s.flags
decided_range s _ = inl tt

pub decided_follow : (s : Sizes) (j : List Event) (p : ℕ) (k : Kind) → Decided (WellFormedNext s j (event p k))
decided_follow s j p k =
    schedule_decided_moved (λ (all : (p < s.processors) × (WellFormedKindInRange s k × (((i : ℕ) (b : Kind) → LastIs j p i b → WellFormedAnswer b k) × WellFormedAllows s j p k))).
    record { processor = all.0; in_range = all.1.0; answers = all.1.1.0; allowed = all.1.1.1 })
    (λ may. (may.processor, (may.in_range, (may.answers, may.allowed))))
    (decided_and (decided_lt p s.processors) (decided_and (decided_range s k) (decided_and (decided_turn j p k)
    (decided_allowed j s p k))))
