-- What is like a well formed history is well formed.
use Rattle.std.proofs.Common.{ℕ, ◌≡◌, ◌≢◌, ◌+◌, ◌<◌, List, false, take, refl, sym, ap, subst, ◌∙◌}
use Rattle.journal.specs.declared.event.Event.{Event}
use Rattle.journal.specs.declared.event.Kind.{Kind}
use Rattle.journal.specs.declared.event.Kind.TheVariants.{Load, Store, Ask, Acquire, Release, Arrive, Depart, Set, Watch, Await}
use Rattle.journal.specs.Events.{EventAt, event_count, event_arrives, event_departs}
use Rattle.journal.specs.Sizes.{Sizes}
use Rattle.journal.specs.WellFormed.{WellFormedKindInRange, LastIs, Holds, WellFormedGrant, WellFormedAllArrived, WellFormedAnswer, WellFormedAllows, WellFormedNext, WellFormed}
use Rattle.conformance.specs.Like.{like_without_value, SameButValues}
use Rattle.conformance.proofs.Like.Places.{like_place_has_value, like_place_exact, AreLikeEventsAtPlace, like_place_at, like_place_does, like_place_front, like_place_count, like_place_arrive_valueless, like_place_depart_valueless}

like_well_formed_range_valueless : (s : Sizes) (k : Kind) → WellFormedKindInRange s k → WellFormedKindInRange s (like_without_value k)
like_well_formed_range_valueless s (Load a v) h = h
like_well_formed_range_valueless s (Store a v) h = h
like_well_formed_range_valueless s _ h = h

like_well_formed_range_back : (s : Sizes) (k : Kind) → WellFormedKindInRange s (like_without_value k) → WellFormedKindInRange s k
like_well_formed_range_back s (Load a v) h = h
like_well_formed_range_back s (Store a v) h = h
like_well_formed_range_back s _ h = h

like_well_formed_range : (s : Sizes) (a b : Kind) → like_without_value a ≡ like_without_value b → WellFormedKindInRange s a → WellFormedKindInRange s b
like_well_formed_range s a b same h = like_well_formed_range_back s b (subst (WellFormedKindInRange s) same (like_well_formed_range_valueless s a h))

-- p's last event stands at the same place, and is the same where it has no value
like_well_formed_last : (h g : List Event) (p i : ℕ) (k : Kind) → SameButValues h g → like_place_has_value k ≡ false → LastIs h p i k → LastIs g p i k
like_well_formed_last h g p i k like none l =
    record { does = like_place_does h g i p k like none l.does; last = later }
  where
    later : (m : ℕ) (f : Event) → i < m → EventAt g m f → f.processor ≢ p
    later m f after at mine =
        let back = like_place_at g h m f (sym like) at in
        l.last m back.event after back.at (sym back.like.processors ∙ mine)

like_well_formed_holds : (h g : List Event) (p l : ℕ) → SameButValues h g → Holds h p l → Holds g p l
like_well_formed_holds h g p l like x =
    record {
      place = x.place;
      acquires = like_place_does h g x.place p (Acquire l) like refl x.acquires;
      keeps = λ k after does. x.keeps k after (like_place_does g h k p (Release l) (sym like) refl does);
    }

like_well_formed_granted : (h g : List Event) (i l : ℕ) → SameButValues h g → WellFormedGrant h i l → WellFormedGrant g i l
like_well_formed_granted h g i l like x =
    record {
      free = λ q held. x.free q (like_well_formed_holds g h q l (sym like) held);
      first = λ k q before last. x.first k q before (like_well_formed_last g h q k (Ask l) (sym like) refl last);
    }

like_well_formed_arrived : (s : Sizes) (h g : List Event) (p : ℕ) → SameButValues h g → WellFormedAllArrived s h (event_count event_departs h p + 1)
    → WellFormedAllArrived s g (event_count event_departs g p + 1)
like_well_formed_arrived s h g p like all q inside =
    let departures = like_place_count event_departs h g p like_place_depart_valueless like in
    let arrivals = like_place_count event_arrives h g q like_place_arrive_valueless like in
    rw (← departures, ← arrivals) (all q inside)

-- what may be done next, may be done next after what is alike
pub like_well_formed_allowed_here : (s : Sizes) (h g : List Event) (p : ℕ) (k : Kind) → SameButValues h g → WellFormedAllows s h p k → WellFormedAllows s g p k
like_well_formed_allowed_here s h g p (Ask l) like x = λ held. x (like_well_formed_holds g h p l (sym like) held)
like_well_formed_allowed_here s h g p (Acquire l) like x =
    (x.0, like_well_formed_last h g p x.0 (Ask l) like refl x.1, like_well_formed_granted h g x.0 l like x.2)
like_well_formed_allowed_here s h g p (Release l) like x = like_well_formed_holds h g p l like x
like_well_formed_allowed_here s h g p Depart like x = (x.0, like_well_formed_last h g p x.0 Arrive like refl x.1, like_well_formed_arrived s h g p like x.2)
like_well_formed_allowed_here s h g p (Await f) like x =
    (x.0, x.1, x.2, like_well_formed_last h g p x.0 (Watch f) like refl x.3, like_place_does h g x.1 x.2 (Set f) like refl x.4)
like_well_formed_allowed_here s h g p _ like x = tt

like_well_formed_allowed_valueless : (s : Sizes) (h : List Event) (p : ℕ) (k : Kind) → WellFormedAllows s h p k → WellFormedAllows s h p (like_without_value k)
like_well_formed_allowed_valueless s h p (Load a v) x = x
like_well_formed_allowed_valueless s h p (Store a v) x = x
like_well_formed_allowed_valueless s h p _ x = x

like_well_formed_allowed_back : (s : Sizes) (h : List Event) (p : ℕ) (k : Kind) → WellFormedAllows s h p (like_without_value k) → WellFormedAllows s h p k
like_well_formed_allowed_back s h p (Load a v) x = x
like_well_formed_allowed_back s h p (Store a v) x = x
like_well_formed_allowed_back s h p _ x = x

like_well_formed_allowed : (s : Sizes) (h g : List Event) (p : ℕ) (a b : Kind) → SameButValues h g → like_without_value a ≡ like_without_value b
    → WellFormedAllows s h p a → WellFormedAllows s g p b
like_well_formed_allowed s h g p a b like same x =
    like_well_formed_allowed_here s h g p b like (like_well_formed_allowed_back s h p b (subst (WellFormedAllows s h p) same (like_well_formed_allowed_valueless s h p a x)))

-- the answer to a call that waits, where what answers is of the same kind
like_well_formed_answers : {h g : List Event} {p i : ℕ} (a b c : Kind) → SameButValues h g → like_without_value a ≡ like_without_value b
    → ((k : Kind) → LastIs h p i k → WellFormedAnswer k a) → LastIs g p i c → WellFormedAnswer c b
like_well_formed_answers {h = h} {g = g} {p = p} {i = i} a b (Ask l) like same answers last =
    like_place_exact b (Acquire l) (sym same ∙ ap like_without_value
    (answers (Ask l) (like_well_formed_last g h p i (Ask l) (sym like) refl last))) refl
like_well_formed_answers {h = h} {g = g} {p = p} {i = i} a b Arrive like same answers last =
    like_place_exact b Depart (sym same ∙ ap like_without_value (answers Arrive (like_well_formed_last g h p i Arrive (sym like) refl last))) refl
like_well_formed_answers {h = h} {g = g} {p = p} {i = i} a b (Watch f) like same answers last =
    like_place_exact b (Await f) (sym same ∙ ap like_without_value
    (answers (Watch f) (like_well_formed_last g h p i (Watch f) (sym like) refl last))) refl
like_well_formed_answers a b _ like same answers last = tt

like_well_formed_follow : (s : Sizes) (h g : List Event) (e f : Event) → SameButValues h g → AreLikeEventsAtPlace e f → WellFormedNext s h e
    → WellFormedNext s g f
like_well_formed_follow s h g e f like alike m =
    let P : ℕ → Type 0 = λ p. (i : ℕ) (c : Kind) → LastIs g p i c → WellFormedAnswer c f.kind in
    let Q : ℕ → Type 0 = λ p. WellFormedAllows s g p f.kind in
    let answers : P e.processor =
    λ i c last. like_well_formed_answers e.kind f.kind c like alike.kinds (m.answers i) last in
    record {
      processor = rw (← alike.processors) m.processor;
      in_range = like_well_formed_range s e.kind f.kind alike.kinds m.in_range;
      answers = subst P alike.processors answers;
      allowed = subst Q alike.processors (like_well_formed_allowed s h g e.processor e.kind f.kind like alike.kinds m.allowed);
    }

-- what is like a well formed history is one
pub like_well_formed : (s : Sizes) (h g : List Event) → SameButValues h g → WellFormed s h → WellFormed s g
like_well_formed s h g like well k f at =
    let back = like_place_at g h k f (sym like) at in
    let alike : AreLikeEventsAtPlace back.event f = record { processors = sym back.like.processors; kinds = sym back.like.kinds } in
    like_well_formed_follow s (take k h) (take k g) back.event f (like_place_front h g k like) alike (well k back.event back.at)
