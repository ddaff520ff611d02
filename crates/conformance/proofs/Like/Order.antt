-- Histories that are alike have the same order and the same races.
use Rattle.std.proofs.Common.{ℕ, ◌≡◌, ◌↔◌, inl, inr, List, IsTrue, take, refl, sym, ap, subst, ◌∙◌}
use Rattle.journal.specs.declared.event.Event.{Event}
use Rattle.journal.specs.declared.event.Kind.{Kind}
use Rattle.journal.specs.declared.event.Kind.TheVariants.{Load, Store, Acquire, Release, Arrive, Depart, Set, Await}
use Rattle.journal.specs.Events.{event_address, event_stores, event_arrives, event_departs}
use Rattle.journal.specs.HappensBeforeEdges.{LetsThrough, Link, Edge, HappensBefore}
use Rattle.journal.specs.HappensBeforeEdges.Link.{same, lets, meets}
use Rattle.journal.specs.HappensBeforeEdges.HappensBefore.{edge, on}
use Rattle.journal.specs.Races.{Conflict, Race}
use Rattle.conformance.specs.Like.{like_without_value, SameButValues}
use Rattle.conformance.proofs.Like.Places.{like_place_exact, AreLikeEventsAtPlace, like_place_at, like_place_front, like_place_count, like_place_arrive_valueless, like_place_depart_valueless}

like_order_lets_valueless : (a b : Kind) → LetsThrough a b → LetsThrough (like_without_value a) (like_without_value b)
like_order_lets_valueless (Release l) (Acquire m) h = h
like_order_lets_valueless (Set f) (Await g) h = h
like_order_lets_valueless _ _ h = absurd h

like_order_lets_back : (a b : Kind) → LetsThrough (like_without_value a) (like_without_value b) → LetsThrough a b
like_order_lets_back (Release l) (Acquire m) h = h
like_order_lets_back (Set f) (Await g) h = h
like_order_lets_back _ _ h = absurd h

like_order_lets : (a b c d : Kind) → like_without_value a ≡ like_without_value c → like_without_value b ≡ like_without_value d → LetsThrough a b → LetsThrough c d
like_order_lets a b c d first second h = like_order_lets_back c d (rw (← first, ← second) (like_order_lets_valueless a b h))

like_order_link : {h g : List Event} {i k : ℕ} {e f x y : Event} → SameButValues h g → AreLikeEventsAtPlace e x → AreLikeEventsAtPlace f y → Link h i k e f
    → Link g i k x y
like_order_link like first second (same s) = same (sym first.processors ∙ s ∙ second.processors)
like_order_link {e = e} {f = f} {x = x} {y = y} like first second (lets l) =
    lets (like_order_lets e.kind f.kind x.kind y.kind first.kinds second.kinds l)
like_order_link {h = h} {g = g} {i = i} {k = k} {e = e} {f = f} {x = x} {y = y} like first second (meets m) =
    let arrivals = like_place_count event_arrives (take i h) (take i g) e.processor like_place_arrive_valueless (like_place_front h g i like) in
    let departures = like_place_count event_departs (take k h) (take k g) f.processor like_place_depart_valueless (like_place_front h g k like) in
    meets (record {
      arrives = like_place_exact x.kind Arrive (sym first.kinds ∙ ap like_without_value m.arrives) refl;
      departs = like_place_exact y.kind Depart (sym second.kinds ∙ ap like_without_value m.departs) refl;
      episode = rw (← first.processors, ← second.processors) (sym arrivals ∙ m.episode ∙ departures);
    })

like_order_edge : (h g : List Event) (i k : ℕ) → SameButValues h g → Edge h i k → Edge g i k
like_order_edge h g i k like e =
    let from = like_place_at h g i e.from like e.from_at in
    let to = like_place_at h g k e.to like e.to_at in
    record {
      before = e.before;
      from = from.event;
      to = to.event;
      from_at = from.at;
      to_at = to.at;
      link = like_order_link like from.like to.like e.link;
    }

-- what happens before what, happens so in what is alike
pub like_order_before : (h g : List Event) {i k : ℕ} → SameButValues h g → HappensBefore h i k → HappensBefore g i k
like_order_before h g like (edge {i} {k} e) = edge (like_order_edge h g i k like e)
like_order_before h g like (on {i} {m} {k} b e) = on (like_order_before h g like b) (like_order_edge h g m k like e)

like_order_address_valueless : (k : Kind) → event_address (like_without_value k) ≡ event_address k
like_order_address_valueless (Load a v) = refl
like_order_address_valueless (Store a v) = refl
like_order_address_valueless _ = refl

like_order_store_valueless : (k : Kind) → event_stores (like_without_value k) ≡ event_stores k
like_order_store_valueless (Load a v) = refl
like_order_store_valueless (Store a v) = refl
like_order_store_valueless _ = refl

pub like_order_address : (a b : Kind) → like_without_value a ≡ like_without_value b → event_address a ≡ event_address b
like_order_address a b e = sym (like_order_address_valueless a) ∙ ap event_address e ∙ like_order_address_valueless b

like_order_store : (a b : Kind) → like_without_value a ≡ like_without_value b → IsTrue (event_stores a) → IsTrue (event_stores b)
like_order_store a b e stores = subst IsTrue (sym (like_order_store_valueless a) ∙ ap event_stores e ∙ like_order_store_valueless b) stores

like_order_conflict : (e f x y : Event) → AreLikeEventsAtPlace e x → AreLikeEventsAtPlace f y → Conflict e f → Conflict x y
like_order_conflict e f x y first second c =
    record {
      address = c.address;
      first = sym (like_order_address e.kind x.kind first.kinds) ∙ c.first;
      second = sym (like_order_address f.kind y.kind second.kinds) ∙ c.second;
      stores = elim c.stores [
        | inl s ↦ inl (like_order_store e.kind x.kind first.kinds s)
        | inr s ↦ inr (like_order_store f.kind y.kind second.kinds s)
      ];
    }

like_order_race_there : (h g : List Event) (i k : ℕ) → SameButValues h g → Race h i k → Race g i k
like_order_race_there h g i k like r =
    let first = like_place_at h g i r.first like r.first_at in
    let second = like_place_at h g k r.second like r.second_at in
    record {
      before = r.before;
      first = first.event;
      second = second.event;
      first_at = first.at;
      second_at = second.at;
      apart = λ e. r.apart (first.like.processors ∙ e ∙ sym second.like.processors);
      conflict = like_order_conflict r.first r.second first.event second.event first.like second.like r.conflict;
      unordered = λ b. r.unordered (like_order_before g h (sym like) b);
    }

-- the races are the same
pub like_order_race : (h g : List Event) (i k : ℕ) → SameButValues h g → Race h i k ↔ Race g i k
like_order_race h g i k like = (like_order_race_there h g i k like, like_order_race_there g h i k (sym like))
