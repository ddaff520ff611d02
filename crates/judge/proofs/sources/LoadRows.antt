-- The rows of a history, as it goes on.
use Rattle.std.proofs.Common.{◌≡◌, ℕ, ◌<◌, List, [], ◌∷◌, ◌++◌, length, take, drop, Option, Some, slice_get, subst, sym, refl, ap, ◌∙◌, suc, take-append-drop, arith}
use Rattle.std.specs.Prelude.{None, map, option_map}
use Rattle.std.proofs.lemmas.Option.{none-some, same_Some, slice_get-map}
use Rattle.std.proofs.lemmas.List.{length-take-le}
use Rattle.base.proofs.SlicesAndCounts.{slice_take-suc_at}
use Rattle.journal.specs.declared.event.Event.{Event}
use Rattle.journal.specs.declared.event.Kind.TheVariants.{Load, Store}
use Rattle.journal.specs.DidEvent.{event}
use Rattle.journal.specs.Events.{EventAt}
use Rattle.journal.specs.HappensBeforeEdges.{HappensBefore}
use Rattle.journal.specs.WellFormed.{Does}
use Rattle.journal.proofs.Order.EventPlacesAndCounts.{event_place_inside, event_place_longer, event_place_shorter, event_place_at_end, event_place_same}
use Rattle.journal.proofs.Order.HappensBefore.{happens_before_begins_within, happens_before_goes_forward, happens_before_longer, happens_before_shorter}
use Rattle.judge.specs.declared.flat_memory.FlatStore.{FlatStore}
use Rattle.judge.specs.PermittedStores.{AreLatestStores, IsLatestStore}
use Rattle.judge.specs.Sources.Latest.{IsLatest, AreLatest, IsLatestRow}

-- the place of a store
abbrev pub load_row_place : FlatStore → ℕ
load_row_place x = x.place

-- what a load may answer stays as the journal goes on
pub load_row_latest_longer : (j es : List Event) (k a q i : ℕ) → k < length j → IsLatest j k a q i
    → IsLatest (j ++ es) k a q i
load_row_latest_longer j es k a q i within x = record {
  value = x.value;
  store = record {
    place = x.store.place;
    by = x.store.by;
    stores = event_place_longer j es x.store.place (event x.store.by (Store a x.value)) x.store.stores;
    before = happens_before_longer j es x.store.before;
    latest = latest;
  };
  place = x.place;
  by = x.by;
}
  where
    latest : (m r w : ℕ) → Does (j ++ es) m r (Store a w) → HappensBefore (j ++ es) m k
        → ¬ HappensBefore (j ++ es) x.store.place m
    latest m r w does before follows =
        let lt = happens_before_goes_forward (j ++ es) before in
        let inside : m < length j = omega arith in
        x.store.latest m r w (event_place_shorter j es m (event r (Store a w)) inside does) (happens_before_shorter j es within before)
        (happens_before_shorter j es inside follows)

pub load_row_latest_shorter : (j es : List Event) (k a q i : ℕ) → k < length j → IsLatest (j ++ es) k a q i
    → IsLatest j k a q i
load_row_latest_shorter j es k a q i within x =
    let before = happens_before_shorter j es within x.store.before in
    record {
      value = x.value;
      store = record {
        place = x.store.place;
        by = x.store.by;
        stores =
            event_place_shorter j es x.store.place (event x.store.by (Store a x.value)) (happens_before_begins_within j before)
            x.store.stores;
        before = before;
        latest =
            λ m r w does then_before follows. x.store.latest m r w (event_place_longer j es m (event r (Store a w)) does)
            (happens_before_longer j es then_before) (happens_before_longer j es follows);
      };
      place = x.place;
      by = x.by;
    }

-- and so does a row
pub load_row_longer : (j es : List Event) (k : ℕ) (places : List ℕ) → k < length j → IsLatestRow j k places
    → IsLatestRow (j ++ es) k places
load_row_longer j es k places within row = record {
  loads = λ p a v does. (let old = row.loads p a v (event_place_shorter j es k (event p (Load a v)) within does) in record {
    has = λ i. (
      λ h. (let x = (old.has i).0 h in (x.0, load_row_latest_longer j es k a x.0 i within x.1)),
      λ x. (old.has i).1 (x.0, load_row_latest_shorter j es k a x.0 i within x.1),
    );
    order = λ m n i l lt at to. (let x = old.order m n i l lt at to in (
      x.0,
      x.1,
      x.2,
      load_row_latest_longer j es k a x.0 i within x.3,
      load_row_latest_longer j es k a x.1 l within x.4,
    ));
  });
  others = λ none. row.others (λ p a v does. none p a v (event_place_longer j es k (event p (Load a v)) does));
}

-- a row of a history's front is the history's
pub load_row_in_front : (events : List Event) (k : ℕ) (e : Event) (places : List ℕ) → EventAt events k e
    → IsLatestRow (take k events ++ e ∷ []) (length (take k events)) places → IsLatestRow events k places
load_row_in_front events k e places at row =
    let lt = event_place_inside events k e at in
    let long : length (take k events) ≡ k = length-take-le k events (omega arith) in
    let split : (take k events ++ e ∷ []) ++ drop (suc k) events ≡ events =
    ap (λ xs. xs ++ drop (suc k) events) (sym (slice_take-suc_at events k e at)) ∙ take-append-drop (suc k) events in
    let within =
    event_place_inside (take k events ++ e ∷ []) (length (take k events)) e (event_place_at_end (take k events) e) in
    let whole =
    load_row_longer (take k events ++ e ∷ []) (drop (suc k) events) (length (take k events)) places within row in
    subst (λ n. IsLatestRow events n places) long
    (subst (λ xs. IsLatestRow xs (length (take k events)) places) split whole)

-- what stands at a place of the places of stores is that of the store there
load_row_place_of : (stores : List FlatStore) (n i : ℕ) → slice_get (map load_row_place stores) n ≡ Some i
    → (x : FlatStore) × (slice_get stores n ≡ Some x) × (x.place ≡ i)
load_row_place_of stores n i at = go (slice_get stores n) refl
  where
    go : (o : Option FlatStore) → slice_get stores n ≡ o → (x : FlatStore) × (slice_get stores n ≡ Some x) × (x.place ≡ i)
    go None none = absurd (none-some i (sym (slice_get-map load_row_place stores n ∙ ap (option_map load_row_place) none) ∙ at))
    go (Some x) some =
        (x, some, same_Some x.place i (sym (slice_get-map load_row_place stores n ∙ ap (option_map load_row_place) some) ∙ at))

-- the places of the latest stores are the row of a load
pub load_row_of_stores : (j : List Event) (p a v : ℕ) (stores : List FlatStore)
    → AreLatestStores (j ++ event p (Load a v) ∷ []) (length j) a stores
    → IsLatestRow (j ++ event p (Load a v) ∷ []) (length j) (map load_row_place stores)
load_row_of_stores j p a v stores are = record { loads = loads; others = others }
  where
    now : List Event
    now = j ++ event p (Load a v) ∷ []

    store_of : (i q : ℕ) → (x : IsLatest now (length j) a q i)
        → IsLatestStore now (length j) a (record { by = q; place = i; value = x.value })
    store_of i q x = record {
      stores = subst (λ r. Does now i r (Store a x.value)) x.by
          (subst (λ m. Does now m x.store.by (Store a x.value)) x.place x.store.stores);
      latest = x;
    }

    here : AreLatest now (length j) a (map load_row_place stores)
    here = record {
      has = λ i. (
        λ h. (let x = load_row_place_of stores h.0 i h.1 in
            let latest = ((are.has x.0).0 (h.0, x.1)).latest in
            (x.0.by, subst (λ m. IsLatest now (length j) a x.0.by m) x.2 latest)),
        λ l. (let h = (are.has (record { by = l.0; place = i; value = l.1.value })).1 (store_of i l.0 l.1) in
            (h.0, slice_get-map load_row_place stores h.0 ∙ ap (option_map load_row_place) h.1)),
      );
      order = λ m n i l lt at to.
          (let x = load_row_place_of stores m i at in
          let y = load_row_place_of stores n l to in
          let first = ((are.has x.0).0 (m, x.1)).latest in
          let second = ((are.has y.0).0 (n, y.1)).latest in (
            x.0.by,
            y.0.by,
            are.order m n x.0 y.0 lt x.1 y.1,
            subst (λ k. IsLatest now (length j) a x.0.by k) x.2 first,
            subst (λ k. IsLatest now (length j) a y.0.by k) y.2 second,
          ));
    }

    loads : (r b w : ℕ) → Does (j ++ event p (Load a v) ∷ []) (length j) r (Load b w)
        → AreLatest (j ++ event p (Load a v) ∷ []) (length j) b (map load_row_place stores)
    loads r b w does =
        let same =
        event_place_same (j ++ event p (Load a v) ∷ []) (length j) (event p (Load a v)) (event r (Load b w))
        (event_place_at_end j (event p (Load a v))) does in
        let is : a ≡ b = load_address a b v w (ap (λ x. x.kind) same) in
        subst (λ x. AreLatest (j ++ event p (Load a v) ∷ []) (length j) x (map load_row_place stores)) is here
      where
        load_address : (x y u w : ℕ) → Load x u ≡ Load y w → x ≡ y
        load_address x y u w is = cc

    others : ((r b w : ℕ) → ¬ Does (j ++ event p (Load a v) ∷ []) (length j) r (Load b w)) → map load_row_place stores ≡ []
    others none = absurd (none p a v (event_place_at_end j (event p (Load a v))))
