-- What a load that comes next may answer, by its processor's past.
use Rattle.std.proofs.Common.{◌≡◌, ℕ, ◌<◌, inl, inr, ◌↔◌, List, [], ◌∷◌, length, subst, sym, refl, ap, arith}
use Rattle.std.proofs.lemmas.Bool.{cases_lt}
use Rattle.std.proofs.lemmas.Option.{slice_get_within}
use Rattle.std.proofs.lemmas.List.{append-nil}
use Rattle.journal.specs.declared.event.Event.{Event}
use Rattle.journal.specs.declared.event.Kind.TheVariants.{Load, Store}
use Rattle.journal.specs.DidEvent.{did, event}
use Rattle.journal.specs.EventsInRange.{EventProcessorsInRange}
use Rattle.journal.specs.ExplainedAnswers.{IsAnswer, LatestExplainedAnswer}
use Rattle.journal.specs.HappensBeforeEdges.{HappensBefore}
use Rattle.journal.specs.Pasts.{InPast}
use Rattle.journal.specs.WellFormed.{Does}
use Rattle.journal.proofs.Order.EventPlacesAndCounts.{event_place_does_same, event_place_inside, event_place_longer}
use Rattle.journal.proofs.Order.HappensBefore.{happens_before_extension}
use Rattle.journal.proofs.Order.IntoPast.{into_past_reaches_new, into_past_within}
use Rattle.journal.proofs.Times.LeavingCloses.{leaving_closes_own_order}
use Rattle.judge.specs.declared.flat_memory.FlatStore.{FlatStore}
use Rattle.judge.specs.declared.kept_store.KeptStore.{KeptStore}
use Rattle.judge.specs.KeptInPasts.{AreUnknownFrom, HasUnknownOfValue, IsUnknownWithin}
use Rattle.judge.specs.Models.{ModelConcurrentStore}
use Rattle.judge.specs.PermittedStores.{IsLatestStore, IsUnorderedStore}
use Rattle.judge.specs.Sources.Latest.{IsLatest}
use Rattle.judge.specs.StoresInPasts.{IsLatestInPast, IsOutsidePast, MayBeAnsweredLater}
use Rattle.judge.proofs.sources.Answering.{answering_store_shorter, answering_untouched}

answering_kept_one_value : (a v b w : ℕ) → Store a v ≡ Store b w → v ≡ w
answering_kept_one_value a v b w is = cc

module _ (j : List Event) (p a v : ℕ) where
  -- what happens before the load is its processor's past
  pub answering_kept_past : (i : ℕ) → HappensBefore (did j p (Load a v)) i (length j) ↔ InPast j p i
  answering_kept_past i = into_past_reaches_new j (event p (Load a v)) i refl

  -- its latest stores are those of the past
  pub answering_kept_latest : (q i : ℕ) → IsLatest (did j p (Load a v)) (length j) a q i → IsLatestInPast j p a q i
  answering_kept_latest q i x = record {
    value = x.value;
    does = answering_store_shorter j p a v i q a x.value
        (subst (λ n. Does (did j p (Load a v)) n q (Store a x.value)) x.place
        (subst (λ n. Does (did j p (Load a v)) x.store.place n (Store a x.value)) x.by x.store.stores));
    past = (answering_kept_past i).0 (subst (λ n. HappensBefore (did j p (Load a v)) n (length j)) x.place x.store.before);
    latest = λ m r w does past follows.
        (let within = into_past_within j p m past in
        x.store.latest m r w (event_place_longer j (event p (Load a v) ∷ []) m (event r (Store a w)) does)
        ((answering_kept_past m).1 past)
        (subst (λ n. HappensBefore (did j p (Load a v)) n m) (sym x.place)
        ((happens_before_extension j (event p (Load a v) ∷ []) i m within).1 follows)));
  }

  pub answering_kept_latest_of : (q i : ℕ) → IsLatestInPast j p a q i → IsLatest (did j p (Load a v)) (length j) a q i
  answering_kept_latest_of q i x = record {
    value = x.value;
    store = record {
      place = i;
      by = q;
      stores = event_place_longer j (event p (Load a v) ∷ []) i (event q (Store a x.value)) x.does;
      before = (answering_kept_past i).1 x.past;
      latest = λ m r w does before follows.
          (let past = (answering_kept_past m).0 before in
          x.latest m r w (answering_store_shorter j p a v m r a w does) past
          ((happens_before_extension j (event p (Load a v) ∷ []) i m (into_past_within j p m past)).0 follows));
    };
    place = refl;
    by = refl;
  }

-- a store that a past doesn't have may be answered later
pub answering_kept_later : (n : ℕ) (j : List Event) (p a q i v : ℕ) → p < n → EventProcessorsInRange n j → Does j i q (Store a v)
    → ¬ InPast j p i → MayBeAnsweredLater n j a q i
answering_kept_later n j p a q i v present range does outside =
    let whole = append-nil j in
    record {
      more = [];
      by = p;
      present = present;
      range = subst (EventProcessorsInRange n) (sym whole) range;
      may = inr (subst (λ xs. IsOutsidePast xs p a q i) (sym whole) (record { value = v; does = does; outside = outside }));
    }

-- ---- by the latest stores of the past

module _ (j : List Event) (p a v : ℕ) where
  -- the value of one may be answered
  pub answering_kept_one : (q i : ℕ) → IsLatestInPast j p a q i → Does j i q (Store a v)
      → IsAnswer (did j p (Load a v)) (length j) a v
  answering_kept_one q i x does = inr (record {
    place = i;
    by = q;
    stores = event_place_longer j (event p (Load a v) ∷ []) i (event q (Store a v)) does;
    before = (answering_kept_past j p a v i).1 x.past;
    latest = λ m r w to before follows.
        (let past = (answering_kept_past j p a v m).0 before in
        x.latest m r w (answering_store_shorter j p a v m r a w to) past
        ((happens_before_extension j (event p (Load a v) ∷ []) i m (into_past_within j p m past)).0 follows));
  })

  -- a latest store of the load is one of them
  pub answering_kept_found : (x : LatestExplainedAnswer (did j p (Load a v)) (length j) a v)
      → IsLatestInPast j p a x.by x.place × Does j x.place x.by (Store a v)
  answering_kept_found x = (
    answering_kept_latest j p a v x.by x.place (record { value = v; store = x; place = refl; by = refl }),
    answering_store_shorter j p a v x.place x.by a v x.stores,
  )

  -- where there is one, no other value may
  pub answering_kept_other : (q i : ℕ) → IsLatestInPast j p a q i
      → ((r m : ℕ) → IsLatestInPast j p a r m → ¬ Does j m r (Store a v))
      → ¬ IsAnswer (did j p (Load a v)) (length j) a v
  answering_kept_other q i x others (inl none) =
      let l = answering_kept_latest_of j p a v q i x in none.1 l.store.place l.store.by l.value l.store.stores l.store.before
  answering_kept_other q i x others (inr l) = let found = answering_kept_found l in others l.by l.place found.0 found.1

  -- and where there is none, just 0 may
  pub answering_kept_none : ((q i : ℕ) → ¬ IsLatestInPast j p a q i) → IsAnswer (did j p (Load a v)) (length j) a v ↔ (v ≡ 0)
  answering_kept_none none = (there, back)
    where
      there : IsAnswer (did j p (Load a v)) (length j) a v → v ≡ 0
      there (inl x) = x.0
      there (inr l) = absurd (none l.by l.place (answering_kept_found l).0)

      back : v ≡ 0 → IsAnswer (did j p (Load a v)) (length j) a v
      back is = inl (
        is,
        answering_untouched (did j p (Load a v)) (length j) a (λ q i l. none q i (answering_kept_latest j p a v q i l)),
      )

  -- they are all the latest stores
  pub answering_kept_stores : (x : FlatStore) → IsLatestStore (did j p (Load a v)) (length j) a x
      → IsLatestInPast j p a x.by x.place × Does j x.place x.by (Store a x.value)
  answering_kept_stores x l = (
    answering_kept_latest j p a v x.by x.place l.latest,
    answering_store_shorter j p a v x.place x.by a x.value l.stores,
  )

  pub answering_kept_stores_of : (x : FlatStore) → IsLatestInPast j p a x.by x.place → Does j x.place x.by (Store a x.value)
      → IsLatestStore (did j p (Load a v)) (length j) a x
  answering_kept_stores_of x l does = record {
    stores = event_place_longer j (event p (Load a v) ∷ []) x.place (event x.by (Store a x.value)) does;
    latest = answering_kept_latest_of j p a v x.by x.place l;
  }

-- two latest stores of a processor are one
pub answering_kept_same : (j : List Event) (p a q i k : ℕ) → IsLatestInPast j p a q i → IsLatestInPast j p a q k → i ≡ k
answering_kept_same j p a q i k x y = elim (cases_lt i k) [
  | inl lt ↦ absurd (x.latest k q y.value y.does y.past
      (leaving_closes_own_order j q i k (Store a x.value) (Store a y.value) x.does y.does lt))
  | inr le ↦ elim (cases_lt k i) [
    | inl lt ↦ absurd (y.latest i q x.value x.does x.past
        (leaving_closes_own_order j q k i (Store a y.value) (Store a x.value) y.does x.does lt))
    | inr ge ↦ omega arith
  ]
]

-- and of one value
pub answering_kept_value : (j : List Event) (i q a v w : ℕ) → Does j i q (Store a v) → Does j i q (Store a w) → v ≡ w
answering_kept_value j i q a v w one other =
    let same = event_place_does_same j i q q (Store a v) (Store a w) one other in answering_kept_one_value a v a w same.1

-- ---- outside the past

-- a store from this index on is unordered
pub answering_kept_unordered_of : (j : List Event) (p a v q i w : ℕ) → Does j i q (Store a w) → ¬ InPast j p i
    → IsUnorderedStore (did j p (Load a v)) (length j) a (record { by = q; place = i; value = w })
answering_kept_unordered_of j p a v q i w does outside = record {
  stores = event_place_longer j (event p (Load a v) ∷ []) i (event q (Store a w)) does;
  before = event_place_inside j i (event q (Store a w)) does;
  unordered = λ h. outside ((answering_kept_past j p a v i).0 h);
}

-- by its parts
answering_kept_parts : (x : FlatStore) (q i w : ℕ) → x.by ≡ q → i ≡ x.place → w ≡ x.value
    → x ≡ record { by = q; place = i; value = w }
answering_kept_parts x q i w by place value =
    subst (λ n. x ≡ record { by = n; place = i; value = w }) by
    (subst (λ n. x ≡ record { by = x.by; place = n; value = w }) (sym place)
    (subst (λ n. x ≡ record { by = x.by; place = x.place; value = n }) (sym value) refl))

-- and each unordered one is one
pub answering_kept_unordered : (j : List Event) (p a v q from : ℕ) (stores : List KeptStore) (x : FlatStore)
    → AreUnknownFrom j p a q stores from → IsUnorderedStore (did j p (Load a v)) (length j) a x → x.by ≡ q
    → IsUnknownWithin stores from (length stores) q x
answering_kept_unordered j p a v q from stores x are u by =
    let mine = subst (λ r. Does j x.place r (Store a x.value)) by (answering_store_shorter j p a v x.place x.by a x.value u.stores) in
    let found = are.complete x.place x.value mine (λ past. u.unordered ((answering_kept_past j p a v x.place).1 past)) in
    let y = found.1 in
    let does = (are.sound found.0 y found.2 found.3).0 in
    let same = event_place_does_same j x.place q q (Store a y.value) (Store a x.value)
    (subst (λ m. Does j m q (Store a y.value)) found.4 does) mine in
    record {
      index = found.0;
      store = y;
      from_on = found.2;
      below = slice_get_within stores found.0 y found.3;
      at = found.3;
      is = answering_kept_parts x q y.place y.value by found.4 (answering_kept_one_value a y.value a x.value same.1);
    }

pub answering_kept_unknown : (j : List Event) (p a v q from : ℕ) (stores : List KeptStore) (x : FlatStore)
    → AreUnknownFrom j p a q stores from → IsUnknownWithin stores from (length stores) q x
    → IsUnorderedStore (did j p (Load a v)) (length j) a x
answering_kept_unknown j p a v q from stores x are y =
    let s = are.sound y.index y.store y.from_on y.at in
    subst (IsUnorderedStore (did j p (Load a v)) (length j) a) (sym y.is)
    (answering_kept_unordered_of j p a v q y.store.place y.store.value s.0 s.1)

-- of a value
pub answering_kept_of_value : (j : List Event) (p a v q from : ℕ) (stores : List KeptStore) → AreUnknownFrom j p a q stores from
    → HasUnknownOfValue stores from v → ModelConcurrentStore (did j p (Load a v)) (length j) a v
answering_kept_of_value j p a v q from stores are x =
    let s = are.sound x.index x.store x.from_on x.at in
    let u = answering_kept_unordered_of j p a v q x.store.place v (subst (λ w. Does j x.store.place q (Store a w)) x.is s.0) s.1 in
    record { place = x.store.place; by = q; stores = u.stores; before = u.before; unordered = u.unordered }

pub answering_kept_has_value : (j : List Event) (p a v q from : ℕ) (stores : List KeptStore) → AreUnknownFrom j p a q stores from
    → (x : ModelConcurrentStore (did j p (Load a v)) (length j) a v) → x.by ≡ q → HasUnknownOfValue stores from v
answering_kept_has_value j p a v q from stores are x by =
    let found = answering_kept_unordered j p a v q from stores (record { by = x.by; place = x.place; value = v }) are
    (record { stores = x.stores; before = x.before; unordered = x.unordered }) by in
    record {
      index = found.index;
      store = found.store;
      from_on = found.from_on;
      at = found.at;
      is = sym (ap (λ (y : FlatStore). y.value) found.is);
    }
