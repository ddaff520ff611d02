-- Which of the last kept stores of a past are its latest ones.
use Rattle.std.proofs.Common.{◌≡◌, ◌≢◌, ℕ, zero, suc, ◌+◌, ◌<◌, ◌≤◌, inl, inr, ◌↔◌, List, [], ◌++◌, length, subst, sym, ◌∙◌, arith}
use Rattle.std.proofs.lemmas.Bool.{cases_eq, cases_lt}
use Rattle.std.proofs.lemmas.List.{append-nil}
use Rattle.base.specs.InOrderOnce.{Has}
use Rattle.journal.specs.declared.event.Event.{Event}
use Rattle.journal.specs.declared.event.Kind.TheVariants.{Store}
use Rattle.journal.specs.DidEvent.{event}
use Rattle.journal.specs.EventsInRange.{EventProcessorsInRange}
use Rattle.journal.specs.HappensBeforeEdges.{HappensBefore}
use Rattle.journal.specs.Pasts.{InPast}
use Rattle.journal.specs.WellFormed.{Does}
use Rattle.journal.proofs.Order.HappensBefore.{happens_before_goes_forward, happens_before_transitive}
use Rattle.journal.proofs.Order.IntoPast.{into_past_within}
use Rattle.journal.proofs.Times.LeavingCloses.{leaving_closes_own_order}
use Rattle.judge.specs.declared.cut_rows.CutRows.{CutRows}
use Rattle.judge.specs.CutRows.{cut_entry}
use Rattle.judge.specs.declared.kept_store.KeptStore.{KeptStore}
use Rattle.judge.specs.KeptInPasts.{IsKeptStoreFollowed, IsLastKeptInPast}
use Rattle.judge.specs.declared.kept_stores.KeptStores.{KeptStores}
use Rattle.judge.specs.KeptStores.{AreKeptStores, AreKeptStoresOf, HasKeptStoreAt, IsKeptStore, kept_stores_of}
use Rattle.judge.specs.StoresInPasts.{IsLatestInPast, MayBeAnsweredLater}

-- what is given: of each of n processors what is kept of its stores to a
pub record IsGivenToChooseKept (n : ℕ) (j : List Event) (cuts : CutRows) (p a : ℕ) (of : ℕ → List KeptStore) : Type 0 where
  pub present : p < n
  pub range : EventProcessorsInRange n j
  pub kept : (q : ℕ) → q < n → AreKeptStores n j cuts a q (of q)

module _ (n : ℕ) (j : List Event) (cuts : CutRows) (p a : ℕ) (of : ℕ → List KeptStore) (given : IsGivenToChooseKept n j cuts p a of)
  where
    -- a last store is kept
    pub choosing_kept_store : (q : ℕ) (x : KeptStore) → q < n → IsLastKeptInPast j p (of q) x → IsKeptStore j cuts a q x
    choosing_kept_store q x lt last = (given.kept q lt).each last.has.0 x last.has.1

    -- there is one at most
    choosing_kept_same : (q : ℕ) (x y : KeptStore) → IsLastKeptInPast j p (of q) x → IsLastKeptInPast j p (of q) y → x.place ≡ y.place
    choosing_kept_same q x y one other =
        let up = one.last y other.has other.past in
        let down = other.last x one.has one.past in
        omega arith

    -- a latest store of the past is its processor's last one
    record IsChoosingKeptAt (q i : ℕ) : Type 0 where
      store : KeptStore
      below : q < n
      last : IsLastKeptInPast j p (of q) store
      place : store.place ≡ i

    choosing_kept_at : (q i : ℕ) → IsLatestInPast j p a q i → IsChoosingKeptAt q i
    choosing_kept_at q i x = record {
      store = kept.store;
      below = lt;
      last = record { has = kept.has; past = subst (InPast j p) (sym kept.place) x.past; last = last };
      place = kept.place;
    }
      where
        lt : q < n
        lt = given.range i (event q (Store a x.value)) x.does

        whole : j ++ [] ≡ j
        whole = append-nil j

        later : MayBeAnsweredLater n j a q i
        later = record {
          more = [];
          by = p;
          present = given.present;
          range = subst (EventProcessorsInRange n) (sym whole) given.range;
          may = inl (subst (λ xs. IsLatestInPast xs p a q i) (sym whole) x);
        }

        kept : HasKeptStoreAt (of q) i
        kept = (given.kept q lt).all i (into_past_within j p i x.past) later

        last : (y : KeptStore) → Has (of q) y → InPast j p y.place → y.place ≤ kept.store.place
        last y has past =
            let is = kept.place in
            let does = ((given.kept q lt).each has.0 y has.1).does in
            elim (cases_lt i y.place) [
              | inl after ↦ absurd (x.latest y.place q y.value does past
                  (leaving_closes_own_order j q i y.place (Store a x.value) (Store a y.value) x.does does after))
              | inr le ↦ omega arith
            ]

    -- where no last store is kept, there is no latest one
    pub choosing_kept_nothing : (q : ℕ) → ((y : KeptStore) → Has (of q) y → ¬ InPast j p y.place) → (i : ℕ) → ¬ IsLatestInPast j p a q i
    choosing_kept_nothing q none i x =
        let found = choosing_kept_at q i x in none found.store found.last.has found.last.past

    -- q's store before r's one: the cut of that has it
    choosing_kept_order : (q r : ℕ) (x y : KeptStore) → q ≢ r → q < n → r < n → IsLastKeptInPast j p (of q) x
        → IsLastKeptInPast j p (of r) y → HappensBefore j x.place y.place ↔ (x.place < cut_entry cuts y.cut q)
    choosing_kept_order q r x y apart below inside one other =
        (choosing_kept_store r y inside other).cut.covers x.place (event q (Store a x.value)) (choosing_kept_store q x below one).does apart

    -- with an unfollowed store before it, no store of the past can be
    choosing_kept_none_after : (q : ℕ) (x : KeptStore) → q < n → IsLastKeptInPast j p (of q) x
        → ¬ IsKeptStoreFollowed n j cuts p of q x → (k m r w : ℕ) → length j ≤ m + k
        → Does j m r (Store a w) → InPast j p m → HappensBefore j x.place m → ⊥
    choosing_kept_none_after q x below last free zero m r w near does past follows =
        let lt = into_past_within j p m past in absurd (omega arith)
    choosing_kept_none_after q x below last free (suc k) m r w near does past follows =
        let found = choosing_kept_at r m (record {
          value = w;
          does = does;
          past = past;
          latest = λ l s v to before on.
              (let forth = happens_before_goes_forward j on in
              choosing_kept_none_after q x below last free k l s v (omega arith) to before (happens_before_transitive j follows on));
        }) in
        let on : HappensBefore j x.place found.store.place = subst (HappensBefore j x.place) (sym found.place) follows in
        elim (cases_eq q r) [
          | inl same ↦
              (let place = choosing_kept_same q x found.store last
              (subst (λ y. IsLastKeptInPast j p (of y) found.store) (sym same) found.last) in
              let forth = happens_before_goes_forward j on in
              absurd (omega arith))
          | inr apart ↦ free (record {
            by = r;
            store = found.store;
            below = found.below;
            last = found.last;
            counts = (choosing_kept_order q r x found.store apart below found.below last found.last).0 on;
          })
        ]

    -- so it is a latest one
    pub choosing_kept_latest : (q : ℕ) (x : KeptStore) → q < n → IsLastKeptInPast j p (of q) x
        → ¬ IsKeptStoreFollowed n j cuts p of q x → IsLatestInPast j p a q x.place
    choosing_kept_latest q x below last free = record {
      value = x.value;
      does = (choosing_kept_store q x below last).does;
      past = last.past;
      latest = λ m r w does past follows. choosing_kept_none_after q x below last free (length j) m r w (omega arith) does past follows;
    }

    -- and where the last store is followed, there is no latest one
    pub choosing_kept_followed : (q : ℕ) (x : KeptStore) → q < n → IsLastKeptInPast j p (of q) x
        → IsKeptStoreFollowed n j cuts p of q x → (i : ℕ) → ¬ IsLatestInPast j p a q i
    choosing_kept_followed q x below last f i latest =
        let found = choosing_kept_at q i latest in
        let same = choosing_kept_same q x found.store last found.last in
        let place : x.place ≡ i = same ∙ found.place in
        let counts = f.counts in
        elim (cases_eq q f.by) [
          | inl is ↦
              (let one = choosing_kept_same q x f.store last (subst (λ y. IsLastKeptInPast j p (of y) f.store) (sym is) f.last) in
              let top = (choosing_kept_store f.by f.store f.below f.last).cut.within q in
              absurd (omega arith))
          | inr apart ↦
              (let on = (choosing_kept_order q f.by x f.store apart below f.below last f.last).1 counts in
              latest.latest f.store.place f.by f.store.value (choosing_kept_store f.by f.store f.below f.last).does f.last.past
              (subst (λ m. HappensBefore j m f.store.place) place on))
        ]

    -- the last store stands where the latest one does
    pub choosing_kept_place : (q i : ℕ) (x : KeptStore) → IsLastKeptInPast j p (of q) x → IsLatestInPast j p a q i → x.place ≡ i
    choosing_kept_place q i x last latest =
        let found = choosing_kept_at q i latest in choosing_kept_same q x found.store last found.last ∙ found.place

-- what is kept of a history
pub choosing_kept_given : (j : List Event) (s : KeptStores) (p a : ℕ) → AreKeptStoresOf j s → p < s.processors
    → IsGivenToChooseKept s.processors j s.known.cuts p a (kept_stores_of s a)
choosing_kept_given j s p a tells present =
    record { present = present; range = tells.processors; kept = λ q lt. tells.kept.stores a q lt }
