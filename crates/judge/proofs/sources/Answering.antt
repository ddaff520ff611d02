-- The latest stores of a load are what it may answer.
use Rattle.std.proofs.Common.{◌≡◌, ℕ, zero, suc, ◌+◌, ◌<◌, ◌≤◌, inl, inr, ◌↔◌, List, [], ◌∷◌, ◌++◌, length, subst, refl, ap, arith}
use Rattle.base.proofs.SlicesAndCounts.{slice_push_cases}
use Rattle.journal.specs.declared.event.Event.{Event}
use Rattle.journal.specs.declared.event.Kind.TheVariants.{Load, Store}
use Rattle.journal.specs.DidEvent.{did, event}
use Rattle.journal.specs.HappensBeforeEdges.{HappensBefore}
use Rattle.journal.specs.WellFormed.{Does}
use Rattle.journal.specs.ExplainedAnswers.{IsAnswer, LatestExplainedAnswer, UntouchedExplainedAnswer}
use Rattle.journal.proofs.Order.EventPlacesAndCounts.{event_place_longer, event_place_shorter, event_place_does_same}
use Rattle.journal.proofs.Order.HappensBefore.{happens_before_goes_forward}
use Rattle.judge.specs.Sources.Latest.{IsLatest}
use Rattle.judge.specs.Sources.LatestAnswers.{IsLatestAnswer}
use Rattle.judge.proofs.sources.LoadRows.{load_row_latest_longer, load_row_latest_shorter}

-- a store of the past at most n places before the load, where none is the latest, can't be
answering_none_before : (j : List Event) (k a : ℕ) → ((q i : ℕ) → ¬ IsLatest j k a q i) → (n i q v : ℕ) → k ≤ i + n
    → Does j i q (Store a v) → HappensBefore j i k → ⊥
answering_none_before j k a none zero i q v near does before = let lt = happens_before_goes_forward j before in absurd (omega arith)
answering_none_before j k a none (suc n) i q v near does before =
    none q i (record {
      value = v;
      store = record {
        place = i;
        by = q;
        stores = does;
        before = before;
        latest = λ m r w stores then_before follows. (let lt = happens_before_goes_forward j follows in
            answering_none_before j k a none n m r w (omega arith) stores then_before);
      };
      place = refl;
      by = refl;
    })

-- a past without a latest store has no store
pub answering_untouched : (j : List Event) (k a : ℕ) → ((q i : ℕ) → ¬ IsLatest j k a q i) → UntouchedExplainedAnswer j k a
answering_untouched j k a none i q v does before = answering_none_before j k a none k i q v (omega arith) does before

answering_one_value : (a v b w : ℕ) → Store a v ≡ Store b w → v ≡ w
answering_one_value a v b w is = cc

pub answering_law : (j : List Event) (k a v : ℕ) → IsAnswer j k a v ↔ IsLatestAnswer j k a v
answering_law j k a v = (there, back)
  where
    there : IsAnswer j k a v → IsLatestAnswer j k a v
    there (inl x) = inl (x.0, λ q i l. x.1 l.store.place l.store.by l.value l.store.stores l.store.before)
    there (inr l) =
        inr (l.by, l.place, record { value = v; store = l; place = refl; by = refl }, l.stores)

    back : IsLatestAnswer j k a v → IsAnswer j k a v
    back (inl x) = inl (x.0, answering_untouched j k a x.1)
    back (inr x) =
        let l = x.2 in
        let stores =
        subst (λ n. Does j n x.0 (Store a l.value)) l.place
        (subst (λ n. Does j l.store.place n (Store a l.value)) l.by l.store.stores) in
        let same = event_place_does_same j x.1 x.0 x.0 (Store a l.value) (Store a v) stores x.3 in
        inr (subst (LatestExplainedAnswer j k a) (answering_one_value a l.value a v same.1) l.store)

-- the load doesn't store
answering_load_apart : (a v b w p q : ℕ) → event p (Load a v) ≡ event q (Store b w) → ⊥
answering_load_apart a v b w p q e = let k = ap (λ x. x.kind) e in cc

-- the stores before a load that comes next are the journal's
pub answering_store_shorter : (j : List Event) (p a v i q b w : ℕ) → Does (did j p (Load a v)) i q (Store b w)
    → Does j i q (Store b w)
answering_store_shorter j p a v i q b w does = elim (slice_push_cases j (event p (Load a v)) i (event q (Store b w)) does) [
  | inl old ↦ old.1
  | inr new ↦ absurd (answering_load_apart a v b w p q new.1)
]

-- a latest store of a load that comes next stands in the journal
pub answering_store_at : (j : List Event) (p a v q i : ℕ) (x : IsLatest (did j p (Load a v)) (length j) a q i)
    → Does j i q (Store a x.value)
answering_store_at j p a v q i x =
    let lt = happens_before_goes_forward (did j p (Load a v)) x.store.before in
    let is = x.place in
    event_place_shorter j (event p (Load a v) ∷ []) i (event q (Store a x.value)) (omega arith)
    (subst (λ n. Does (did j p (Load a v)) n q (Store a x.value)) x.place
    (subst (λ n. Does (did j p (Load a v)) x.store.place n (Store a x.value)) x.by x.store.stores))

-- what a load may answer stays as the journal goes on
pub answering_longer_law : (j es : List Event) (k a v : ℕ) → k < length j → IsAnswer (j ++ es) k a v ↔ IsAnswer j k a v
answering_longer_law j es k a v within = (there, back)
  where
    there : IsAnswer (j ++ es) k a v → IsAnswer j k a v
    there h = elim ((answering_law (j ++ es) k a v).0 h) [
      | inl x ↦ (answering_law j k a v).1 (inl (x.0, λ q i l. x.1 q i (load_row_latest_longer j es k a q i within l)))
      | inr x ↦ (let l = load_row_latest_shorter j es k a x.0 x.1 within x.2 in
          let lt = happens_before_goes_forward j l.store.before in
          let is = l.place in
          (answering_law j k a v).1
          (inr (x.0, x.1, l, event_place_shorter j es x.1 (event x.0 (Store a v)) (omega arith) x.3)))
    ]

    back : IsAnswer j k a v → IsAnswer (j ++ es) k a v
    back h = elim ((answering_law j k a v).0 h) [
      | inl x ↦ (answering_law (j ++ es) k a v).1
          (inl (x.0, λ q i l. x.1 q i (load_row_latest_shorter j es k a q i within l)))
      | inr x ↦ (answering_law (j ++ es) k a v).1 (inr (
        x.0,
        x.1,
        load_row_latest_longer j es k a x.0 x.1 within x.2,
        event_place_longer j es x.1 (event x.0 (Store a v)) x.3,
      ))
    ]
