-- Where no two events race, the last store is what a load answers.
use Rattle.std.proofs.Common.{ℕ, ◌≡◌, ◌<◌, ◌≤◌, ◌⊎◌, inl, inr, ◌↔◌, List, [], ◌∷◌, length, replicate, Option, Some, slice_get, subst, sym, refl, ap, ◌∙◌, arith}
use Rattle.std.specs.Prelude.{None}
use Rattle.std.proofs.lemmas.Bool.{cases_order}
use Rattle.std.proofs.lemmas.Option.{same_Some}
use Rattle.journal.specs.declared.event.Event.{Event}
use Rattle.journal.specs.declared.event.Kind.{Kind}
use Rattle.journal.specs.declared.event.Kind.TheVariants.{Load, Store}
use Rattle.journal.specs.DidEvent.{did, event}
use Rattle.journal.specs.Events.{event_address}
use Rattle.journal.specs.WellFormed.{Does}
use Rattle.journal.specs.HappensBeforeEdges.{HappensBefore}
use Rattle.journal.specs.ExplainedAnswers.{IsAnswer, LatestExplainedAnswer}
use Rattle.journal.specs.Races.{RaceFree}
use Rattle.journal.specs.ReplayMemory.{memory_after}
use Rattle.journal.proofs.CopyOfPage.PageStores.{page_store_same}
use Rattle.journal.proofs.Flat.FlatConflicts.{flat_conflict_not_unordered, flat_conflict_of_store}
use Rattle.journal.proofs.Order.EventPlacesAndCounts.{event_place_at_end, event_place_longer, event_place_shorter, event_place_inside}
use Rattle.journal.proofs.Order.HappensBefore.{happens_before_goes_forward}
use Rattle.judge.specs.declared.flat_memory.FlatStore.{FlatStore}
use Rattle.judge.specs.LastFlatStores.{IsLastFlatStore, KeepsLastFlatStore}
use Rattle.judge.specs.Sources.Latest.{IsLatest}
use Rattle.judge.proofs.DecidedOrder.{decided_order}
use Rattle.judge.proofs.Flattening.{flattened_word, last_flat_store_word}

-- p loads v at a after j, and no two of all these events race
module _ (j : List Event) (p a v : ℕ) (free : RaceFree (did j p (Load a v)))
  where
    abbrev pub flat_answer_history : List Event
    flat_answer_history = did j p (Load a v)

    flat_answer_loads : Does flat_answer_history (length j) p (Load a v)
    flat_answer_loads = event_place_at_end j (event p (Load a v))

    -- a store of the history before the load is there with the load
    flat_answer_longer : (i q w : ℕ) → Does j i q (Store a w) → Does flat_answer_history i q (Store a w)
    flat_answer_longer i q w does = event_place_longer j (event p (Load a v) ∷ []) i (event q (Store a w)) does

    flat_answer_shorter : (i q w : ℕ) → i < length j → Does flat_answer_history i q (Store a w) → Does j i q (Store a w)
    flat_answer_shorter i q w lt does =
        event_place_shorter j (event p (Load a v) ∷ []) i (event q (Store a w)) lt does

    -- a store is not unordered with a later access of its address
    flat_answer_ordered : (m n q u y : ℕ) (f : Kind) → m < n → event_address f ≡ Some a → Does flat_answer_history m q (Store a u)
        → Does flat_answer_history n y f → ¬ (¬ HappensBefore flat_answer_history m n)
    flat_answer_ordered m n q u y f less at does to =
        flat_conflict_not_unordered less does to (flat_conflict_of_store q y a u f at) (free m n)

    -- a store before the load happens before it
    flat_answer_before : (i q w : ℕ) → Does j i q (Store a w) → HappensBefore flat_answer_history i (length j)
    flat_answer_before i q w does = elim (decided_order flat_answer_history i (length j)) [
      | inl before ↦ before
      | inr apart ↦ absurd (flat_answer_ordered i (length j) q w p (Load a v) (event_place_inside j i (event q (Store a w)) does) refl
          (flat_answer_longer i q w does) flat_answer_loads apart)
    ]

    -- the last store is a latest one of the load's past
    flat_answer_latest : (x : FlatStore) → IsLastFlatStore j a x → LatestExplainedAnswer flat_answer_history (length j) a x.value
    flat_answer_latest x last = record {
      place = x.place;
      by = x.by;
      stores = flat_answer_longer x.place x.by x.value last.stores;
      before = flat_answer_before x.place x.by x.value last.stores;
      latest = λ i q w does before after.
          (let lt = happens_before_goes_forward flat_answer_history before in
          let le = last.last i q w (flat_answer_shorter i q w lt does) in
          let more = happens_before_goes_forward flat_answer_history after in
          omega arith);
    }

    -- and no other is
    flat_answer_alone : (x : FlatStore) {w : ℕ} → IsLastFlatStore j a x → (s : LatestExplainedAnswer flat_answer_history (length j) a w)
        → s.place ≡ x.place
    flat_answer_alone x {w = w} last s = go (cases_order s.place x.place)
      where
        lt : s.place < length j
        lt = happens_before_goes_forward flat_answer_history s.before

        le : s.place ≤ x.place
        le = last.last s.place s.by w (flat_answer_shorter s.place s.by w lt s.stores)

        go : (s.place ≡ x.place) ⊎ ((s.place < x.place) ⊎ (x.place < s.place)) → s.place ≡ x.place
        go (inl is) = is
        go (inr (inl less)) =
            absurd (flat_answer_ordered s.place x.place s.by w x.by (Store a x.value) less refl s.stores
            (flat_answer_longer x.place x.by x.value last.stores)
            (s.latest x.place x.by x.value (flat_answer_longer x.place x.by x.value last.stores)
            (flat_answer_before x.place x.by x.value last.stores)))
        go (inr (inr more)) = absurd (omega (arith, le, more))

    -- of each processor the latest store is the last one, if it is this processor's
    pub flat_answer_places : (o : Option FlatStore) → KeepsLastFlatStore j a o → (q i : ℕ)
        → ((x : FlatStore) × (o ≡ Some x) × (x.by ≡ q) × (x.place ≡ i)) ↔ IsLatest flat_answer_history (length j) a q i
    unfolding flat_answer_latest
    flat_answer_places None none q i = (
      λ given. absurd (cc given.1),
      λ latest. (let lt = happens_before_goes_forward flat_answer_history latest.store.before in
          absurd (none latest.store.place latest.store.by latest.value (flat_answer_shorter latest.store.place latest.store.by latest.value lt latest.store.stores))),
    )
    flat_answer_places (Some x) last q i = (there, back)
      where
        there : ((y : FlatStore) × (Some x ≡ Some y) × (y.by ≡ q) × (y.place ≡ i)) → IsLatest flat_answer_history (length j) a q i
        there (y, same, by, place) =
            let is : x ≡ y = same_Some x y same in
            record {
              value = x.value;
              store = flat_answer_latest x last;
              place = ap (λ (z : FlatStore). z.place) is ∙ place;
              by = ap (λ (z : FlatStore). z.by) is ∙ by;
            }

        back : IsLatest flat_answer_history (length j) a q i → (y : FlatStore) × (Some x ≡ Some y) × (y.by ≡ q) × (y.place ≡ i)
        back latest =
            let alone = flat_answer_alone x last latest.store in
            let here = subst (λ m. Does flat_answer_history m latest.store.by (Store a latest.value)) alone latest.store.stores in
            (x, refl, (page_store_same flat_answer_history x.place (flat_answer_longer x.place x.by x.value last.stores) here).0 ∙ latest.by, sym alone ∙ latest.place)

    -- what it may answer is the word that the last store left
    pub flat_answer_word : (o : Option FlatStore) → KeepsLastFlatStore j a o
        → (last_flat_store_word o ≡ v) ↔ IsAnswer flat_answer_history (length j) a v
    flat_answer_word None none = (
      λ is. inl (sym is, λ i q w does before. none i q w (flat_answer_shorter i q w (happens_before_goes_forward flat_answer_history before) does)),
      λ answer. elim answer [
        | inl untouched ↦ sym untouched.0
        | inr s ↦ absurd (none s.place s.by v (flat_answer_shorter s.place s.by v (happens_before_goes_forward flat_answer_history s.before) s.stores))
      ],
    )
    flat_answer_word (Some x) last = (
      λ is. inr (subst (LatestExplainedAnswer flat_answer_history (length j) a) is (flat_answer_latest x last)),
      λ answer. elim answer [
        | inl untouched ↦ absurd (untouched.1 x.place x.by x.value (flat_answer_longer x.place x.by x.value last.stores)
            (flat_answer_before x.place x.by x.value last.stores))
        | inr s ↦
            (let here = subst (λ m. Does flat_answer_history m s.by (Store a v)) (flat_answer_alone x last s) s.stores in
            (page_store_same flat_answer_history x.place (flat_answer_longer x.place x.by x.value last.stores) here).2)
      ],
    )

    -- the same of the whole memory
    pub flat_answer_memory : (n : ℕ) (o : Option FlatStore) → a < n → KeepsLastFlatStore j a o
        → (slice_get (memory_after (replicate n 0) j) a ≡ Some v) ↔ IsAnswer flat_answer_history (length j) a v
    flat_answer_memory n o lt keeps =
        let word = flattened_word n j a o lt keeps in
        let tells = flat_answer_word o keeps in (
          λ is. tells.0 (same_Some (last_flat_store_word o) v (sym word ∙ is)),
          λ answer. word ∙ ap Some (tells.1 answer),
        )
