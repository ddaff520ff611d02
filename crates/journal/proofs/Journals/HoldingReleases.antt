-- Locks: at most one holder, and the releases of a lock in order.
use Rattle.std.proofs.Common.{◌≡◌, ℕ, ◌<◌, inl, inr, List, [], ◌∷◌, ◌++◌, length, take, subst, sym, refl, ◌∙◌, arith}
use Rattle.std.proofs.lemmas.Bool.{cases_order}
use Rattle.journal.specs.declared.event.Event.{Event}
use Rattle.journal.specs.declared.event.Kind.TheVariants.{Acquire, Release}
use Rattle.journal.specs.DidEvent.{event}
use Rattle.journal.specs.Sizes.{Sizes}
use Rattle.journal.specs.HappensBeforeEdges.{HappensBefore}
use Rattle.journal.specs.HappensBeforeEdges.Link.{same, lets}
use Rattle.journal.specs.HappensBeforeEdges.HappensBefore.{edge, on}
use Rattle.journal.specs.WellFormed.{Does, Holds, WellFormed}
use Rattle.journal.specs.Pasts.{UpTo, InPastOfSome}
use Rattle.journal.specs.Times.{IsTimeIn, IsTimeOf}
use Rattle.journal.specs.Brings.{BringsFromKind}
use Rattle.base.proofs.SlicesAndCounts.{slice_get-take, slice_get-take_within, slice_get-from_take, slice_push_cases}
use Rattle.journal.proofs.Order.EventPlacesAndCounts.{event_place_at_end, event_place_does_same}
use Rattle.journal.proofs.Order.IntoPast.{into_past_up_to_back}
use Rattle.journal.proofs.Times.TimesOfPlaces.{time_of_places_same}
use Rattle.journal.proofs.Times.PushedTimes.{pushed_time_at_last}
use Rattle.journal.proofs.Journals.WellFormedStays.{well_formed_stays_take}

-- a holder's hold at a front that has its acquire
holding_release_take : (j : List Event) (n p l : ℕ) (h : Holds j p l) → h.place < n → Holds (take n j) p l
holding_release_take j n p l h lt = record {
  place = h.place;
  acquires = slice_get-take j n h.place lt ∙ h.acquires;
  keeps = λ k after does. h.keeps k after (slice_get-from_take j n k (event p (Release l)) does);
}

holding_release_not_before : (s : Sizes) (j : List Event) → WellFormed s j → (p q l : ℕ) (a : Holds j p l) (b : Holds j q l)
    → a.place < b.place → ⊥
holding_release_not_before s j well p q l a b lt =
    (well b.place (event q (Acquire l)) b.acquires).allowed.2.free p (holding_release_take j b.place p l a lt)

-- a lock has at most one holder
pub holding_release_alone : (s : Sizes) (j : List Event) → WellFormed s j → (p q l : ℕ) → Holds j p l → Holds j q l → p ≡ q
holding_release_alone s j well p q l a b = elim (cases_order a.place b.place) [
  | inl is ↦ (event_place_does_same j b.place p q (Acquire l) (Acquire l) (subst (λ m. Does j m p (Acquire l)) is a.acquires)
      b.acquires).0
  | inr apart ↦ elim apart
      [ inl lt ↦ absurd (holding_release_not_before s j well p q l a b lt) | inr lt ↦ absurd (holding_release_not_before s j well q p l b a lt) ]
]

-- two releases of a lock are ordered
pub holding_releases_ordered : {p q l : ℕ} → (s : Sizes) (j : List Event) → WellFormed s j → (m k : ℕ) → m < k
    → Does j m p (Release l) → Does j k q (Release l) → HappensBefore j m k
holding_releases_ordered {p} {q} {l} s j well m k lt first second = elim (cases_order m h.place) [
  | inl is ↦ absurd
      (cc ((event_place_does_same j h.place p q (Release l) (Acquire l) (subst (λ x. Does j x p (Release l)) is first) taken).1))
  | inr apart ↦ elim apart [ inl before ↦ between before | inr after ↦ absurd (held after) ]
]
  where
    h : Holds (take k j) q l
    h = (well k (event q (Release l)) second).allowed

    taken : Does j h.place q (Acquire l)
    taken = slice_get-from_take j k h.place (event q (Acquire l)) h.acquires

    within : h.place < k
    within = slice_get-take_within j k h.place (event q (Acquire l)) h.acquires

    between : m < h.place → HappensBefore j m k
    between before =
        on (edge (record {
          before = before;
          from = event p (Release l);
          to = event q (Acquire l);
          from_at = first;
          to_at = taken;
          link = lets refl;
        }))
        (record {
          before = within;
          from = event q (Acquire l);
          to = event q (Release l);
          from_at = taken;
          to_at = second;
          link = same refl;
        })

    held : h.place < m → ⊥
    held after =
        let mine : Holds (take m j) q l = record {
          place = h.place;
          acquires = slice_get-take j m h.place after ∙ taken;
          keeps =
              λ x lt_x does. (let in_m = slice_get-take_within j m x (event q (Release l)) does in
              h.keeps x lt_x
              (slice_get-take j k x (omega arith) ∙ slice_get-from_take j m x (event q (Release l)) does));
        } in
        let is =
        holding_release_alone s (take m j) (well_formed_stays_take s j m well) q p l mine
        (well m (event p (Release l)) first).allowed in
        h.keeps m after (slice_get-take j k m lt ∙ subst (λ x. Does j m x (Release l)) (sym is) first)

-- after a release, what the lock keeps is the releaser's timestamp
pub holding_release_time : (s : Sizes) (j : List Event) (e : Event) (l : ℕ) (t : ℕ → ℕ) → e.kind ≡ Release l
    → WellFormed s (j ++ e ∷ []) → IsTimeOf (j ++ e ∷ []) e.processor t
    → IsTimeIn (j ++ e ∷ []) (InPastOfSome (j ++ e ∷ []) (BringsFromKind (j ++ e ∷ []) (Release l))) t
holding_release_time s j e l t is well time =
    time_of_places_same (j ++ e ∷ []) (UpTo (j ++ e ∷ []) (length j))
    (InPastOfSome (j ++ e ∷ []) (BringsFromKind (j ++ e ∷ []) (Release l))) t (λ i. (there i, back i))
    (pushed_time_at_last j e t time)
  where
    releases : Does (j ++ e ∷ []) (length j) e.processor (Release l)
    releases = subst (λ k. Does (j ++ e ∷ []) (length j) e.processor k) is (event_place_at_end j e)

    there : (i : ℕ) → UpTo (j ++ e ∷ []) (length j) i → InPastOfSome (j ++ e ∷ []) (BringsFromKind (j ++ e ∷ []) (Release l)) i
    there i h = (length j, (e.processor, releases), h)

    last : (k : ℕ) → BringsFromKind (j ++ e ∷ []) (Release l) k → UpTo (j ++ e ∷ []) (length j) k
    last k h = elim (slice_push_cases j e k (event h.0 (Release l)) h.1) [
      | inl old ↦ inr (holding_releases_ordered s (j ++ e ∷ []) well k (length j) old.0 h.1 releases)
      | inr new ↦ inl new.0
    ]

    step : (i k : ℕ) → UpTo (j ++ e ∷ []) (length j) k → UpTo (j ++ e ∷ []) k i → UpTo (j ++ e ∷ []) (length j) i
    step i k up (inl here) = subst (λ m. UpTo (j ++ e ∷ []) (length j) m) (sym here) up
    step i k up (inr h) = into_past_up_to_back (j ++ e ∷ []) i k (length j) h up

    back : (i : ℕ) → InPastOfSome (j ++ e ∷ []) (BringsFromKind (j ++ e ∷ []) (Release l)) i → UpTo (j ++ e ∷ []) (length j) i
    back i h = step i h.0 (last h.0 h.1) h.2
