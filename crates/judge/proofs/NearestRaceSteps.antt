-- Each processor's last accesses, and the race that is nearest to an event.
use Rattle.std.proofs.Common.{◌≡◌, ◌≢◌, ℕ, ◌+◌, ◌/◌, ◌%◌, ◌<◌, ◌≤◌, ◌⊎◌, inl, inr, ◌↔◌, Bool, IsTrue, List, [], ◌∷◌, ◌++◌, length, Option, Some, subst, sym, refl, ap, ◌∙◌, arith, length-append}
use Rattle.std.specs.Prelude.{None, IfSome}
use Rattle.std.proofs.lemmas.Bool.{cases_eq, cases_lt, eq-eqb, eqb-true}
use Rattle.std.proofs.lemmas.Option.{same_Some, none-some}
use Rattle.std.proofs.lemmas.Nat.{div-mul-add, mod-mul-add}
use Rattle.base.proofs.SlicesAndCounts.{slice_push_cases}
use Rattle.journal.specs.declared.event.Event.{Event}
use Rattle.journal.specs.declared.event.Kind.{Kind}
use Rattle.journal.specs.declared.event.Kind.TheVariants.{Load, Store}
use Rattle.journal.specs.DidEvent.{did, event}
use Rattle.journal.specs.Events.{EventAt, event_address, event_stores}
use Rattle.journal.specs.WellFormed.{Does}
use Rattle.journal.specs.EventsInRange.{EventProcessorsInRange}
use Rattle.journal.specs.Races.{Conflict, Race, RaceFree}
use Rattle.journal.proofs.Order.EventPlacesAndCounts.{event_place_inside, event_place_longer, event_place_shorter, event_place_at_end}
use Rattle.journal.proofs.Order.HappensBefore.{happens_before_longer, happens_before_shorter}
use Rattle.journal.proofs.Passes.NextRaces.{next_race_events}
use Rattle.judge.specs.Cuts.{IsCutOf}
use Rattle.judge.specs.NearestRaces.{AreNearestRaceAccesses, IsNearestRaceAccess, IsNearestRaceAccessOf, IsNearestRaceLastUnknown, IsNearestRace, IsNearestRaceTo, IsNearestRaceUnknown, SomeNearestRaceUnknown, is_nearest_race_access, is_nearest_race_store, nearest_race_row}
use Rattle.judge.proofs.TellingCuts.{cut_tells_race}
use Rattle.judge.specs.declared.sparse_table.SparseTable.{SparseTable}
use Rattle.judge.specs.SparseTables.{IsSparseWith, sparse_at}

-- an event of another processor or kind leaves the last access
pub nearest_race_access_others : (j : List Event) (e : Event) (is : Kind → Bool) (q : ℕ) (o : Option ℕ)
    → (e.processor ≡ q → ¬ IsTrue (is e.kind)) → IsNearestRaceAccessOf j is q o → IsNearestRaceAccessOf (j ++ e ∷ []) is q o
nearest_race_access_others j e is q None away none = λ i k does counts. elim (slice_push_cases j e i (event q k) does) [
  | inl old ↦ none i k old.1 counts
  | inr new ↦ away (ap (λ (x : Event). x.processor) new.1)
      (subst (λ z. IsTrue (is z)) (sym (ap (λ (x : Event). x.kind) new.1)) counts)
]
nearest_race_access_others j e is q (Some place) away last = record {
  kind = last.kind;
  does = event_place_longer j (e ∷ []) place (event q last.kind) last.does;
  counts = last.counts;
  last = λ i k does counts. elim (slice_push_cases j e i (event q k) does) [
    | inl old ↦ last.last i k old.1 counts
    | inr new ↦ absurd (away (ap (λ (z : Event). z.processor) new.1)
        (subst (λ z. IsTrue (is z)) (sym (ap (λ (y : Event). y.kind) new.1)) counts))
  ];
}

-- an event of these kinds is its processor's last one
pub nearest_race_access_next : (j : List Event) (p : ℕ) (k : Kind) (is : Kind → Bool) (place : ℕ) → IsTrue (is k)
    → place ≡ length j → IsNearestRaceAccess (did j p k) is p place
nearest_race_access_next j p k is place counts at = record {
  kind = k;
  does = subst (λ n. Does (did j p k) n p k) (sym at) (event_place_at_end j (event p k));
  counts = counts;
  last = λ i b does here.
      (let lt = event_place_inside (did j p k) i (event p b) does in
      let long = length-append j (event p k ∷ []) in
      omega arith);
}

-- an event of no such kind leaves the rows
pub nearest_race_rows_left : (n : ℕ) (j : List Event) (e : Event) (of : ℕ → Kind → Bool) (rows : ℕ → Option ℕ)
    → ((a : ℕ) → ¬ IsTrue (of a e.kind)) → AreNearestRaceAccesses n j of rows → AreNearestRaceAccesses n (j ++ e ∷ []) of rows
nearest_race_rows_left n j e of rows away are a q lt =
    nearest_race_access_others j e (of a) q (rows (nearest_race_row n a q)) (λ same. away a) (are a q lt)

-- a row is of one address and one processor
pub nearest_race_row_one : (n a b p q : ℕ) → p < n → q < n → nearest_race_row n b q ≡ nearest_race_row n a p → (a ≡ b) × (p ≡ q)
nearest_race_row_one n a b p q few lt same = (
  sym (div-mul-add a n p few) ∙ (ap (λ m. m / n) (sym same) ∙ div-mul-add b n q lt),
  sym (mod-mul-add a n p few) ∙ (ap (λ m. m % n) (sym same) ∙ mod-mul-add b n q lt),
)

-- an access of a is kept in its row
pub nearest_race_rows_kept : {n : ℕ} (j : List Event) (p : ℕ) (a : ℕ) (k : Kind) (of : ℕ → Kind → Bool) {old new : SparseTable ℕ} {place : ℕ}
    → ((b : ℕ) → IsTrue (of b k) → a ≡ b) → IsNearestRaceAccess (did j p k) (of a) p place
    → IsSparseWith old new (nearest_race_row n a p) place → p < n → AreNearestRaceAccesses n j of (sparse_at old)
    → AreNearestRaceAccesses n (did j p k) of (sparse_at new)
nearest_race_rows_kept {n = n} j p a k of {old = old} {new = new} {place = place} one last written few are b q lt =
    elim (cases_eq (nearest_race_row n b q) (nearest_race_row n a p)) [
      | inl same ↦
          (let both = nearest_race_row_one n a b p q few lt same in
          let is : Some place ≡ sparse_at new (nearest_race_row n b q) = sym (ap (sparse_at new) same ∙ written.now) in
          subst (IsNearestRaceAccessOf (did j p k) (of b) q) is
          (subst (λ m. IsNearestRaceAccess (did j p k) (of m) q place) both.0
          (subst (λ m. IsNearestRaceAccess (did j p k) (of a) m place) both.1 last)))
      | inr other ↦
          subst (IsNearestRaceAccessOf (did j p k) (of b) q) (sym (written.others (nearest_race_row n b q) other))
          (nearest_race_access_others j (event p k) (of b) q (sparse_at old (nearest_race_row n b q))
          (λ processor yes_is. other
          (ap (λ m. nearest_race_row n m q) (sym (one b yes_is)) ∙ ap (λ m. nearest_race_row n a m) (sym processor)))
          (are b q lt))
    ]

-- before the first event there is none
pub nearest_race_rows_start : (n : ℕ) (of : ℕ → Kind → Bool) (rows : ℕ → Option ℕ) → ((r : ℕ) → rows r ≡ None)
    → AreNearestRaceAccesses n [] of rows
nearest_race_rows_start n of rows none a q lt =
    subst (IsNearestRaceAccessOf [] (of a) q) (sym (none (nearest_race_row n a q))) (λ i k does counts. none-some (event q k) does)

-- ---- the kinds

pub nearest_race_store_address : (a v b : ℕ) → IsTrue (is_nearest_race_store b (Store a v)) → a ≡ b
nearest_race_store_address a v b counts = eqb-true a b counts

pub nearest_race_access_address : (k : Kind) (a b : ℕ) → event_address k ≡ Some a → IsTrue (is_nearest_race_access b k) → a ≡ b
nearest_race_access_address (Load c v) a b is counts = sym (same_Some c a is) ∙ eqb-true c b counts
nearest_race_access_address (Store c v) a b is counts = sym (same_Some c a is) ∙ eqb-true c b counts
nearest_race_access_address _ a b is counts = absurd cc

-- a load of a conflicts with the stores to it
pub nearest_race_load_conflicts : (f : Event) (p a v : ℕ) → Conflict f (event p (Load a v)) ↔ IsTrue (is_nearest_race_store a f.kind)
nearest_race_load_conflicts f p a v = (there f.kind refl, back f.kind refl)
  where
    there : (k : Kind) → f.kind ≡ k → Conflict f (event p (Load a v)) → IsTrue (is_nearest_race_store a k)
    there (Store b w) is c =
        let one : b ≡ c.address = same_Some b c.address (sym (ap event_address is) ∙ c.first) in
        let two : a ≡ c.address = same_Some a c.address c.second in
        eq-eqb b a (one ∙ sym two)
    there (Load b w) is c = elim c.stores [
      | inl yes_is ↦ absurd (cc (ap event_stores is, yes_is))
      | inr never ↦ absurd (cc never)
    ]
    there k is c = elim c.stores [
      | inl yes_is ↦ absurd (cc (ap event_stores is, yes_is))
      | inr never ↦ absurd (cc never)
    ]

    back : (k : Kind) → f.kind ≡ k → IsTrue (is_nearest_race_store a k) → Conflict f (event p (Load a v))
    back (Store b w) is counts = record {
      address = a;
      first = ap event_address is ∙ ap (λ n. Some n) (eqb-true b a counts);
      second = refl;
      stores = inl (ap event_stores is);
    }
    back _ is counts = absurd (cc counts)

-- a store to a conflicts with all accesses of it
pub nearest_race_store_conflicts : (f : Event) (p a v : ℕ) → Conflict f (event p (Store a v)) ↔ IsTrue (is_nearest_race_access a f.kind)
nearest_race_store_conflicts f p a v = (there f.kind refl, back f.kind refl)
  where
    there : (k : Kind) → f.kind ≡ k → Conflict f (event p (Store a v)) → IsTrue (is_nearest_race_access a k)
    there (Load b w) is c =
        let one : b ≡ c.address = same_Some b c.address (sym (ap event_address is) ∙ c.first) in
        let two : a ≡ c.address = same_Some a c.address c.second in
        eq-eqb b a (one ∙ sym two)
    there (Store b w) is c =
        let one : b ≡ c.address = same_Some b c.address (sym (ap event_address is) ∙ c.first) in
        let two : a ≡ c.address = same_Some a c.address c.second in
        eq-eqb b a (one ∙ sym two)
    there k is c = absurd (cc (ap event_address is, c.first))

    back : (k : Kind) → f.kind ≡ k → IsTrue (is_nearest_race_access a k) → Conflict f (event p (Store a v))
    back (Load b w) is counts = record {
      address = a;
      first = ap event_address is ∙ ap (λ n. Some n) (eqb-true b a counts);
      second = refl;
      stores = inr refl;
    }
    back (Store b w) is counts = record {
      address = a;
      first = ap event_address is ∙ ap (λ n. Some n) (eqb-true b a counts);
      second = refl;
      stores = inr refl;
    }
    back _ is counts = absurd (cc counts)

-- ---- the last access that isn't in a cut

-- one processor more
pub nearest_race_unknown_none : (rows : ℕ → Option ℕ) (row : ℕ) (t : ℕ → ℕ) (p n : ℕ) (o : Option ℕ)
    → IsNearestRaceLastUnknown rows row t p n o → ((i : ℕ) → ¬ IsNearestRaceUnknown rows row t p n i)
    → IsNearestRaceLastUnknown rows row t p (n + 1) o
nearest_race_unknown_none rows row t p n None before none = λ i x. elim (cases_lt x.by n) [
  | inl lt ↦ before i (record { by = x.by; below = lt; is = x.is })
  | inr le ↦ (let same : x.by ≡ n = (let b = x.below in omega arith) in
      none i (subst (λ q. IsNearestRaceUnknown rows row t p q i) same x.is))
]
nearest_race_unknown_none rows row t p n (Some k) before none = (
  record { by = before.0.by; below = (let b = before.0.below in omega arith); is = before.0.is },
  λ m x. elim (cases_lt x.by n) [
    | inl lt ↦ before.1 m (record { by = x.by; below = lt; is = x.is })
    | inr le ↦ (let same : x.by ≡ n = (let b = x.below in omega arith) in
        absurd (none m (subst (λ q. IsNearestRaceUnknown rows row t p q m) same x.is)))
  ],
)

-- two of one row are one
nearest_race_unknown_one : (rows : ℕ → Option ℕ) (row : ℕ) (t : ℕ → ℕ) (p q i m : ℕ) → IsNearestRaceUnknown rows row t p q i
    → IsNearestRaceUnknown rows row t p q m → i ≡ m
nearest_race_unknown_one rows row t p q i m x y = same_Some i m (sym x.at ∙ y.at)

pub nearest_race_unknown_some : {rows : ℕ → Option ℕ} {row : ℕ} {t : ℕ → ℕ} {p n place : ℕ} (k : ℕ) (o : Option ℕ)
    → IsNearestRaceLastUnknown rows row t p n o → IsNearestRaceUnknown rows row t p n place → place ≤ k → IfSome o (λ m. m ≤ k)
    → (k ≡ place) ⊎ (o ≡ Some k) → IsNearestRaceLastUnknown rows row t p (n + 1) (Some k)
nearest_race_unknown_some {rows = rows} {row = row} {t = t} {p = p} {n = n} {place = place} k None before here le old one = (
  record { by = n; below = omega arith; is = subst (IsNearestRaceUnknown rows row t p n) (sym is) here },
  λ m x. elim (cases_lt x.by n) [
    | inl lt ↦ absurd (before m (record { by = x.by; below = lt; is = x.is }))
    | inr below ↦ (let same : x.by ≡ n = (let b = x.below in omega arith) in
        let at = nearest_race_unknown_one rows row t p n m place (subst (λ q. IsNearestRaceUnknown rows row t p q m) same x.is) here in
        omega arith)
  ],
)
  where
    is : k ≡ place
    is = elim one [ inl same ↦ same | inr other ↦ absurd (none-some k other) ]
nearest_race_unknown_some {rows = rows} {row = row} {t = t} {p = p} {n = n} {place = place} k (Some m) before here le old one = (
  elim one [
    | inl same ↦ record { by = n; below = omega arith; is = subst (IsNearestRaceUnknown rows row t p n) (sym same) here }
    | inr other ↦ record {
      by = before.0.by;
      below = (let b = before.0.below in omega arith);
      is = subst (IsNearestRaceUnknown rows row t p before.0.by) (same_Some m k other) before.0.is;
    }
  ],
  λ i x. elim (cases_lt x.by n) [
    | inl lt ↦ (let top = before.1 i (record { by = x.by; below = lt; is = x.is }) in omega arith)
    | inr below ↦ (let same : x.by ≡ n = (let b = x.below in omega arith) in
        let at = nearest_race_unknown_one rows row t p n i place (subst (λ q. IsNearestRaceUnknown rows row t p q i) same x.is) here in
        omega arith)
  ],
)

-- ---- it is the nearest race

-- what is given: the rows from this one on have the last accesses of the first n processors, all there are, that conflict
-- with e, and t is the cut of e's processor before it
pub record IsNearestRaceRow (j : List Event) (e : Event) (is : Kind → Bool) (t : ℕ → ℕ) (rows : ℕ → Option ℕ) (row n : ℕ) : Type 0 where
  pub conflicts : (f : Event) → Conflict f e ↔ IsTrue (is f.kind)
  pub range : EventProcessorsInRange n j
  pub cut : IsCutOf j e.processor t
  pub last : (q : ℕ) → q < n → IsNearestRaceAccessOf j is q (rows (row + q))

-- an access that isn't known races
nearest_race_unknown_races : {j : List Event} {e : Event} {is : Kind → Bool} {t : ℕ → ℕ} {rows : ℕ → Option ℕ} {row n q i : ℕ}
    → IsNearestRaceRow j e is t rows row n → q < n → IsNearestRaceUnknown rows row t e.processor q i → Race (j ++ e ∷ []) i (length j)
nearest_race_unknown_races {j = j} {e = e} {is = is} {t = t} {q = q} {i = i} given lt x =
    let last : IsNearestRaceAccess j is q i = subst (IsNearestRaceAccessOf j is q) x.at (given.last q lt) in
    let f : Event = event q last.kind in
    (cut_tells_race given.cut last.does x.apart ((given.conflicts f).1 last.counts)).1 x.unknown

-- and what races is up to such an access
record NearestRaceUpToUnknown (rows : ℕ → Option ℕ) (row : ℕ) (t : ℕ → ℕ) (p n i : ℕ) : Type 0 where
  place : ℕ
  some : SomeNearestRaceUnknown rows row t p n place
  up_to : i ≤ place

nearest_race_up_to : {j : List Event} {e : Event} {is : Kind → Bool} {t : ℕ → ℕ} {rows : ℕ → Option ℕ} {row n i : ℕ}
    → IsNearestRaceRow j e is t rows row n → Race (j ++ e ∷ []) i (length j) → NearestRaceUpToUnknown rows row t e.processor n i
nearest_race_up_to {j = j} {e = e} {is = is} {t = t} {rows = rows} {row = row} {n = n} {i = i} given r = go (rows (row + f.processor)) refl
  where
    f : Event
    f = r.first

    before : i < length j
    before = r.before

    at : EventAt j i f
    at = event_place_shorter j (e ∷ []) i f before r.first_at

    both : (f.processor ≢ e.processor) × Conflict f e
    both = next_race_events (j ++ e ∷ []) (length j) i e f (event_place_at_end j e) r.first_at r

    few : f.processor < n
    few = given.range i f at

    counts : IsTrue (is f.kind)
    counts = (given.conflicts f).0 both.1

    go : (o : Option ℕ) → rows (row + f.processor) ≡ o → NearestRaceUpToUnknown rows row t e.processor n i
    go None none = absurd (subst (IsNearestRaceAccessOf j is f.processor) none (given.last f.processor few) i f.kind at counts)
    go (Some place) some =
        let last : IsNearestRaceAccess j is f.processor place = subst (IsNearestRaceAccessOf j is f.processor) some (given.last f.processor few) in
        let le : i ≤ place = last.last i f.kind at counts in
        let low = (cut_tells_race given.cut at both.0 both.1).0 r in
        record {
          place = place;
          some = record {
            by = f.processor;
            below = few;
            is = record { apart = both.0; at = some; unknown = omega arith };
          };
          up_to = le;
        }

pub nearest_race_is : {j : List Event} {e : Event} {is : Kind → Bool} {t : ℕ → ℕ} {rows : ℕ → Option ℕ} {row n : ℕ} (o : Option ℕ) → IsNearestRaceRow j e is t rows row n → IsNearestRaceLastUnknown rows row t e.processor n o → IsNearestRaceTo j e o
nearest_race_is None given none =
    λ i r. let x = nearest_race_up_to given r in none x.place x.some
nearest_race_is {is = is} (Some k) given last = (
  nearest_race_unknown_races given last.0.below last.0.is,
  λ m r. (let x = nearest_race_up_to given r in
      let top = last.1 x.place x.some in
      let le = x.up_to in
      omega arith),
)

-- ---- races as a history goes on

pub race_for_nearest_longer : (j es : List Event) (m n : ℕ) → Race j m n → Race (j ++ es) m n
race_for_nearest_longer j es m n r = record {
  before = r.before;
  first = r.first;
  second = r.second;
  first_at = event_place_longer j es m r.first r.first_at;
  second_at = event_place_longer j es n r.second r.second_at;
  apart = r.apart;
  conflict = r.conflict;
  unordered = λ h. r.unordered (happens_before_shorter j es (event_place_inside j n r.second r.second_at) h);
}

pub race_for_nearest_shorter : (j es : List Event) (m n : ℕ) → n < length j → Race (j ++ es) m n → Race j m n
race_for_nearest_shorter j es m n lt r = record {
  before = r.before;
  first = r.first;
  second = r.second;
  first_at = (let before = r.before in event_place_shorter j es m r.first (omega arith) r.first_at);
  second_at = event_place_shorter j es n r.second lt r.second_at;
  apart = r.apart;
  conflict = r.conflict;
  unordered = λ h. r.unordered (happens_before_longer j es h);
}

-- a race with one event more is one of before, or ends with it
pub race_for_nearest_cases : (j : List Event) (e : Event) (m n : ℕ) → Race (j ++ e ∷ []) m n → Race j m n ⊎ (n ≡ length j)
race_for_nearest_cases j e m n r =
    let within = event_place_inside (j ++ e ∷ []) n r.second r.second_at in
    let long = length-append j (e ∷ []) in
    elim (cases_lt n (length j)) [
      | inl lt ↦ inl (race_for_nearest_shorter j (e ∷ []) m n lt r)
      | inr le ↦ inr (omega arith)
    ]

-- the nearest race stays
pub nearest_race_longer : (j : List Event) (e : Event) (i k : ℕ) → IsNearestRace j i k → IsNearestRace (j ++ e ∷ []) i k
nearest_race_longer j e i k x =
    let lt = event_place_inside j k x.race.second x.race.second_at in
    record {
      race = race_for_nearest_longer j (e ∷ []) i k x.race;
      least_second = λ m n r. elim (race_for_nearest_cases j e m n r) [
        | inl old ↦ x.least_second m n old
        | inr is ↦ omega arith
      ];
      greatest_first = λ m r. x.greatest_first m (race_for_nearest_shorter j (e ∷ []) m k lt r);
    }

-- one event more that ends no race
pub nearest_race_none_next : (j : List Event) (e : Event) → RaceFree j → ((i : ℕ) → ¬ Race (j ++ e ∷ []) i (length j))
    → RaceFree (j ++ e ∷ [])
nearest_race_none_next j e free none m n r = elim (race_for_nearest_cases j e m n r) [
  | inl old ↦ free m n old
  | inr is ↦ none m (subst (Race (j ++ e ∷ []) m) is r)
]

-- and one that ends the first
pub nearest_race_new : (j : List Event) (e : Event) (i : ℕ) → RaceFree j → IsNearestRaceTo j e (Some i)
    → IsNearestRace (j ++ e ∷ []) i (length j)
nearest_race_new j e i free x = record {
  race = x.0;
  least_second = λ m n r. elim (race_for_nearest_cases j e m n r) [
    | inl old ↦ absurd (free m n old)
    | inr is ↦ omega arith
  ];
  greatest_first = x.1;
}
