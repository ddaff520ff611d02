-- A shortest beginning that races, and the latest event that races with its last one.
use Rattle.std.proofs.Common.{ℕ, zero, suc, ◌≡◌, ◌+◌, ◌<◌, ◌≤◌, inl, inr, List, [], ◌∷◌, ◌++◌, length, take, drop, sym, subst, ◌∙◌, length-append, take-append-drop, length-take-le, arith}
use Rattle.std.proofs.lemmas.Bool.{cases_order}
use Rattle.std.proofs.lemmas.Option.{none-some, same_Some}
use Rattle.std.specs.Prelude.{Some, slice_get}
use Rattle.journal.specs.declared.event.Event.{Event}
use Rattle.journal.specs.Events.{EventAt}
use Rattle.journal.specs.HappensBeforeEdges.{HappensBefore}
use Rattle.journal.specs.HappensBeforeEdges.HappensBefore.{edge, on}
use Rattle.journal.specs.Races.{Race, RaceFree}
use Rattle.journal.proofs.Order.EventPlacesAndCounts.{event_place_inside}
use Rattle.journal.proofs.Order.HappensBefore.{happens_before_goes_forward, happens_before_ends_within, happens_before_transitive, happens_before_longer}
use Rattle.base.proofs.SlicesAndCounts.{slice_get-take}
use Rattle.lrc_script.specs.Plan.{Plan}
use Rattle.explore.specs.Prefixes.FlatBeginnings.{IsFlatBeginning}
use Rattle.explore.proofs.PrefixRuns.Beginnings.{prefix_beginning_front}
use Rattle.explore.proofs.PrefixRuns.Removal.Places.{removal_place_lift, removal_place_lift_before, removal_place_lowered}
use Rattle.explore.proofs.PrefixRuns.Removal.Order.{removal_order_race_kept}
use Rattle.explore.proofs.PrefixRuns.Removal.Removed.{MayBeRemoved, removed_others_behind, removed_without_race, removed}

-- what holds of each list around the item x holds of a list where x stands
pub last_race_around : {A : Type 0} (x : A) (P : List A → ℕ → Type 0) → ((a b : List A) → P (a ++ x ∷ b) (length a))
    → (xs : List A) (k : ℕ) → slice_get xs k ≡ Some x → P xs k
last_race_around x P h [] k at = absurd (none-some x at)
last_race_around x P h (y ∷ xs) zero at = subst (λ z. P (z ∷ xs) 0) (sym (same_Some y x at)) (h [] xs)
last_race_around x P h (y ∷ xs) (suc k) at = last_race_around x (λ ys n. P (y ∷ ys) (suc n)) (λ a b. h (y ∷ a) b) xs k at

-- a front is a beginning
pub last_race_begins_take : (s : Plan) (g : List Event) (n : ℕ) → IsFlatBeginning s g → IsFlatBeginning s (take n g)
last_race_begins_take s g n h =
    prefix_beginning_front s (take n g) (drop n g) (subst (IsFlatBeginning s) (sym (take-append-drop n g)) h)

-- and the front up to the second of two that race has their race
pub last_race_of_front : (g : List Event) (i k : ℕ) → Race g i k → Race (take (suc k) g) i k
last_race_of_front g i k race =
    let less = race.before in
    record {
      before = race.before;
      first = race.first;
      second = race.second;
      first_at = slice_get-take g (suc k) i (omega arith) ∙ race.first_at;
      second_at = slice_get-take g (suc k) k (omega arith) ∙ race.second_at;
      apart = race.apart;
      conflict = race.conflict;
      unordered = λ h. race.unordered (subst (λ es. HappensBefore es i k) (take-append-drop (suc k) g)
          (happens_before_longer (take (suc k) g) (drop (suc k) g) h));
    }

-- g's last event, at this place, races with that at i and with none between them, and no shorter beginning races
pub record RacesLast (s : Plan) (g : List Event) (i last : ℕ) : Type 0 where
  pub begins : IsFlatBeginning s g
  pub long : length g ≡ suc last
  pub shorter : (f : List Event) → length f ≤ last → IsFlatBeginning s f → RaceFree f
  pub race : Race g i last
  pub later : (m : ℕ) → i < m → ¬ Race g m last

-- so no race ends before
last_race_none_before : (s : Plan) (g : List Event) (i last m n : ℕ) → RacesLast s g i last → n < last → ¬ Race g m n
last_race_none_before s g i last m n r lt race =
    let within = event_place_inside g n race.second race.second_at in
    let long = length-take-le (suc n) g (omega arith) in
    r.shorter (take (suc n) g) (omega arith) (last_race_begins_take s g (suc n) r.begins) m n (last_race_of_front g m n race)

-- an event between that is reached from i, and is the last such one, could be left out
last_race_no_latest_between : (s : Plan) (a b : List Event) (x : Event) (i last : ℕ) → RacesLast s (a ++ x ∷ b) i last → length a < last
    → HappensBefore (a ++ x ∷ b) i (length a)
    → ((m : ℕ) → length a < m → m < last → ¬ HappensBefore (a ++ x ∷ b) i m) → ⊥
last_race_no_latest_between s a b x i last r before reached none =
    r.shorter (a ++ b) (omega (arith, short)) (removed s a b x free r.begins) i low.0
    (removal_order_race_kept a b x (removed_others_behind a b x unreached) i low.0
    (subst (λ m. Race (a ++ x ∷ b) m (removal_place_lift (length a) low.0)) (sym (removal_place_lift_before (length a) i forward))
    (subst (Race (a ++ x ∷ b) i) (sym low.1) r.race)))
  where
    forward : i < length a
    forward = happens_before_goes_forward (a ++ x ∷ b) reached

    low : (k : ℕ) × (removal_place_lift (length a) k ≡ last)
    low = removal_place_lowered (length a) last (λ is. absurd (omega arith))

    short : length (a ++ b) ≡ last
    short =
        let long = r.long in
        let whole = length-append a (x ∷ b) in
        let left = length-append a b in
        omega arith

    unreached : (m : ℕ) → ¬ HappensBefore (a ++ x ∷ b) (length a) m
    unreached m h =
        let ahead = happens_before_goes_forward (a ++ x ∷ b) h in
        let within = happens_before_ends_within (a ++ x ∷ b) h in
        let long = r.long in
        let on_to = happens_before_transitive (a ++ x ∷ b) reached h in
        elim (cases_order m last) [
          | inl is ↦ r.race.unordered (subst (HappensBefore (a ++ x ∷ b) i) is on_to)
          | inr apart ↦ elim apart [ inl lt ↦ none m ahead lt on_to | inr lt ↦ absurd (omega arith) ]
        ]

    unraced : (m : ℕ) → ¬ Race (a ++ x ∷ b) (length a) m
    unraced m race =
        let within = event_place_inside (a ++ x ∷ b) m race.second race.second_at in
        let long = r.long in
        elim (cases_order m last) [
          | inl is ↦ r.later (length a) forward (subst (Race (a ++ x ∷ b) (length a)) is race)
          | inr apart ↦ elim apart [
            | inl lt ↦ last_race_none_before s (a ++ x ∷ b) i last (length a) m r lt race
            | inr lt ↦ absurd (omega arith)
          ]
        ]

    free : MayBeRemoved a b x
    free = removed_without_race a b x unreached unraced

-- what is reached stands in the history
last_race_reached_at : (j : List Event) {i m : ℕ} → HappensBefore j i m → (f : Event) × EventAt j m f
last_race_reached_at j (edge e) = (e.to, e.to_at)
last_race_reached_at j (on h e) = (e.to, e.to_at)

-- so none between is reached from i
last_race_unreached_between : (s : Plan) (g : List Event) (i last : ℕ) → RacesLast s g i last → (c m : ℕ) → m < last → last ≤ m + c
    → ¬ HappensBefore g i m
last_race_unreached_between s g i last r zero m lt le h = absurd (omega arith)
last_race_unreached_between s g i last r (suc c) m lt le h =
    let there = last_race_reached_at g h in
    last_race_around there.0
    (λ xs n. RacesLast s xs i last → n < last → HappensBefore xs i n
    → ((k : ℕ) → n < k → k < last → ¬ HappensBefore xs i k) → ⊥)
    (λ a b. last_race_no_latest_between s a b there.0 i last) g m there.1 r lt h
    (λ k above below. last_race_unreached_between s g i last r c k below (omega arith))

-- and nothing at all
pub last_race_unreached : (s : Plan) (g : List Event) (i last : ℕ) → RacesLast s g i last → (m : ℕ) → ¬ HappensBefore g i m
last_race_unreached s g i last r m h =
    let within = happens_before_ends_within g h in
    let long = r.long in
    elim (cases_order m last) [
      | inl is ↦ r.race.unordered (subst (HappensBefore g i) is h)
      | inr apart ↦ elim apart [
        | inl lt ↦ last_race_unreached_between s g i last r last m lt (omega arith) h
        | inr lt ↦ absurd (omega arith)
      ]
    ]
