-- Races of what is left, read from the history or from the base; and no race crosses the cut.
use Rattle.std.proofs.Common.{◌≡◌, ℕ, ◌+◌, ◌-◌, ◌<◌, inl, inr, ◌↔◌, List, ◌++◌, length, subst, subst₂, sym, arith}
use Rattle.journal.specs.declared.event.Event.{Event}
use Rattle.journal.specs.HappensBeforeEdges.{HappensBefore}
use Rattle.journal.specs.Races.{Race, IsFirstRace, RaceFree}
use Rattle.journal.specs.Base.{Base}
use Rattle.journal.specs.RacesFromBase.{RaceFromBase, IsFirstRaceFromBase, RaceFreeFromBase}
use Rattle.base.proofs.SlicesAndCounts.{slice_append_cases}
use Rattle.journal.proofs.Order.EventPlacesAndCounts.{event_place_inside, event_place_behind}
use Rattle.journal.proofs.Order.HappensBefore.{happens_before_longer}
use Rattle.journal.proofs.FromBase.OrderOfLeft.{IsEvenOrderOfLeft, order_of_left_at, order_of_left_before, order_of_left_before_back}

module _ (b : Base) (c j : List Event) (n : ℕ) (even : IsEvenOrderOfLeft b c j n) where
  pub race_across_cut_from_base : (i k : ℕ) → Race (c ++ j) (length c + i) (length c + k) → RaceFromBase b j i k
  race_across_cut_from_base i k r = record {
    before = (let lt = r.before in omega arith);
    first = r.first;
    second = r.second;
    first_at = order_of_left_at c j i r.first r.first_at;
    second_at = order_of_left_at c j k r.second r.second_at;
    apart = r.apart;
    conflict = r.conflict;
    unordered = λ h. r.unordered (order_of_left_before_back b c j n even h);
  }

  pub race_across_cut_back : (i k : ℕ) → RaceFromBase b j i k → Race (c ++ j) (length c + i) (length c + k)
  race_across_cut_back i k r = record {
    before = (let lt = r.before in omega arith);
    first = r.first;
    second = r.second;
    first_at = event_place_behind c j i r.first r.first_at;
    second_at = event_place_behind c j k r.second r.second_at;
    apart = r.apart;
    conflict = r.conflict;
    unordered = λ h. r.unordered (order_of_left_before b c j n even i k h);
  }

-- a race of a front is one of the whole, where both its places stand in the front
pub race_across_cut_shorter : (c j : List Event) (i k : ℕ) → k < length c → Race (c ++ j) i k → Race c i k
race_across_cut_shorter c j i k lt r = elim (slice_append_cases c j i r.first r.first_at) [
  | inr left ↦ absurd (let before = r.before in omega (arith, left.1))
  | inl first ↦ elim (slice_append_cases c j k r.second r.second_at) [
    | inr left ↦ absurd (omega (arith, left.1))
    | inl second ↦ record {
      before = r.before;
      first = r.first;
      second = r.second;
      first_at = first.1;
      second_at =
          second.1;
      apart = r.apart;
      conflict = r.conflict;
      unordered = λ h. r.unordered (happens_before_longer c j h);
    }
  ]
]

-- where what was cut off has no race and happens before all that is left, no race begins in it
pub race_across_cut_none : (c j : List Event)
    → ((i k : ℕ) → i < length c → k < length j → HappensBefore (c ++ j) i (length c + k)) → RaceFree c → (i k : ℕ)
    → i < length c → ¬ Race (c ++ j) i k
race_across_cut_none c j before free i k lt r = elim (slice_append_cases c j k r.second r.second_at) [
  | inl cut ↦ free i k (race_across_cut_shorter c j i k cut.0 r)
  | inr to ↦ r.unordered
      (subst (λ m. HappensBefore (c ++ j) i m) (sym to.1) (before i to.0 lt (event_place_inside j to.0 r.second to.2)))
]

-- where no race begins in what was cut off, each is one of what is left
module _ (b : Base) (c j : List Event) (n : ℕ) (even : IsEvenOrderOfLeft b c j n)
    (none : (i k : ℕ) → i < length c → ¬ Race (c ++ j) i k) where
  pub race_across_cut_split : (i k : ℕ) → Race (c ++ j) i k
      → (x y : ℕ) × (i ≡ length c + x) × (k ≡ length c + y) × RaceFromBase b j x y
  race_across_cut_split i k r = elim (slice_append_cases c j i r.first r.first_at) [
    | inl cut ↦ absurd (none i k cut.0 r)
    | inr from ↦ (let before = r.before in
        let to : k ≡ length c + (k - length c) = omega (arith, from.1) in (
          from.0,
          k
              - length c,
          from.1,
          to,
          race_across_cut_from_base b c j n even from.0 (k - length c)
              (subst₂ (Race (c ++ j)) from.1 to r),
        ))
  ]

  pub race_across_cut_free : RaceFree (c ++ j) ↔ RaceFreeFromBase b j
  race_across_cut_free = (
    (λ free i k r. free (length c + i) (length c + k) (race_across_cut_back b c j n even i k r)),
    (λ free i k r. let x = race_across_cut_split i k r in free x.0 x.1 x.4),
  )

  pub first_race : (i k : ℕ) → IsFirstRace (c ++ j) (length c + i) (length c + k) ↔ IsFirstRaceFromBase b j i k
  first_race i k = (there, back)
    where
      there : IsFirstRace (c ++ j) (length c + i) (length c + k) → IsFirstRaceFromBase b j i k
      there f = record {
        race = race_across_cut_from_base b c j n even i k f.race;
        least_second =
            λ x y r.
            (let le = f.least_second (length c + x) (length c + y) (race_across_cut_back b c j n even x y r) in omega arith);
        least_first = λ x r. (let le = f.least_first (length c + x) (race_across_cut_back b c j n even x k r) in omega arith);
      }

      back : IsFirstRaceFromBase b j i k → IsFirstRace (c ++ j) (length c + i) (length c + k)
      back f = record {
        race = race_across_cut_back b c j n even i k f.race;
        least_second =
            λ x y r. (let z = race_across_cut_split x y r in let le = f.least_second z.0 z.1 z.4 in omega (arith, z.3));
        least_first =
            λ x r. (let z = race_across_cut_split x (length c + k) r in let is : z.1 ≡ k = omega (arith, z.3) in
            let le = f.least_first z.0 (subst (λ m. RaceFromBase b j z.0 m) is z.4) in omega (arith, z.2));
      }
