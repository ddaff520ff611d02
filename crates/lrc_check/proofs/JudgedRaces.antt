-- A judge of histories: what it is before the first event, and the race that it tells.
use Rattle.std.proofs.Common.{◌≡◌, ℕ, Bool, true, false, List, [], ◌∷◌, ◌++◌, inl, inr, Option, Some, length, subst, sym}
use Rattle.std.specs.Prelude.{None, is_some}
use Rattle.journal.specs.declared.event.Event.{Event}
use Rattle.journal.specs.Races.{Race, RaceFree}
use Rattle.judge.specs.NearestRaces.{IsNearestRace, IsNearestRaceTo}
use Rattle.judge.specs.Owed.{IsOwedRacy}
use Rattle.judge.proofs.NearestRaceSteps.{nearest_race_longer, nearest_race_new, race_for_nearest_cases, nearest_race_none_next}
use Rattle.lrc_check.specs.CheckVerdicts.{IsCheckVerdictRace}

-- a race stays the first
pub judged_race_stays : (j : List Event) (e : Event) (o : Option (ℕ × ℕ)) → is_some o ≡ true → IsCheckVerdictRace j o
    → IsCheckVerdictRace (j ++ e ∷ []) o
judged_race_stays j e None some x = absurd cc
judged_race_stays j e (Some r) some x = nearest_race_longer j e r.0 r.1 x

-- where there is none
pub judged_race_missing : (j : List Event) (o : Option (ℕ × ℕ)) → is_some o ≡ false → IsCheckVerdictRace j o → IsCheckVerdictRace j None
judged_race_missing j None none x = x
judged_race_missing j (Some r) none x = absurd cc

-- without one so far, the event ends the first, or none
pub judged_race_comes : (j : List Event) (e : Event) (i n : ℕ) → n ≡ length j → IsCheckVerdictRace j None → IsNearestRaceTo j e (Some i)
    → IsCheckVerdictRace (j ++ e ∷ []) (Some (i, n))
judged_race_comes j e i n is free x =
    subst (IsNearestRace (j ++ e ∷ []) i) (sym is) (nearest_race_new j e i free x)

pub judged_race_none : (j : List Event) (e : Event) → IsCheckVerdictRace j None → IsNearestRaceTo j e None → IsCheckVerdictRace (j ++ e ∷ []) None
judged_race_none j e free x = nearest_race_none_next j e free x

-- whether there is one
pub judged_race_if_some : (j : List Event) (e : Event) (race : Option (ℕ × ℕ)) (b : Bool) → b ≡ is_some race
    → IsCheckVerdictRace (j ++ e ∷ []) race → IsOwedRacy j e b
judged_race_if_some j e None b is x = subst (IsOwedRacy j e) (sym is) x
judged_race_if_some j e (Some r) b is x = subst (IsOwedRacy j e) (sym is) (λ free. free r.0 r.1 x.race)

-- the first race of a history and not of what stands before its last event has that event
pub judged_race_at_end : (j : List Event) (e : Event) (i k : ℕ) → RaceFree j → IsNearestRace (j ++ e ∷ []) i k → k ≡ length j
judged_race_at_end j e i k free x = elim (race_for_nearest_cases j e i k x.race) [
  | inl old ↦ absurd (free i k old)
  | inr is ↦ is
]

-- without a race so far, the first race that the event ends is the nearest to it
pub judged_race_nearest : (j : List Event) (e : Event) (i k : ℕ) → IsCheckVerdictRace j None → IsCheckVerdictRace (j ++ e ∷ []) (Some (i, k))
    → IsNearestRaceTo j e (Some i)
judged_race_nearest j e i k free x =
    let at = judged_race_at_end j e i k free x in (
      subst (Race (j ++ e ∷ []) i) at x.race,
      λ m r. x.greatest_first m (subst (Race (j ++ e ∷ []) m) (sym at) r),
    )

-- and where it ends none, none is near
pub judged_race_nearest_none : (j : List Event) (e : Event) → IsCheckVerdictRace (j ++ e ∷ []) None → IsNearestRaceTo j e None
judged_race_nearest_none j e free i r = free i (length j) r
