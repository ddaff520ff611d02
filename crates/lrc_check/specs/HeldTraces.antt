-- Traces whose events are told with all of them at hand.
use Rattle.std.specs.Prelude.{ℕ, ◌≡◌, ◌≤◌, Option, None, MatchOption, List, length}
use Rattle.base.specs.Limits.{most_held}
use Rattle.journal.specs.declared.event.Event.{Event}
use Rattle.journal.specs.Sizes.{Sizes}
use Rattle.causes.specs.declared.apart.RaceApart.{RaceApart}
use Rattle.causes.specs.Apart.{IsRaceApart}
use Rattle.lrc_check.specs.Traces.LawfulTraces.{IsLawfulTrace}

-- no more events than a journal holds
abbrev pub IsFewForHeldTrace : List Event → Type 0
IsFewForHeldTrace j = length j ≤ most_held

-- a trace with no more than that
pub record IsHeldTrace (s : Sizes) (j : List Event) : Type 0 where
  pub trace : IsLawfulTrace s j
  pub few : IsFewForHeldTrace j

-- what keeps the race's accesses apart, if there is one: it is told of a trace with no more events than a journal holds
abbrev pub IsTraceRaceApart : Sizes → List Event → Option (ℕ × ℕ) → Option RaceApart → Type 0
IsTraceRaceApart s j race apart = MatchOption race (apart ≡ None)
    (λ r. MatchOption apart (¬ (length j ≤ most_held)) (IsRaceApart s.locks j r.0 r.1))
