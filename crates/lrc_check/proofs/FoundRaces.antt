-- A race that was found of a history is one of it.
use Rattle.std.proofs.Common.{ℕ, List, Option, Some, drop, take, subst, sym, take-append-drop}
use Rattle.std.specs.Prelude.{None, IfSome}
use Rattle.journal.specs.declared.event.Event.{Event}
use Rattle.journal.specs.Races.{Race}
use Rattle.journal.specs.Sizes.{Sizes}
use Rattle.judge.proofs.NearestRaceSteps.{race_for_nearest_longer}
use Rattle.lrc_check.specs.declared.checked.Checked.{Checked}
use Rattle.lrc_check.specs.declared.checked.Lie.{Lie}
use Rattle.lrc_check.specs.declared.checked.Lie.TheVariants as lie
use Rattle.lrc_check.specs.declared.checked.Rules.{Rules}
use Rattle.lrc_check.specs.declared.checked.TraceVerdict.{TraceVerdict}
use Rattle.lrc_check.specs.declared.checked.TraceVerdict.TheVariants as verdict
use Rattle.lrc_check.specs.CheckVerdicts.{IsTrueCheckVerdict, IsCheckVerdictOf, IsCheckVerdictRace, check_verdict_race_events}

-- a race of a front is one of the history
pub found_race_of_front : (j : List Event) (n i k : ℕ) → Race (take n j) i k → Race j i k
found_race_of_front j n i k r =
    subst (λ xs. Race xs i k) (take-append-drop n j) (race_for_nearest_longer (take n j) (drop n j) i k r)

-- of the race that was found, if one was
abbrev pub IsFoundRace : List Event → Option (ℕ × ℕ) → Type 0
IsFoundRace j o = IfSome o (λ r. Race j r.0 r.1)

found_race_nearest : (j : List Event) (o : Option (ℕ × ℕ)) → IsCheckVerdictRace j o → IsFoundRace j o
found_race_nearest j None is = tt
found_race_nearest j (Some r) is = is.race

found_race_longer : (j : List Event) (n : ℕ) (o : Option (ℕ × ℕ)) → IsFoundRace (take n j) o → IsFoundRace j o
found_race_longer j n None is = tt
found_race_longer j n (Some r) is = found_race_of_front j n r.0 r.1 is

found_race_lying : (j : List Event) (x : Lie) (o : Option (ℕ × ℕ)) → IsFoundRace (check_verdict_race_events x j) o → IsFoundRace j o
found_race_lying j (lie.IllFormed x) o is = found_race_longer j x.place o is
found_race_lying j (lie.Unexplained x) o is = is
found_race_lying j (lie.Miscounted x) o is = is

pub found_race_by_verdict : (r : Rules) (s : Sizes) (j : List Event) (o : Option (ℕ × ℕ)) (v : TraceVerdict)
    → IsCheckVerdictOf r.model r.lax s j o v → IsFoundRace j o
found_race_by_verdict r s j o (verdict.Faithful traffic unjudged) is = found_race_nearest j o is.1
found_race_by_verdict r s j o (verdict.Lie x) is = found_race_lying j x o (found_race_nearest (check_verdict_race_events x j) o is.1)
found_race_by_verdict r s j o verdict.Racy is = subst (IsFoundRace j) (sym is.found) is.nearest.race

pub found_is_race : (r : Rules) (s : Sizes) (j : List Event) (x : Checked) → IsTrueCheckVerdict r s j x → IsFoundRace j x.race
found_is_race r s j x is = found_race_longer j x.count x.race (found_race_by_verdict r s (take x.count j) x.race x.verdict is.verdict)
