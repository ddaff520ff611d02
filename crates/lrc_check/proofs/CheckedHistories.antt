-- What is found of a history, by what its judge tells.
use Rattle.std.proofs.Common.{◌≡◌, ℕ, ◌+◌, ◌<◌, ◌≤◌, Bool, true, List, [], ◌∷◌, ◌++◌, Option, Some, length, take, subst, sym, refl, ap, ◌∙◌, take-take, arith}
use Rattle.std.specs.Prelude.{None, MatchOption}
use Rattle.std.proofs.lemmas.List.{length-take-le, take_all}
use Rattle.journal.specs.declared.event.Event.{Event}
use Rattle.journal.specs.declared.traffic.Traffic.{Traffic}
use Rattle.journal.specs.Sizes.{Sizes}
use Rattle.journal.specs.Races.{RaceFree}
use Rattle.judge.specs.declared.models.MemoryModel.{MemoryModel}
use Rattle.judge.specs.declared.sizes.Sizes.{Sizes as JudgedSizes}
use Rattle.judge.specs.NearestRaces.{IsNearestRace}
use Rattle.judge.specs.JudgedSizes.{judged_sizes_of}
use Rattle.lrc_check.specs.declared.checked.Lie.{Lie}
use Rattle.lrc_check.specs.declared.checked.Lie.TheVariants as lie
use Rattle.lrc_check.specs.declared.checked.Rules.{Rules}
use Rattle.lrc_check.specs.declared.checked.TraceVerdict.TheVariants as verdict
use Rattle.lrc_check.specs.declared.trace_judge.TraceJudge.{TraceJudge}
use Rattle.lrc_check.specs.CheckVerdicts.{IsTrueCheckVerdict, IsCheckVerdictLie, IsCheckVerdictRace, IsCheckVerdictOf, IsCheckVerdictTraffic, check_verdict_race_events, unjudged_in_check_verdict}
use Rattle.lrc_check.specs.Faithful.{IsFaithfulAndCounted}
use Rattle.lrc_check.specs.TraceJudge.{IsTraceJudgeOf}
use Rattle.lrc_check.proofs.JudgedRaces.{judged_race_at_end}

-- a faithful history, judged to its end
pub checked_history_whole : (r : Rules) (s : Sizes) (j : List Event) (race : Option (ℕ × ℕ)) (count : ℕ) (traffic : Traffic) (unjudged : ℕ)
    → count ≡ length j → IsCheckVerdictTraffic j traffic → unjudged ≡ unjudged_in_check_verdict r.model race j
    → IsFaithfulAndCounted r.model r.lax s j → IsCheckVerdictRace j race
    → IsTrueCheckVerdict r s j (record { count = count; race = race; verdict = verdict.Faithful traffic unjudged })
checked_history_whole r s j race count traffic unjudged all costs left accepted is = record {
  within = omega arith;
  verdict = subst (λ xs. IsCheckVerdictOf r.model r.lax s xs race (verdict.Faithful traffic unjudged)) (sym whole) (accepted, is, costs, left);
  whole = all;
  ends = tt;
}
  where
    whole : take count j ≡ j
    whole = (let le : length j ≤ count = omega arith in take_all count j le)

-- a lie
pub checked_history_lie : (r : Rules) (s : Sizes) (j : List Event) (place : ℕ) (race : Option (ℕ × ℕ)) (x : Lie)
    → place < length j → IsCheckVerdictLie r.model r.lax s (take (place + 1) j) x → IsCheckVerdictRace (check_verdict_race_events x (take (place + 1) j)) race
    → IsTrueCheckVerdict r s j (record { count = place + 1; race = race; verdict = verdict.Lie x })
checked_history_lie r s j place race x lt told is = record {
  within = omega arith;
  verdict = (told, is);
  whole = tt;
  ends = tt;
}

-- the second event of the first race, which ends the judging
pub checked_history_racy : (r : Rules) {s : Sizes} (j : List Event) (place : ℕ) (race : ℕ × ℕ) (e : Event) → r.ends_at_race ≡ true
    → place < length j → take (place + 1) j ≡ take place j ++ e ∷ []
    → IsFaithfulAndCounted r.model r.lax s (take place j) → RaceFree (take place j)
    → IsNearestRace (take (place + 1) j) race.0 race.1
    → IsTrueCheckVerdict r s j (record { count = place + 1; race = Some race; verdict = verdict.Racy })
checked_history_racy r {s} j place race e ends lt next accepted free nearest = record {
  within = omega arith;
  verdict = record {
    first = race.0;
    second = race.1;
    found = refl;
    nearest = nearest;
    last = (let long = length-take-le (place + 1) j (omega arith) in omega (arith, second));
    before = subst (IsFaithfulAndCounted r.model r.lax s) (sym front) accepted;
  };
  whole = tt;
  ends = ends;
}
  where
    short : length (take place j) ≡ place
    short = length-take-le place j (omega arith)

    second : race.1 ≡ place
    second = judged_race_at_end (take place j) e race.0 race.1 free (subst (λ xs. IsNearestRace xs race.0 race.1) next nearest) ∙ short

    front : take race.1 (take (place + 1) j) ≡ take place j
    front = ap (λ n. take n (take (place + 1) j)) second
        ∙ (let le : place ≤ place + 1 = omega arith in take-take place (place + 1) j le)

-- what may not follow ends no race: so a race that is told with a lie, where there was none before, ends with the lie
pub checked_history_race_at_lie : (m : MemoryModel) (lax : Bool) (s : Sizes) (j : List Event) (place : ℕ) (x : Lie) (race : ℕ × ℕ)
    → place < length j → RaceFree (take place j) → IsCheckVerdictLie m lax s (take (place + 1) j) x
    → IsCheckVerdictRace (check_verdict_race_events x (take (place + 1) j)) (Some race) → IsNearestRace (take (place + 1) j) race.0 race.1
checked_history_race_at_lie m lax s j place (lie.IllFormed x) race lt free told is = absurd (free race.0 race.1 (subst (λ xs.
    IsNearestRace xs race.0 race.1) front is).race)
  where
    at : x.place ≡ place
    at = (let last = told.last in let long = length-take-le (place + 1) j (omega arith) in omega arith)

    front : take x.place (take (place + 1) j) ≡ take place j
    front = ap (λ n. take n (take (place + 1) j)) at
        ∙ (let le : place ≤ place + 1 = omega arith in take-take place (place + 1) j le)
checked_history_race_at_lie m lax s j place (lie.Unexplained x) race lt free told is = is
checked_history_race_at_lie m lax s j place (lie.Miscounted x) race lt free told is = is

-- the race that a judge tells after an event, where it told none before
pub checked_history_race : (m : MemoryModel) (lax : Bool) (s : Sizes) (j : List Event) (place : ℕ) (x : TraceJudge)
    (o : Option Lie) (race : ℕ × ℕ) → place < length j → RaceFree (take place j)
    → MatchOption o (IsTraceJudgeOf (take (place + 1) j) x)
    (λ y. IsCheckVerdictLie m lax s (take (place + 1) j) y × IsCheckVerdictRace (check_verdict_race_events y (take (place + 1) j)) x.race)
    → x.race ≡ Some race → IsNearestRace (take (place + 1) j) race.0 race.1
checked_history_race m lax s j place x None race lt free judged same =
    subst (IsCheckVerdictRace (take (place + 1) j)) same judged.race
checked_history_race m lax s j place x (Some y) race lt free told same =
    checked_history_race_at_lie m lax s j place y race lt free told.0 (subst (IsCheckVerdictRace (check_verdict_race_events y (take (place + 1) j))) same told.1)

-- what is faithful by the judge is so by the rules that it was made for
pub checked_history_by_rules : (r : Rules) (t : JudgedSizes) (j : List Event) (x : TraceJudge) → x.model ≡ r.model → x.lax ≡ r.lax
    → x.sizes ≡ t → IsTraceJudgeOf j x → IsFaithfulAndCounted r.model r.lax (judged_sizes_of t) j
checked_history_by_rules r t j x model lax sizes judged =
    subst (λ m. IsFaithfulAndCounted m r.lax (judged_sizes_of t) j) model
    (subst (λ l. IsFaithfulAndCounted x.model l (judged_sizes_of t) j) lax
    (subst (λ y. IsFaithfulAndCounted x.model x.lax (judged_sizes_of y) j) sizes judged.faithful))

pub checked_history_lie_by_rules : (r : Rules) (t : JudgedSizes) (j : List Event) (x : TraceJudge) (y : Lie) → x.model ≡ r.model
    → x.lax ≡ r.lax → x.sizes ≡ t → IsCheckVerdictLie x.model x.lax (judged_sizes_of x.sizes) j y
    → IsCheckVerdictLie r.model r.lax (judged_sizes_of t) j y
checked_history_lie_by_rules r t j x y model lax sizes told =
    subst (λ m. IsCheckVerdictLie m r.lax (judged_sizes_of t) j y) model
    (subst (λ l. IsCheckVerdictLie x.model l (judged_sizes_of t) j y) lax
    (subst (λ z. IsCheckVerdictLie x.model x.lax (judged_sizes_of z) j y) sizes told))

-- without a race so far there is none
pub checked_history_race_free : (j : List Event) (x : TraceJudge) → x.race ≡ None → IsTraceJudgeOf j x → RaceFree j
checked_history_race_free j x none judged = subst (IsCheckVerdictRace j) none judged.race
