use Rattle.std.proofs.Common.{subst, sym}
use Rattle.journal.specs.Races.{IsFirstRace, RaceFree}
use Rattle.explore.specs.Prefixes.FlatBeginnings.{IsFlatBeginning}
use Rattle.lrc_script.specs.Plan.{plan_of}
use Rattle.explore.proofs.FirstRaces.{first_race_is_there, first_race_match_some}
use Rattle.explore.proofs.search.racing_history.racing_history_up_to_race.Goals as goal

pub racing_history_race-requires-clause-begins : goal.racing_history_race-requires-clause-begins
racing_history_race-requires-clause-begins c =
    subst (IsFlatBeginning (plan_of c.args.script.now)) (sym c.deref.ensures.value) c.requires.racing.beginning

pub unwrap-race-requires : goal.unwrap-race-requires
unwrap-race-requires c =
    let racing = c.requires.racing in
    first_race_is_there c.in_ok-racing_history_race.field-0 (RaceFree c.deref.result.now) (λ r. IsFirstRace c.deref.result.now r.0 r.1) c.in_ok-racing_history_race.ensures
    (λ free. subst RaceFree c.deref.ensures.value free racing.first racing.second racing.race)

pub cut_racing_history-requires : goal.cut_racing_history-requires
cut_racing_history-requires c =
    subst (λ es. IsFirstRace es c.unwrap-race.result.0 c.unwrap-race.result.1) c.deref.ensures.value
    (first_race_match_some c.in_ok-racing_history_race.field-0 c.unwrap-race.result (RaceFree c.deref.result.now) (λ r. IsFirstRace c.deref.result.now r.0 r.1)
    c.unwrap-race.ensures c.in_ok-racing_history_race.ensures)

pub returns : goal.returns
returns c = c.cut_racing_history.ensures (plan_of c.args.script.now) c.requires.racing.beginning
