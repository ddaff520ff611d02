use Rattle.std.proofs.Common.{List, sym, subst, ◌∙◌}
use Rattle.std.specs.Prelude.{IfOk, MatchOption}
use Rattle.journal.specs.declared.event.Event.{Event}
use Rattle.journal.specs.Prelude.{IsFirstRace, RaceFree}
use Rattle.lrc_script.specs.Prelude.{plan_of}
use Rattle.explore.specs.Prefixes.FlatBeginnings.{IsFlatBeginning}
use Rattle.explore.proofs.search.whole_run.RunSoFar.race.Goals as goal

pub racing_history_race-requires-clause-begins : goal.racing_history_race-requires-clause-begins
racing_history_race-requires-clause-begins c =
    let run = c.requires.run.1 in
    subst (IsFlatBeginning (plan_of c.args.script.now)) (sym (c.deref.ensures.value ∙ run.events)) run.knows.beginning

pub returns : goal.returns
returns c =
    subst (λ (es : List Event). IfOk c.racing_history_race.result (λ o. MatchOption o (RaceFree es) (λ r. IsFirstRace es r.0 r.1))) c.deref.ensures.value
    c.racing_history_race.ensures
