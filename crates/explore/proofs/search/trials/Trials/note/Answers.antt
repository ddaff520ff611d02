use Rattle.std.proofs.Common.{subst}
use Rattle.std.specs.Prelude.{MatchOption}
use Rattle.journal.specs.Prelude.{IsFirstRace, RaceFree}
use Rattle.lrc_script.specs.Prelude.{plan_of}
use Rattle.explore.proofs.search.trials.Trials.note.Goals as goal

pub into_racy-requires : goal.into_racy-requires
into_racy-requires c =
    subst (λ o. MatchOption o (RaceFree c.args.run.events.items) (λ r. IsFirstRace c.args.run.events.items r.0 r.1)) c.in-Some.is c.in_ok-race.ensures

pub returns-in-Some : goal.returns-in-Some
returns-in-Some c = λ d are telling. record {
  racy = c.into_racy.ensures (plan_of c.args.script.now) c.requires.run;
  hang = are.hang;
  ends = are.ends;
  outcomes = are.outcomes;
}
