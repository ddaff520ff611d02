use Rattle.std.proofs.Common.{sym, ◌∙◌}
use Rattle.lrc_check.proofs.JudgedRaces.{judged_race_comes, judged_race_missing, judged_race_none, judged_race_stays}
use Rattle.lrc_check.proofs.trace_judge.TraceJudge.race_with.Goals as goal

pub returns-then-is_some : goal.returns-then-is_some
returns-then-is_some c = λ j judged long.
    judged_race_stays j c.args.event c.args.self.now.race (sym c.is_some.ensures ∙ c.if-is_some.true) judged.race

pub returns-in-Some : goal.returns-in-Some
returns-in-Some c = λ j judged long.
    judged_race_comes j c.args.event c.in-Some.first c.args.place (sym long)
    (judged_race_missing j c.args.self.now.race (sym c.is_some.ensures ∙ c.if-is_some.false) judged.race)
    (c.in-Some.ensures j judged.races)

pub returns-in-None : goal.returns-in-None
returns-in-None c = λ j judged long.
    judged_race_none j c.args.event
    (judged_race_missing j c.args.self.now.race (sym c.is_some.ensures ∙ c.if-is_some.false) judged.race)
    (c.in-None.ensures j judged.races)
