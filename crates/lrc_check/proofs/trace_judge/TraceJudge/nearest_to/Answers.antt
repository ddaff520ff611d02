use Rattle.std.proofs.Common.{[], ◌∷◌, ◌++◌, subst, sym, ◌∙◌}
use Rattle.lrc_check.specs.CheckVerdicts.{IsCheckVerdictRace}
use Rattle.lrc_check.proofs.JudgedRaces.{judged_race_missing, judged_race_nearest, judged_race_nearest_none}
use Rattle.lrc_check.proofs.trace_judge.TraceJudge.nearest_to.Goals as goal

pub returns-in-Some : goal.returns-in-Some
returns-in-Some c = λ j next some.
    let e = c.args.event in
    let free = judged_race_missing j c.args.self.now.race (sym c.is_some.ensures ∙ c.if-is_some.false) next.judged.race in
    judged_race_nearest j e c.in-Some.first _ free (subst (IsCheckVerdictRace (j ++ e ∷ [])) c.in-Some.is next.race_is)

pub returns-in-None : goal.returns-in-None
returns-in-None c = λ j next some.
    let e = c.args.event in
    judged_race_nearest_none j e (subst (IsCheckVerdictRace (j ++ e ∷ [])) c.in-None.is next.race_is)
