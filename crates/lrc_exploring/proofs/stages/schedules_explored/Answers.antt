use Rattle.std.proofs.Common.{inl, arith}
use Rattle.std.proofs.lemmas.Result.{IfOk-weaker}
use Rattle.lrc_script.specs.Plan.{plan_of}
use Rattle.lrc_exploring.proofs.ToldAnswers.{told_schedules}
use Rattle.lrc_exploring.proofs.stages.schedules_explored.Goals as goal

pub returns-in-None : goal.returns-in-None
returns-in-None g c =
    let o = c.args.options.now in
    IfOk-weaker c.explore.result _ _
    (λ explored is. told_schedules o (plan_of c.args.script.now) _ o.most explored c.requires.all c.explore_detail-detail.ensures (omega arith) is
    (λ opens. inl (is.given_up opens))) c.explore.ensures
