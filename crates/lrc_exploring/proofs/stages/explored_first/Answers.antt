use Rattle.std.proofs.Common.{inl, inr, refl, sym, ◌∙◌, arith}
use Rattle.std.proofs.lemmas.Bool.{false≢true}
use Rattle.lrc_script.specs.Plan.{plan_of}
use Rattle.explore.specs.StateRoom.{state_room_size}
use Rattle.lrc_exploring.proofs.ToldAnswers.{told_more_than_fit, told_schedules}
use Rattle.lrc_exploring.proofs.stages.explored_first.Goals as goal

pub returns-then-is_settled : goal.returns-then-is_settled
returns-then-is_settled g c =
    told_schedules c.args.options.now (plan_of c.args.script.now) _ 65536 _ c.requires.all c.explore_detail-detail.ensures (omega arith)
    c.in_ok-explored.ensures (λ opens. absurd (false≢true (sym opens ∙ sym c.is_settled.ensures ∙ c.if-is_settled.true)))

pub returns-then-explored : goal.returns-then-explored
returns-then-explored g c =
    let s = plan_of c.args.script.now in
    let d = c.explore_detail-detail.result in
    let is = c.in_ok-explored.ensures in
    told_schedules c.args.options.now s _ 65536 _ c.requires.all c.explore_detail-detail.ensures (omega arith) is
    (λ opens. inl (told_more_than_fit 65536 c.args.options.now.most (state_room_size s d) c.in_ok-explored.explored.states (is.given_up opens) (omega arith)))

pub returns-then-is_hang_met : goal.returns-then-is_hang_met
returns-then-is_hang_met g c =
    told_schedules c.args.options.now (plan_of c.args.script.now) _ 65536 _ c.requires.all c.explore_detail-detail.ensures (omega arith)
    c.in_ok-explored.ensures
    (λ opens. inr (record { default = c.if-options-eq-DEFAULT_MOST.true; first = refl; hangs = c.is_hang_met.ensures c.if-is_hang_met.true }))
