use Rattle.std.proofs.Common.{arith}
use Rattle.lrc_script.specs.Plan.{plan_of}
use Rattle.lrc_run.proofs.Failing.{failing_ok_whatever}
use Rattle.lrc_run.proofs.TurnWays.{turn_way_some_of, turn_ways_after_turns}
use Rattle.lrc_run.proofs.StepsAfterTurns.{step_after_turn_own_at}
use Rattle.lrc_run.proofs.steps.round_in_vain.Goals as goal

pub is_stuck-requires-clause-own : goal.is_stuck-requires-clause-own
is_stuck-requires-clause-own g c κs within = λ m here.
    let s = plan_of c.args.script.now in
    let way = turn_ways_after_turns c.args.cluster.now s.sections c.args.list.now c.args.processors.now.items
    c.round.new.processors.items c.args.all.now.items c.round.new.all.items c.requires.way
    c.in_ok-moved.ensures.turns in
    step_after_turn_own_at 0 m c.requires.lawful
    c.requires.sizes way here

pub is_stuck-requires-clause-some : goal.is_stuck-requires-clause-some
is_stuck-requires-clause-some g c κs within =
    let s = plan_of c.args.script.now in
    let way = turn_ways_after_turns c.args.cluster.now s.sections c.args.list.now c.args.processors.now.items
    c.round.new.processors.items c.args.all.now.items c.round.new.all.items c.requires.way
    c.in_ok-moved.ensures.turns in
    let some = turn_way_some_of s c.args.cluster.now c.round.new.processors.items c.round.new.all.items c.requires.lawful
    c.requires.sizes way in
    omega (arith, some, c.round.new.processors.ok)

pub returns-clause-round : goal.returns-clause-round
returns-clause-round g c =
    failing_ok_whatever c.is_stuck.result
    (record { turned = c.round.new.processors.items; turns = c.in_ok-moved.ensures.turns; seen = c.is_stuck.ensures.seen })
