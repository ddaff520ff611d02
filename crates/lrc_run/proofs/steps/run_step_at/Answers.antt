use Rattle.std.proofs.Common.{◌<◌, length, refl, slice_set, arith}
use Rattle.std.proofs.lemmas.Option.{slice_get_read}
use Rattle.lrc_script.specs.Plan.{plan_of}
use Rattle.lrc_run.specs.RunSteps.{AreAtRunSteps}
use Rattle.lrc_run.specs.RunTurns.{IsRunTurnAlone}
use Rattle.lrc_run.proofs.StepsAfterTurns.{step_after_turn_own_at, step_after_turn_progress_read, step_after_turn_section_read}
use Rattle.lrc_run.proofs.TurnWays.{turn_way_sees_turns_on, turn_way_seen, turn_way_in_hand, turn_way_locks, turn_way_on_then, turn_way_one_seen, turn_way_set_same}
use Rattle.lrc_run.proofs.steps.run_step_at.Given as given
use Rattle.lrc_run.proofs.steps.run_step_at.Goals as goal
use Rattle.lrc_run.proofs.steps.run_step_at.Goals.{After-catch_up_with_first}

-- the processors once p has caught up
way_seen : (g : given.Over) (c : After-catch_up_with_first g)
    → AreAtRunSteps c.args.cluster.now (plan_of c.args.script.now).sections c.catch_up_with_first.new.processors.items
    c.args.all.now.items
way_seen g c =
    let ms = c.args.processors.now.items in
    let seen = c.catch_up_with_first.new.processors.items in
    turn_way_seen c.args.cluster.now (plan_of c.args.script.now).sections ms seen c.args.all.now.items c.requires.way
    (turn_way_sees_turns_on ms seen c.args.p 0 c.catch_up_with_first.ensures)

pub catch_up_with_first-requires-clause-own : goal.catch_up_with_first-requires-clause-own
catch_up_with_first-requires-clause-own g c κs within = λ q m here.
    step_after_turn_own_at q m
    c.requires.lawful c.requires.sizes c.requires.way here

pub make_run_turn-requires-clause-own : goal.make_run_turn-requires-clause-own
make_run_turn-requires-clause-own g c κs within =
    let seen = c.catch_up_with_first.new.processors.items in
    let p = c.args.p in
    let m = c.index_mut.result.now in
    let on = turn_way_sees_turns_on c.args.processors.now.items seen p 0 c.catch_up_with_first.ensures in
    let same = on.all in
    let inside : p < length seen = omega (arith, c.requires.within) in
    step_after_turn_own_at p m c.requires.lawful c.requires.sizes
    (way_seen g (goal.at.make_run_turn-requires-clause-own g c).After-catch_up_with_first)
    (slice_get_read seen (length seen) p m refl inside c.index_mut.ensures.value)

pub catch_first_up-requires-clause-own : goal.catch_first_up-requires-clause-own
catch_first_up-requires-clause-own g c κs within =
    let seen = c.catch_up_with_first.new.processors.items in
    let p = c.args.p in
    let m = c.index_mut.result.now in
    let on = turn_way_sees_turns_on c.args.processors.now.items seen p 0 c.catch_up_with_first.ensures in
    let same = on.all in
    let inside : p < length seen = omega (arith, c.requires.within) in
    let way = way_seen g (goal.at.catch_first_up-requires-clause-own g c).After-catch_up_with_first in
    turn_way_locks seen p c.make_run_turn.new.processor c.deref.result.now c.index.result.now c.in-Ok.outcome.0
    (slice_get_read seen (length seen) p m refl inside c.index_mut.ensures.value) c.in-Ok.ensures.turn (λ q x here.
    step_after_turn_own_at q x c.requires.lawful
    c.requires.sizes way here)

pub returns-in-Ok-clause-turn : goal.returns-in-Ok-clause-turn
returns-in-Ok-clause-turn g c =
    let s = plan_of c.args.script.now in
    let ms = c.args.processors.now.items in
    let seen = c.catch_up_with_first.new.processors.items in
    let all = c.args.all.now.items in
    let p = c.args.p in
    let m = c.index_mut.result.now in
    let section = c.deref.result.now in
    let at = c.index.result.now in
    let on = turn_way_sees_turns_on ms seen p 0 c.catch_up_with_first.ensures in
    let same = on.all in
    let inside : p < length ms = omega (arith, c.requires.within) in
    let within : p < length seen = omega arith in
    let turn : IsRunTurnAlone s.sections p seen (slice_set seen p c.make_run_turn.new.processor) all (slice_set all p c.in-Ok.outcome.0) =
    record {
      section = section;
      before = m;
      after = c.make_run_turn.new.processor;
      at = at;
      next = c.in-Ok.outcome.0;
      section_is = step_after_turn_section_read c.args.script.now.sections.items p
          c.index-section.result.now c.requires.lawful c.requires.sizes refl c.requires.way inside
          c.index-section.ensures c.deref.ensures.value;
      before_is = slice_get_read seen (length seen) p m refl within c.index_mut.ensures.value;
      at_is = step_after_turn_progress_read c.args.cluster.now s.sections ms all p at c.requires.way inside c.index.ensures;
      takes = c.in-Ok.ensures.turn;
      new_is = refl;
      to_is = refl;
    } in
    turn_way_in_hand c.catch_up_with_first.ensures turn c.catch_first_up.ensures

pub returns-in-Ok-clause-vain : goal.returns-in-Ok-clause-vain
returns-in-Ok-clause-vain g c = λ no.
    let ms = c.args.processors.now.items in
    let seen = c.catch_up_with_first.new.processors.items in
    let turned = slice_set seen c.args.p c.make_run_turn.new.processor in
    let all = c.args.all.now.items in
    let p = c.args.p in
    let at = c.index.result.now in
    let turn = returns-in-Ok-clause-turn g c in
    let inside : p < length ms = omega (arith, c.requires.within) in
    let first = turn_way_sees_turns_on ms seen p 0 c.catch_up_with_first.ensures in
    let same = first.all in
    let within : p < length seen = omega arith in
    let vain = c.in-Ok.ensures.vain no in
    let one = turn_way_one_seen seen p c.index_mut.result.now c.make_run_turn.new.processor
    (slice_get_read seen (length seen) p c.index_mut.result.now refl within c.index_mut.ensures.value) vain.0 in
    let last = turn_way_sees_turns_on turned c.catch_first_up.new.processors.items 0 p c.catch_first_up.ensures in (
      record {
        on = turn_way_on_then ms seen c.catch_first_up.new.processors.items first
            (turn_way_on_then seen turned c.catch_first_up.new.processors.items one last);
        ahead = turn.ahead;
      },
      turn_way_set_same all p at c.in-Ok.outcome.0
          (step_after_turn_progress_read c.args.cluster.now (plan_of c.args.script.now).sections ms all p at c.requires.way inside
          c.index.ensures) vain.1,
    )
