use Rattle.std.proofs.Common.{List, length, refl, subst, arith}
use Rattle.std.proofs.lemmas.Grind.{elements}
use Rattle.std.specs.Prelude.{IfOk}
use Rattle.lrc_script.specs.Plan.{plan_of}
use Rattle.conformance.specs.OrderedTurns.{IsEndByOrderedTurns, ordered_turns_of_seed}
use Rattle.conformance.specs.declared.progress.TurnProgress.{TurnProgress}
use Rattle.lrc_run.specs.FollowedEnds.{IsFollowedEndAfter}
use Rattle.lrc_run.proofs.EndsByTurns.{ends_by_turns_in_rounds, ends_by_turns_of_seed, ends_by_turns}
use Rattle.lrc_run.proofs.Failing.{failing_ok_as}
use Rattle.lrc_run.proofs.steps.step_as_far_with.Goals as goal

pub returns-clause-end : goal.returns-clause-end
returns-clause-end g c =
    let s = plan_of c.args.script.now in
    let start = c.in_ok-cluster.ensures in
    let ms = c.in_ok-cluster.processors.items in
    let ns = c.go_round.new.processors.items in
    let all = c.go_round.new.all.items in
    let gone = c.in_ok-passed.ensures.gone in
    let orders = ordered_turns_of_seed s c.args.seed in
    let told = ends_by_turns_of_seed s c.in_ok-cluster.cluster c.args.seed ms ns all start.sizes start.new
    (ends_by_turns_in_rounds (length ms) start.sizes start.new refl start.begin gone) in
    let P : List TurnProgress → Type 0 = λ xs. IfOk c.run_steps_result.result (IsFollowedEndAfter s ns xs) in
    failing_ok_as c.run_steps_result.result (IsFollowedEndAfter s ns all) (IsEndByOrderedTurns s orders)
    (λ e after. ends_by_turns e c.requires.lawful start.sizes gone.way told after)
    (subst P c.deref.ensures.value c.run_steps_result.ensures.end)

pub go_round-requires : goal.go_round-requires
go_round-requires g c = grind (arith, elements)

pub run_steps_result-requires : goal.run_steps_result-requires
run_steps_result-requires g c = grind (arith, elements)
