use Rattle.std.proofs.Common.{List, length, refl, subst, arith}
use Rattle.std.proofs.lemmas.Grind.{elements}
use Rattle.lrc_script.specs.Plan.{plan_of}
use Rattle.conformance.specs.declared.progress.TurnProgress.{TurnProgress}
use Rattle.lrc_run.specs.FollowedEnds.{IsFollowedEndAfter}
use Rattle.lrc_run.proofs.EndsByTurns.{ends_by_turns_of_draws, ends_by_turns_of_schedule, ends_by_turns_taken, ends_by_turns}
use Rattle.lrc_run.proofs.steps.drawn.step_drawn_with.Goals as goal

pub returns-in-Ok-clause-end : goal.returns-in-Ok-clause-end
returns-in-Ok-clause-end g c =
    let s = plan_of c.args.script.now in
    let start = c.in_ok-cluster.ensures in
    let ms = c.in_ok-cluster.processors.items in
    let ns = c.go_as_drawn.new.processors.items in
    let begin = c.in_ok-cluster.all.items in
    let all = c.go_as_drawn.new.all.items in
    let gone = c.in_ok-turns.ensures.gone in
    let told = ends_by_turns_of_schedule s c.in_ok-cluster.cluster c.in_ok-turns.turns.items ms ns all start.sizes start.new
    (ends_by_turns_taken begin (length ms) start.sizes start.new refl start.begin gone.first gone.gone) in
    let Q : List TurnProgress → Type 0 = λ xs. IsFollowedEndAfter s ns xs c.in-Ok.ended in
    let after = subst Q c.deref.ensures.value c.in-Ok.ensures.end in
    ends_by_turns c.in-Ok.ended c.requires.lawful start.sizes gone.gone.way told after

pub returns-in-Ok-clause-draws : goal.returns-in-Ok-clause-draws
returns-in-Ok-clause-draws g c =
    let start = c.in_ok-cluster.ensures in
    let ms = c.in_ok-cluster.processors.items in
    let gone = c.in_ok-turns.ensures.gone in
    let Q : List TurnProgress → Type 0 = λ xs. IsFollowedEndAfter (plan_of c.args.script.now) c.go_as_drawn.new.processors.items xs c.in-Ok.ended in
    let after = subst Q c.deref.ensures.value c.in-Ok.ensures.end in
    ends_by_turns_of_draws c.in_ok-cluster.all.items (length ms) c.in-Ok.ended c.requires.lawful start.sizes
    start.new refl start.begin gone.wandered gone.gone after

pub go_as_drawn-requires : goal.go_as_drawn-requires
go_as_drawn-requires g c = grind (arith, elements)

pub run_steps_result-requires : goal.run_steps_result-requires
run_steps_result-requires g c = grind (arith, elements)
