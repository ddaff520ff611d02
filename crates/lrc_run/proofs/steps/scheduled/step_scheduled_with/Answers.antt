use Rattle.std.proofs.Common.{ℕ, List, length, refl, subst, arith}
use Rattle.std.proofs.lemmas.Grind.{elements}
use Rattle.lrc_script.specs.Plan.{plan_of}
use Rattle.conformance.specs.declared.progress.TurnProgress.{TurnProgress}
use Rattle.lrc_run.specs.FollowedEnds.{IsFollowedEndAfter}
use Rattle.lrc_run.specs.RunTurns.{AreRunTurnsTaken}
use Rattle.lrc_run.proofs.EndsByTurns.{ends_by_turns_of_schedule, ends_by_turns_taken, ends_by_turns}
use Rattle.lrc_run.proofs.steps.scheduled.step_scheduled_with.Goals as goal

pub returns-clause-end : goal.returns-clause-end
returns-clause-end g c =
    let s = plan_of c.args.script.now in
    let start = c.in_ok-cluster.ensures in
    let ms = c.in_ok-cluster.processors.items in
    let ns = c.go_as_scheduled.new.processors.items in
    let begin = c.in_ok-cluster.all.items in
    let all = c.go_as_scheduled.new.all.items in
    let gone = c.in_ok-passed.ensures.gone in
    let turns = c.args.schedule.now.turns.items in
    let P : List ℕ → Type 0 = λ ps. AreRunTurnsTaken s.sections ps ms gone.between begin gone.half in
    let taken = subst P c.deref.ensures.value gone.first in
    let told = ends_by_turns_of_schedule s c.in_ok-cluster.cluster turns ms ns all start.sizes start.new
    (ends_by_turns_taken begin (length ms) start.sizes start.new refl start.begin taken gone.gone) in
    let Q : List TurnProgress → Type 0 = λ xs. IsFollowedEndAfter s ns xs c.in_ok-run_steps_result.field-0 in
    let after = subst Q c.deref-2.ensures.value c.in_ok-run_steps_result.ensures.end in
    ends_by_turns c.in_ok-run_steps_result.field-0 c.requires.lawful start.sizes gone.gone.way told after

pub go_as_scheduled-requires : goal.go_as_scheduled-requires
go_as_scheduled-requires g c = grind (arith, elements)

pub run_steps_result-requires : goal.run_steps_result-requires
run_steps_result-requires g c = grind (arith, elements)
