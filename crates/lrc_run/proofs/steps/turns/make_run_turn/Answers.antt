use Rattle.std.proofs.Common.{refl, subst, sym, ◌∙◌, ap}
use Rattle.lrc_script.specs.declared.script.Instruction.{Instruction}
use Rattle.conformance.specs.declared.progress.TurnProgress.{TurnProgress}
use Rattle.conformance.specs.ScriptTurns.{script_turn_progress_after}
use Rattle.lrc_run.specs.RunTurns.{RunTurnMakes}
use Rattle.lrc_run.specs.RunCalls.{IsRunCallUnderway}
use Rattle.lrc_run.proofs.TurnWays.{turn_way_look_seen, turn_way_sees_more}
use Rattle.lrc_run.proofs.steps.turns.make_run_turn.Goals as goal

pub returns-in_ok-done-in-Next-clause-turn : goal.returns-in_ok-done-in-Next-clause-turn
returns-in_ok-done-in-Next-clause-turn g c =
    let m = c.args.processor.now in
    let n = c.go_on_with_turn.new.processor in
    let section = c.args.section.now in
    let done = c.in_ok-done-in-Next.done in
    let P : TurnProgress → Type 0 = λ x. RunTurnMakes section m x n c.progress_after_turn.result in
    subst P (sym c.in-Next.is) (record {
      done = done;
      way = subst (λ (i : Instruction). IsRunCallUnderway m n i done) c.instruction_at_turn.ensures
          c.in_ok-done-in-Next.ensures.way;
      late = c.in_ok-done-in-Next.ensures.late;
      to_is = c.progress_after_turn.ensures;
    })

pub returns-in_ok-done-in-Waits-clause-turn : goal.returns-in_ok-done-in-Waits-clause-turn
returns-in_ok-done-in-Waits-clause-turn g c =
    let m = c.args.processor.now in
    let n = c.end.new.processor in
    let section = c.args.section.now in
    let P : TurnProgress → Type 0 = λ x. RunTurnMakes section m x n c.progress_after_turn-in-Waits.result in
    subst P (sym c.in-Waits.is) (record {
      taken = c.in_ok-done-in-Waits.done;
      takes = c.in_ok-done-in-Waits.ensures.ok;
      to_is = c.progress_after_turn-in-Waits.ensures;
    })

pub returns-in_ok-done-in-Waits-clause-vain : goal.returns-in_ok-done-in-Waits-clause-vain
returns-in_ok-done-in-Waits-clause-vain g c = λ no. (
  turn_way_look_seen c.args.processor.now c.end.new.processor c.in_ok-done-in-Waits.done c.in_ok-done-in-Waits.ensures.ok no,
  c.progress_after_turn-in-Waits.ensures ∙ ap (script_turn_progress_after c.args.section.now c.in-Waits.n) no ∙ sym c.in-Waits.is,
)

pub returns-in-Passed-clause-vain : goal.returns-in-Passed-clause-vain
returns-in-Passed-clause-vain g c = λ _. (turn_way_sees_more c.args.processor.now c.args.processor.now refl, sym c.in-Passed.is)
