use Rattle.std.proofs.Common.{rules, ◌≡◌, Bool, false, subst}
use Rattle.cluster.specs.TakingCalls.{IsTakingCallLate}
use Rattle.lrc_run.specs.RunCalls.{IsRunCallUnderway, IsRunCallOfTake}
use Rattle.lrc_run.proofs.Failing.{failing_ok_as}
use Rattle.lrc_run.proofs.MoreCalls.{makes_more_calls_its_way}
use Rattle.lrc_run.proofs.steps.turns.go_on_with_turn.Goals as goal

pub returns-clause-way : goal.returns-clause-way
returns-clause-way g c =
    let l = c.args.processor.now in
    let m = c.begin_walk_instruction.new.processor in
    let n = c.end.new.processor in
    let i = c.args.instruction in
    let begun : c.in_ok-begin_walk_instruction.field-0 ≡ false = search rules in
    let first = subst (λ (b : Bool). IsRunCallUnderway l m i b) begun c.in_ok-begin_walk_instruction.ensures.ok in
    failing_ok_as c.end.result (IsRunCallOfTake m n) (IsRunCallUnderway l n i) (λ taken took. makes_more_calls_its_way l m n i taken first took)
    c.end.ensures.ok

pub returns-clause-late : goal.returns-clause-late
returns-clause-late g c =
    let m = c.begin_walk_instruction.new.processor in
    let n = c.end.new.processor in
    failing_ok_as c.end.result (IsRunCallOfTake m n) (λ done. done ≡ false → IsTakingCallLate n) (λ taken took none. (took.no none).late)
    c.end.ensures.ok
