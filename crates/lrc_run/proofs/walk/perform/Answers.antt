use Rattle.std.proofs.Common.{rules, ◌≡◌, Bool, false, true, subst, ◌∙◌, arith}
use Rattle.lrc_run.specs.RunCalls.{IsRunCallUnderway, IsRunCallOfTake}
use Rattle.lrc_run.proofs.MoreCalls.{makes_more_calls_its_way}
use Rattle.lrc_run.proofs.VainLooks.{vain_look_first, vain_look_last, vain_look_next, vain_look_told}
use Rattle.lrc_run.proofs.walk.perform.Goals as goal

pub returns-then-branch-2-clause-ok : goal.returns-then-branch-2-clause-ok
returns-then-branch-2-clause-ok g c =
    let begun : c.in_ok-begin_walk_instruction.field-0 ≡ false = search rules in
    let taken : c.in_ok-end.field-0 ≡ true = search rules in
    let P : Bool → Type 0 = λ b. IsRunCallUnderway c.args.processor.now c.begin_walk_instruction.new.processor c.args.instruction b in
    let Q : Bool → Type 0 = λ b. IsRunCallOfTake c.begin_walk_instruction.new.processor c.end.new.processor b in
    makes_more_calls_its_way c.args.processor.now c.begin_walk_instruction.new.processor c.end.new.processor c.args.instruction true
    (subst P begun c.in_ok-begin_walk_instruction.ensures.ok) (subst Q taken c.in_ok-end.ensures.ok)

pub returns-then-taken-clause-ok : goal.returns-then-taken-clause-ok
returns-then-taken-clause-ok g c =
    let taken : c.in-Ok.taken ≡ true = search rules in
    let P : Bool → Type 0 = λ b. IsRunCallOfTake c.loop-looks.processor c.look_again.new.processor b in
    makes_more_calls_its_way c.args.processor.now c.loop-looks.processor c.look_again.new.processor c.args.instruction true
    c.loop-looks.invariant.begun (subst P taken c.in-Ok.ensures.ok)

pub loop-looks-init : goal.loop-looks-init
loop-looks-init g c =
    let late : c.in_ok-end.field-0 ≡ false = search rules in
    let begun : c.in_ok-begin_walk_instruction.field-0 ≡ false = search rules in
    let P : Bool → Type 0 = λ b. IsRunCallUnderway c.args.processor.now c.begin_walk_instruction.new.processor c.args.instruction b in
    let Q : Bool → Type 0 = λ b. IsRunCallOfTake c.begin_walk_instruction.new.processor c.end.new.processor b in
    let way = makes_more_calls_its_way c.args.processor.now c.begin_walk_instruction.new.processor c.end.new.processor c.args.instruction false
    (subst P begun c.in_ok-begin_walk_instruction.ensures.ok) (subst Q late c.in_ok-end.ensures.ok) in
    record {
      own = way.makes.same.lock ∙ c.requires.own;
      begun = way;
      vain = vain_look_first c.args.tries c.args.processor.now c.begin_walk_instruction.new.processor c.end.new.processor c.args.instruction
          (subst P begun c.in_ok-begin_walk_instruction.ensures.ok)
          (record { takes = subst Q late c.in_ok-end.ensures.ok; entered = c.in_ok-end.ensures.entered });
    }

pub loop-looks-preserved : goal.loop-looks-preserved
loop-looks-preserved g c =
    let late : c.in-Ok.taken ≡ false = search rules in
    let Q : Bool → Type 0 = λ b. IsRunCallOfTake c.loop-looks.processor c.look_again.new.processor b in
    let took = subst Q late c.in-Ok.ensures.ok in
    record {
      own = took.same.lock ∙ c.loop-looks.invariant.own;
      begun = makes_more_calls_its_way c.args.processor.now c.loop-looks.processor c.look_again.new.processor c.args.instruction false
          c.loop-looks.invariant.begun took;
      vain = vain_look_next c.args.tries c.loop-looks.looks c.args.processor.now c.loop-looks.processor c.look_again.new.processor
          c.args.instruction c.loop-looks-test.true c.loop-looks.invariant.vain (c.in-Ok.ensures.looked late);
    }

pub returns-clause-stuck : goal.returns-clause-stuck
returns-clause-stuck g c = λ _.
    vain_look_last c.args.tries c.loop-looks.looks c.args.processor.now c.loop-looks.processor c.args.instruction
    (omega (arith, c.loop-looks-test.false)) c.loop-looks.invariant.vain

pub returns-in-Err-clause-stuck : goal.returns-in-Err-clause-stuck
returns-in-Err-clause-stuck g c = λ stuck.
    vain_look_told c.args.tries c.loop-looks.looks c.args.processor.now c.loop-looks.processor c.look_again.new.processor
    c.args.instruction c.loop-looks-test.true c.loop-looks.invariant.vain (c.in-Err.ensures.stuck stuck)
