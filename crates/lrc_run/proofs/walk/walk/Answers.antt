use Rattle.std.proofs.Common.{◌≡◌, add-one, ap, subst, sym, take, length, List, ◌∙◌, arith}
use Rattle.std.proofs.Math.Seq.{take-length}
use Rattle.std.proofs.lemmas.Option.{get_or_from_slice_get, slice_get-get_or}
use Rattle.base.proofs.SlicesAndCounts.{slice_take-suc_at}
use Rattle.lrc_script.specs.declared.script.Instruction.{Instruction}
use Rattle.lrc_run.specs.RunCalls.{HasRunCallsOfAll}
use Rattle.lrc_run.proofs.MoreCalls.{makes_more_calls_all_more, makes_more_calls_walk_where}
use Rattle.lrc_script.specs.declared.script.Instruction.TheVariants.{Barrier}
use Rattle.lrc_run.specs.LooksInVain.{HasGivenUpInstruction}
use Rattle.lrc_run.proofs.VainLooks.{vain_look_walk, vain_look_walk_where}
use Rattle.lrc_run.proofs.walk.walk.Goals as goal

pub loop-index-preserved : goal.loop-index-preserved
loop-index-preserved g c =
    let at = slice_get-get_or c.args.section.now c.loop-index.index _ c.loop-index-test.true in
    record {
      own = c.perform.ensures.same.lock ∙ c.loop-index.invariant.own;
      all = rw (add-one, slice_take-suc_at c.args.section.now c.loop-index.index _ at)
          (makes_more_calls_all_more c.args.processor.now c.loop-index.processor c.perform.new.processor
          _ _ c.loop-index.invariant.all c.in-Ok.ensures.ok);
    }

pub returns-clause-ok : goal.returns-clause-ok
returns-clause-ok g c =
    let start = c.args.processor.now in
    let m = c.loop-index.processor in
    let section = c.args.section.now in
    let end = c.loop-index.auto.index-end in
    let last : c.loop-index.index ≡ length section = omega (arith, c.loop-index-test.false) in
    let whole = ap (λ n. take n section) last ∙ take-length section in
    let all = subst (λ (is : List Instruction). HasRunCallsOfAll start m is) whole c.loop-index.invariant.all in
    makes_more_calls_walk_where start m c.perform-2.new.processor section c.perform-2.result all c.perform-2.ensures.ok

pub returns-in-Err-clause-stuck : goal.returns-in-Err-clause-stuck
returns-in-Err-clause-stuck g c = λ stuck.
    let k = c.loop-index.index in
    let section = c.args.section.now in
    let up = subst (λ (i : Instruction). HasGivenUpInstruction c.args.course.now.tries c.loop-index.processor c.perform.new.processor i)
    (sym (get_or_from_slice_get section k _ Barrier (slice_get-get_or section k _ c.loop-index-test.true))) (c.in-Err.ensures.stuck stuck) in
    vain_look_walk c.args.course.now.tries c.args.processor.now c.loop-index.processor c.perform.new.processor section k
    (omega (arith, c.loop-index-test.true)) c.loop-index.invariant.all up

pub returns-clause-stuck : goal.returns-clause-stuck
returns-clause-stuck g c =
    let start = c.args.processor.now in
    let m = c.loop-index.processor in
    let section = c.args.section.now in
    let end = c.loop-index.auto.index-end in
    let last : c.loop-index.index ≡ length section = omega (arith, c.loop-index-test.false) in
    let whole = ap (λ n. take n section) last ∙ take-length section in
    let all = subst (λ (is : List Instruction). HasRunCallsOfAll start m is) whole c.loop-index.invariant.all in
    vain_look_walk_where c.args.course.now.tries start m c.perform-2.new.processor section c.perform-2.result all c.perform-2.ensures.stuck
