use Rattle.std.proofs.Common.{◌≡◌, ◌+◌, length, subst, arith}
use Rattle.std.proofs.lemmas.List.{take_all}
use Rattle.std.proofs.lemmas.Option.{slice_get-get_or}
use Rattle.explore.specs.Prefixes.ScriptCalls.{script_calls_of_all}
use Rattle.lrc_tester.proofs.NextCalls.{next_calls_at_end, next_calls_inside, next_calls_next}
use Rattle.lrc_tester.proofs.next.next_in_section.Goals as goal

pub returns-then-left-calls : goal.returns-then-left-calls
returns-then-left-calls c =
    next_calls_inside c.args.section.now c.args.made c.loop-index.index c.loop-index.left c.count_of_calls-calls.result _
    (slice_get-get_or c.args.section.now c.loop-index.index _ c.loop-index-test.true) c.loop-index-test.true c.loop-index.invariant
    c.count_of_calls-calls.ensures c.if-left-calls.true

pub loop-index-preserved : goal.loop-index-preserved
loop-index-preserved c =
    next_calls_next c.args.section.now c.args.made c.loop-index.index c.loop-index.left c.count_of_calls-calls.result _
    (slice_get-get_or c.args.section.now c.loop-index.index _ c.loop-index-test.true) c.loop-index.invariant
    c.count_of_calls-calls.ensures c.if-left-calls.false

pub returns : goal.returns
returns c =
    next_calls_at_end c.args.section.now c.args.shown c.args.made c.loop-index.left c.next_at_end.result
    (subst (λ is. c.args.made ≡ length (script_calls_of_all is) + c.loop-index.left)
    (take_all c.loop-index.index c.args.section.now (omega (arith, c.loop-index-test.false))) c.loop-index.invariant)
    c.next_at_end.ensures
