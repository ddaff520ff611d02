use Rattle.std.proofs.Common.{None, get_or, length, refl, subst, ◌∙◌, arith}
use Rattle.std.proofs.lemmas.Option.{slice_get-get_or, slice_get_read}
use Rattle.lrc_script.specs.Prelude.{plan_of}
use Rattle.explore.specs.Prefixes.ScriptCalls.{script_calls_shown_by}
use Rattle.lrc_tester.specs.Following.{IsNextAfter, with_asks}
use Rattle.lrc_tester.proofs.EventsNoted.{events_noted_all_whole, events_noted_unfinished, events_noted_whole_before, events_noted_whole_more}
use Rattle.lrc_tester.proofs.following.end.Goals as goal

pub returns-then-made-len : goal.returns-then-made-len
returns-then-made-len c g rows old =
    let s = plan_of c.args.script.now in
    let p = c.loop-processor.processor in
    let now = get_or c.args.come.now p (record { made = 0; reply = 0; last = None }) in
    let there = slice_get-get_or c.args.come.now p (record { made = 0; reply = 0; last = None }) c.loop-processor-test.true in (
      record {
        begins = old.begins;
        unfinished = events_noted_unfinished s c.args.rows.now c.args.come.now (with_asks g) rows old p
            now c.index-rows-processor.result there
            (slice_get_read c.args.rows.now (length c.args.rows.now) p c.index-rows-processor.result refl (omega (arith, c.requires, c.loop-processor-test.true)) c.index-rows-processor.is)
            (λ is. c.if-made-len.true (is ∙ (omega (arith, c.len.ensures, c.index-rows-processor.result.ok.0))));
        before = events_noted_whole_before s c.args.rows.now c.args.come.now (with_asks g) rows old p c.requires
            c.loop-processor.auto.processor-end c.loop-processor.invariant;
      },
      λ section at. subst (λ n. IsNextAfter section (length (script_calls_shown_by s p)) n c.next_of.result)
          (old.each p now there).made (c.next_of.ensures section at),
    )

pub loop-processor-preserved : goal.loop-processor-preserved
loop-processor-preserved c =
    events_noted_whole_more c.args.come.now c.args.rows.now c.loop-processor.processor
    (get_or c.args.come.now c.loop-processor.processor (record { made = 0; reply = 0; last = None })) c.index-rows-processor.result
    (slice_get-get_or c.args.come.now c.loop-processor.processor _ c.loop-processor-test.true)
    (slice_get_read c.args.rows.now (length c.args.rows.now) c.loop-processor.processor c.index-rows-processor.result refl (omega (arith, c.requires, c.loop-processor-test.true)) c.index-rows-processor.is)
    (c.if-made-len.false ∙ (omega (arith, c.len.ensures, c.index-rows-processor.result.ok.0))) c.loop-processor.invariant

pub returns : goal.returns
returns c g rows old =
    events_noted_all_whole (plan_of c.args.script.now) c.args.rows.now c.args.come.now (with_asks g) rows old c.requires
    (λ q lt. c.loop-processor.invariant q (omega (arith, lt, c.loop-processor-test.false)))
