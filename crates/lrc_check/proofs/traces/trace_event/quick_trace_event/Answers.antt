use Rattle.std.proofs.Common.{sym, ◌∙◌}
use Rattle.lrc_check.proofs.traces.Shapes.{trace_shape_event_quick, trace_shape_four_words, trace_shape_words_same}
use Rattle.lrc_check.proofs.traces.trace_event.quick_trace_event.Goals as goal

pub returns : goal.returns
returns c =
    trace_shape_event_quick c.args.line.now _ _ _ c.in_ok-word.word.now c.in_ok-name.name _ _ _ _
    (trace_shape_four_words c.args.line.now _ _ _ _ _ _ _ _ c.split_script_line_at.ensures.parts c.in_ok-place.ensures
    c.in_ok-processor.ensures c.in_ok-word.ensures)
    (trace_shape_words_same _ _ _ _ c.ne.ensures c.if-ne.false c.as_slice.ensures) (sym c.of.ensures ∙ c.in_ok-name.was)
    (sym c.number.ensures ∙ c.in_ok-at.was) (sym c.number-2.ensures ∙ c.in_ok-by.was) c.in_ok-kind.ensures
