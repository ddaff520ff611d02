use Rattle.std.proofs.Common.{sym, ◌∙◌}
use Rattle.lrc_check.proofs.traces.Shapes.{trace_shape_words_differ, trace_shape_words_same}
use Rattle.lrc_check.proofs.traces.CutLines.{cut_line_count_told, cut_line_uncounted_told, cut_line_alone, cut_line_other_first, cut_line_told_uncut}
use Rattle.lrc_check.proofs.traces.trace_event.tells_cut_trace_events.Goals as goal

pub returns-then-ne : goal.returns-then-ne
returns-then-ne c =
    cut_line_told_uncut c.args.line.now (cut_line_other_first c.args.line.now _ _ c.split_script_line_at.ensures.parts
    (trace_shape_words_differ _ _ _ _ c.ne.ensures c.if-ne.true c.as_slice.ensures))

pub returns-in-Some-number : goal.returns-in-Some-number
returns-in-Some-number c =
    cut_line_count_told c.args.line.now _ c.in-Some.rest.now c.in-Some-number.count
    (rw c.in-Some.is at c.split_script_line_at.ensures.parts)
    (trace_shape_words_same _ _ _ _ c.ne.ensures c.if-ne.false c.as_slice.ensures) (sym c.number.ensures ∙ c.in-Some-number.is)

pub returns-in-None : goal.returns-in-None
returns-in-None c =
    cut_line_uncounted_told c.args.line.now _ c.in-Some.rest.now (rw c.in-Some.is at c.split_script_line_at.ensures.parts)
    (sym c.number.ensures ∙ c.in-None.is)

pub returns-in_default : goal.returns-in_default
returns-in_default c =
    cut_line_told_uncut c.args.line.now
    (cut_line_alone c.args.line.now _ (rw c.in_default.is at c.split_script_line_at.ensures.parts))
