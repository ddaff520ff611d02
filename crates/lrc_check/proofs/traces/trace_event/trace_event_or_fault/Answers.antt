use Rattle.std.proofs.Common.{ap, sym, ◌∙◌}
use Rattle.lrc_check.specs.Traces.Names.{trace_name_meaning}
use Rattle.lrc_check.proofs.traces.Shapes.{trace_shape_bad_place, trace_shape_bad_processor, trace_shape_event_found, trace_shape_kind_read, trace_shape_numbers_fault}
use Rattle.lrc_check.proofs.traces.trace_event.trace_event_or_fault.Goals as goal

pub returns-in_default-number-clause-fault : goal.returns-in_default-number-clause-fault
returns-in_default-number-clause-fault c =
    trace_shape_bad_place c.args.line.now _ _ _ _ c.in-Some.ensures (sym c.number.ensures ∙ c.in_default-number.is)

pub returns-in_default-number-2-clause-fault : goal.returns-in_default-number-2-clause-fault
returns-in_default-number-2-clause-fault c =
    trace_shape_bad_processor c.args.line.now _ _ _ _ c.in-Some.ensures (sym c.number-2.ensures ∙ c.in_default-number-2.is)

pub returns-in-Err-clause-fault : goal.returns-in-Err-clause-fault
returns-in-Err-clause-fault c =
    trace_shape_numbers_fault c.args.line.now _ _ _ _ c.in-Err.fault _ c.in-Some.ensures c.in-Err.ensures c.from.ensures

pub returns-in_default-kind-clause-fault : goal.returns-in_default-kind-clause-fault
returns-in_default-kind-clause-fault c =
    absurd
    (trace_shape_kind_read c.args.line.now _ _ _ _ c.in-Ok.numbers.items c.in-Some.ensures c.in-Ok.ensures
    (ap (trace_name_meaning c.in-Some.words.name) (sym c.as_slice.ensures) ∙ sym c.kind.ensures ∙ c.in_default-kind.is))

pub returns-clause-found : goal.returns-clause-found
returns-clause-found c =
    trace_shape_event_found c.args.line.now _ _ _ _ _ _ c.in-Ok.numbers.items _ c.in-Some.ensures
    (sym c.number.ensures ∙ c.in-Some-number.is) (sym c.number-2.ensures ∙ c.in-Some-number-2.is) c.in-Ok.ensures
    (ap (trace_name_meaning c.in-Some.words.name) (sym c.as_slice.ensures) ∙ sym c.kind.ensures ∙ c.in-Some-kind.is)
