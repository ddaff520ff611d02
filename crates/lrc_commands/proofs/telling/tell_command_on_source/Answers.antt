use Rattle.lrc_check.specs.Traces.Sizes.{trace_sizes_of}
use Rattle.lrc_commands.proofs.JudgedSources.{judged_source_told_as, judged_source_told_by}
use Rattle.lrc_commands.proofs.telling.tell_command_on_source.Goals as goal

pub returns-clause-told : goal.returns-clause-told
returns-clause-told g c =
    judged_source_told_by _ _ c.check_command_model.result _ _ _ _ c.is_some-lies.ensures c.check_command_model.ensures
    (judged_source_told_as _ _ _ _ _ _ c.in_ok-labelled.ensures.trace c.in_ok-labelled.ensures.text c.in_ok-told.ensures.events)

pub returns-clause-held : goal.returns-clause-held
returns-clause-held g c = record {
  sizes = trace_sizes_of c.in_ok-labelled.labelled.trace.sizes;
  events = c.in_ok-labelled.labelled.trace.events.items;
  trace = c.in_ok-labelled.ensures.trace;
  text_is = c.in_ok-labelled.ensures.text;
  few = c.can_trace_be_held.ensures.0 c.if-not-can_trace_be_held.false;
}

pub tell_trace-requires : goal.tell_trace-requires
tell_trace-requires g c = record {
  trace = c.in_ok-labelled.ensures.trace;
  few = c.can_trace_be_held.ensures.0 c.if-not-can_trace_be_held.false;
}
