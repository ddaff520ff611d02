use Rattle.std.proofs.Common.{◌≡◌, ℕ, List, [], Option, Some, None, Ok, ap, sym, ◌∙◌}
use Rattle.std.specs.Prelude.{IfSome}
use Rattle.journal.specs.declared.event.Kind.{Kind}
use Rattle.lrc_script.specs.LineReading.{line_read_numbers_after}
use Rattle.lrc_check.specs.declared.traces.event_name.EventName.{EventName}
use Rattle.lrc_check.specs.Traces.Names.{trace_name_meaning}
use Rattle.lrc_check.specs.Traces.TraceLines.{TraceLineGivesKind}
use Rattle.lrc_check.proofs.traces.trace_event.trace_event_kind.Goals as goal

-- the kind that the numbers of these words give
given : (name : EventName) (words : List (List ℕ)) (ns : List ℕ) (r : Option Kind) → line_read_numbers_after [] words ≡ Ok ns
    → r ≡ trace_name_meaning name ns → IfSome r (TraceLineGivesKind name words)
given name words ns None read is = tt
given name words ns (Some k) read is = record { numbers = ns; read = read; kind = sym is }

pub returns-in-Some : goal.returns-in-Some
returns-in-Some c =
    given c.args.name _ _ c.kind.result c.in-Some.ensures.numbers
    (c.kind.ensures ∙ ap (trace_name_meaning c.args.name) c.as_slice.ensures)

pub returns-in-Ok : goal.returns-in-Ok
returns-in-Ok c =
    given c.args.name _ _ c.kind-in-Ok.result c.in-Ok.ensures
    (c.kind-in-Ok.ensures ∙ ap (trace_name_meaning c.args.name) c.as_slice-in-Ok.ensures)
