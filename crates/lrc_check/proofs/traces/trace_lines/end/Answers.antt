use Rattle.std.proofs.Common.{◌≡◌, ◌≢◌, ℕ, List, [], ◌++◌, Option, Some, sym, ◌∙◌, append-nil}
use Rattle.std.proofs.lemmas.Result.{err_from_is_err_and}
use Rattle.lrc_check.specs.declared.traces.fault.TraceFault.TheVariants.{Truncated, NoMemory}
use Rattle.lrc_check.specs.declared.traces.trace.Trace.{Trace}
use Rattle.lrc_check.specs.Traces.Begun.{IsTraceBegun, trace_begun_text}
use Rattle.lrc_check.specs.Traces.LawfulTraces.{IsNoOtherLawfulTrace}
use Rattle.lrc_check.specs.Traces.Sizes.{trace_sizes_of}
use Rattle.lrc_check.specs.Traces.TraceText.{trace_text}
use Rattle.lrc_check.proofs.traces.TraceWalk.{trace_walk_fault_only}
use Rattle.lrc_check.proofs.traces.TextParts.{text_parts_of_no_other_trace}
use Rattle.lrc_check.proofs.traces.trace_lines.end.Goals as goal

-- the trace that the lines are is the only one with their text
alone : (begun : Option Trace) (rest : List ℕ) (t : Trace) → IsTraceBegun 0 [] begun → rest ≡ [] → begun ≡ Some t
    → IsNoOtherLawfulTrace (trace_begun_text [] begun ++ rest) (trace_sizes_of t.sizes) t.events.items
alone begun rest t h none is =
    let lawful = rw is at h in
    let same : trace_begun_text [] begun ++ rest ≡ trace_text (trace_sizes_of t.sizes) t.events.items =
    rw (is, none) (append-nil (trace_text (trace_sizes_of t.sizes) t.events.items)) in
    text_parts_of_no_other_trace (trace_sizes_of t.sizes) t.events.items (trace_begun_text [] begun ++ rest) lawful.1 same

pub returns-in_err-end_trace_lines-clause-only : goal.returns-in_err-end_trace_lines-clause-only
returns-in_err-end_trace_lines-clause-only c =
    let p = err_from_is_err_and c.from_residual.result c.from_residual.ensures.1 in
    let e = c.in_err-end_trace_lines.field-0.0 in
    let ne : e.1 ≢ NoMemory =
    λ same. let other : Truncated ≡ NoMemory = sym c.in_err-end_trace_lines.ensures.truncated ∙ same in absurd cc in
    rw p.1 (trace_walk_fault_only e.1 _ e.0 (c.in_err-end_trace_lines.ensures.fault [] c.requires.begun) ne)

pub returns-in_err-end_trace_lines-clause-fault : goal.returns-in_err-end_trace_lines-clause-fault
returns-in_err-end_trace_lines-clause-fault c =
    let p = err_from_is_err_and c.from_residual.result c.from_residual.ensures.1 in
    rw (p.1, p.2) (c.in_err-end_trace_lines.ensures.fault [] c.requires.begun)

pub returns-clause-again : goal.returns-clause-again
returns-clause-again c = alone c.args.begun c.args.rest.now c.unwrap.result c.requires.begun c.in_ok-end_trace_lines.ensures.whole c.unwrap.ensures
