use Rattle.std.proofs.Common.{◌≡◌, ℕ, List, subst}
use Rattle.lrc_check.specs.Traces.Heads.{AreNoTraceHeadNumbers, trace_head_numbers_of}
use Rattle.lrc_check.specs.Traces.Sizes.{trace_sizes_of}
use Rattle.lrc_check.proofs.traces.HeadLines.{head_line_has_sizes, head_line_has_no_sizes, head_line_read, head_line_refused}
use Rattle.lrc_check.proofs.traces.head.read_trace_head.Goals as goal

pub returns-in-Err-clause-fault : goal.returns-in-Err-clause-fault
returns-in-Err-clause-fault c = head_line_refused c.args.line.now c.in-Err.fault c.from.result c.in-Err.ensures c.from.ensures

pub returns-in-Some-clause-sizes : goal.returns-in-Some-clause-sizes
returns-in-Some-clause-sizes c =
    let ns = c.in-Ok.numbers.items in
    let s = trace_sizes_of c.in-Some.sizes in
    head_line_has_sizes c.args.line.now ns s (head_line_read c.args.line.now ns c.in-Ok.ensures) c.in-Some.ensures.0
    (subst (λ (x : List ℕ). x ≡ trace_head_numbers_of s) c.as_slice.ensures c.in-Some.ensures.1)

pub returns-clause-fault : goal.returns-clause-fault
returns-clause-fault c =
    let ns = c.in-Ok.numbers.items in
    head_line_has_no_sizes c.args.line.now ns (head_line_read c.args.line.now ns c.in-Ok.ensures)
    (subst AreNoTraceHeadNumbers c.as_slice.ensures c.in-None.ensures)
