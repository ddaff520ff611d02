use Rattle.std.proofs.Common.{◌≢◌, ◌<◌, length, None, arith}
use Rattle.std.proofs.lemmas.Grind.{common_steps}
use Rattle.lrc_check.proofs.traces.TraceWalk.{trace_walk_rest_fault}
use Rattle.lrc_check.proofs.traces.trace_lines.end_trace_lines.Goals as goal
use Rattle.lrc_check.proofs.traces.trace_lines.end_trace_lines.Goals.{else-is_some-via-then-is_some+else-is_empty, else-is_some-via-else-is_some}

pub returns-else-is_some-clause-fault : goal.returns-else-is_some-clause-fault
returns-else-is_some-clause-fault c =
    let some : c.args.begun.now ≢ None → 0 < length c.args.rest.now =
    elim c.else-is_some.branch [
      | else-is_some-via-then-is_some+else-is_empty w ↦ λ ne. grind (arith, common_steps)
      | else-is_some-via-else-is_some w ↦ λ ne. absurd (ne (grind (arith, common_steps)))
    ] in
    rw c.next_trace_line_number.ensures (λ front h.
    trace_walk_rest_fault c.args.gone front c.args.begun.now c.args.rest.now h c.requires.rest some)
