use Rattle.std.proofs.Common.{◌≡◌, length, refl, arith}
use Rattle.std.proofs.lemmas.Grind.{common_steps, elements}
use Rattle.lrc_check.specs.Traces.Sizes.{trace_sizes_of}
use Rattle.lrc_check.proofs.traces.TraceWalk.{trace_walk_added_text, trace_walk_fault_behind, trace_walk_first_fault}
use Rattle.lrc_check.proofs.traces.ReadingOn.{reading_on_added}
use Rattle.lrc_check.proofs.traces.trace_lines.read_trace_line.Goals as goal

pub returns-in-Err-clause-fault : goal.returns-in-Err-clause-fault
returns-in-Err-clause-fault c =
    rw c.in-None.is (λ front h. trace_walk_first_fault c.in-Err.fault c.args.line.now c.requires.one_line c.in-Err.ensures.fault)

pub returns-in-Ok-add-clause-on : goal.returns-in-Ok-add-clause-on
returns-in-Ok-add-clause-on c =
    rw c.in-Some.is (reading_on_added c.args.gone c.in-Some.trace (record { sizes = c.in-Some.trace.sizes; events = c.add.new.events }) c.args.line.now refl
    (rw c.in-Some.is at c.requires.left) c.in-Ok-add.ensures.found)

pub returns-in-Ok-add-clause-text : goal.returns-in-Ok-add-clause-text
returns-in-Ok-add-clause-text c =
    rw c.in-Some.is (λ front h.
    trace_walk_added_text (trace_sizes_of c.in-Some.trace.sizes) c.args.gone front c.in-Some.trace.events.items c.add.new.events.items
    c.args.line.now h.0 c.in-Ok-add.ensures.found)

pub returns-in-Err-add-clause-fault : goal.returns-in-Err-add-clause-fault
returns-in-Err-add-clause-fault c =
    let count : c.len.result ≡ length c.in-Some.trace.events.items =
    omega (arith, c.len.ensures, c.in-Some.trace.events.ok.0) in
    rw (c.in-Some.is, count) (λ front h.
    trace_walk_fault_behind c.in-Err-add.fault (trace_sizes_of c.in-Some.trace.sizes) c.args.gone front
    c.in-Some.trace.events.items c.args.line.now h c.requires.one_line c.in-Err-add.ensures.fault)

pub returns-in-Err-add-clause-on : goal.returns-in-Err-add-clause-on
returns-in-Err-add-clause-on c = grind (arith, common_steps)

pub returns-in-Ok-add-clause-count : goal.returns-in-Ok-add-clause-count
returns-in-Ok-add-clause-count c = grind (arith, elements)
