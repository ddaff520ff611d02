use Rattle.std.proofs.Common.{◌≡◌, drop}
use Rattle.explore.specs.CallTables.{call_waiting, call_waiting_from}
use Rattle.explore.proofs.state.call_table.CallTable.waiting.Given as goal

abbrev pub invariant-loop-processor : goal.invariant-loop-processor
invariant-loop-processor l =
    call_waiting_from (drop l.processor l.self.rows.items) l.processor l.done l.waiting ≡ call_waiting l.self l.done l.fn.asked
