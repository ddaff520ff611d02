use Rattle.std.proofs.Common.{◌≡◌, drop}
use Rattle.explore.specs.KeptWaiting.{kept_waiting_flags}
use Rattle.explore.proofs.state.waits.set_waiting_flags.Given as goal

abbrev pub invariant-loop-flag : goal.invariant-loop-flag
invariant-loop-flag l = kept_waiting_flags l.set (drop l.flag-index l.flags) ≡ kept_waiting_flags l.fn.set l.flags
