use Rattle.std.proofs.Common.{◌≡◌}
use Rattle.lrc_run.specs.RunCalls.{IsRunCallBegun}
use Rattle.lrc_run.proofs.VainLooks.{IsLookingInVain}
use Rattle.lrc_run.proofs.walk.perform.Given as goal

abbrev pub invariant-loop-looks : goal.invariant-loop-looks
invariant-loop-looks g l = record {
  own : l.processor.lock ≡ l.cluster.lock;
  begun : IsRunCallBegun l.fn.processor l.processor l.fn.instruction;
  vain : IsLookingInVain l.fn.tries l.looks l.fn.processor l.processor l.fn.instruction;
}
