use Rattle.std.proofs.Common.{◌≡◌, take}
use Rattle.lrc_run.specs.RunCalls.{HasRunCallsOfAll}
use Rattle.lrc_run.proofs.walk.walk.Given as goal

abbrev pub invariant-loop-index : goal.invariant-loop-index
invariant-loop-index g l = record {
  own : l.processor.lock ≡ l.cluster.lock;
  all : HasRunCallsOfAll l.fn.processor l.processor (take l.index l.section);
}
