use Rattle.std.proofs.Common.{◌≡◌, vec_len}
use Rattle.causes.specs.FinalWaits.{AreFinalWaits}
use Rattle.causes.proofs.waits_at_end.final_waits.Given as goal

abbrev pub invariant-loop-by : goal.invariant-loop-by
invariant-loop-by l = record {
  long : vec_len l.waits ≡ l.by;
  waits : AreFinalWaits l.processors l.events l.waits.items;
}
