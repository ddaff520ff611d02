use Rattle.std.proofs.Common.{◌≡◌, ℕ, take, map}
use Rattle.lrc_run.specs.RunCalls.{HasRunCallsOfLoads}
use Rattle.lrc_run.proofs.shown.show.Given as goal

abbrev pub invariant-loop-address : goal.invariant-loop-address
invariant-loop-address g l = record {
  loads : HasRunCallsOfLoads l.fn.processor l.processor l.words.items;
  addresses : map (λ (x : ℕ × ℕ). x.0) l.words.items ≡ take l.address-index l.addresses;
}
