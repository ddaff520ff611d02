use Rattle.std.proofs.Common.{◌≡◌, take}
use Rattle.judge.specs.Cuts.{AreCuts}
use Rattle.lrc_explain.proofs.earlier.collect_earlier_stores.Given as goal

abbrev pub invariant-loop-place : goal.invariant-loop-place
invariant-loop-place l = record {
  tells : AreCuts (take l.place l.events) l.cuts;
  present : l.cuts.present ≡ l.fn.cuts.present;
}
