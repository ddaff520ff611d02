use Rattle.std.proofs.Common.{◌≡◌, take, vec_len}
use Rattle.judge.specs.FetchGaps.{TellsFetchGaps}
use Rattle.judge.specs.JudgedSizes.{judged_sizes_of}
use Rattle.causes.specs.Dues.{AreAllDues}
use Rattle.causes.proofs.event_dues.all_dues.Given as goal

abbrev pub invariant-loop-place : goal.invariant-loop-place
invariant-loop-place l = record {
  tells : TellsFetchGaps (take l.place l.events) l.gaps;
  sizes : l.gaps.sizes ≡ l.fn.gaps.sizes;
  long : vec_len l.rows ≡ l.place;
  rows : AreAllDues (judged_sizes_of l.fn.gaps.sizes) l.events l.rows.items;
}
