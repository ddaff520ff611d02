use Rattle.std.proofs.Common.{◌≡◌, take, vec_len}
use Rattle.judge.specs.FetchGaps.{TellsFetchGaps}
use Rattle.judge.specs.JudgedSizes.{judged_sizes_of}
use Rattle.causes.specs.Origins.{AreOrigins}
use Rattle.causes.specs.FetchedOrigins.{AreOriginsBefore}
use Rattle.causes.proofs.origin.all_origins.Given as goal

abbrev pub invariant-loop-place : goal.invariant-loop-place
invariant-loop-place l = record {
  tells : TellsFetchGaps (take l.place l.events) l.gaps;
  sizes : l.gaps.sizes ≡ l.sizes;
  words : AreOriginsBefore (judged_sizes_of l.sizes) l.events l.place l.words;
  long : vec_len l.rows ≡ l.place;
  rows : AreOrigins (judged_sizes_of l.sizes) l.events l.rows.items;
}
