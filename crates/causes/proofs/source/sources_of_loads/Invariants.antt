use Rattle.std.proofs.Common.{◌≡◌, vec_len}
use Rattle.causes.specs.Origins.{AreOriginsNamed}
use Rattle.causes.specs.Source.{AreSources}
use Rattle.causes.proofs.source.sources_of_loads.Given as goal

abbrev pub invariant-loop-place : goal.invariant-loop-place
invariant-loop-place l = record {
  long : vec_len l.sources ≡ l.place;
  sources : AreSources l.events l.sources.items;
  named : AreOriginsNamed l.events l.origins l.sources.items;
}
