use Rattle.std.proofs.Common.{◌≡◌, drop, length}
use Rattle.c_library.specs.ToldVerdicts.{told_verdict_places_with, told_verdict_stores}
use Rattle.c_library.proofs.told_verdict.told_verdict_stores.Given as goal

abbrev pub invariant-loop-store : goal.invariant-loop-store
invariant-loop-store l = record {
  long : length l.places ≡ 16;
  same : told_verdict_places_with l.places (drop l.store-index l.stores) ≡ told_verdict_stores l.stores;
}
