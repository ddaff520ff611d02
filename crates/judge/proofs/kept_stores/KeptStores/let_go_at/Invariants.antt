use Rattle.std.proofs.Common.{◌≡◌, List}
use Rattle.journal.specs.declared.event.Event.{Event}
use Rattle.judge.specs.KeptStores.{AreKeptStoresOf}
use Rattle.judge.proofs.kept_stores.KeptStores.let_go_at.Given as goal

abbrev pub invariant-loop-by : goal.invariant-loop-by
invariant-loop-by l = record {
  rest : l.self ≡ record l.fn.self { stores = l.self.stores };
  tells : (j : List Event) → AreKeptStoresOf j l.fn.self → AreKeptStoresOf j l.self;
}
