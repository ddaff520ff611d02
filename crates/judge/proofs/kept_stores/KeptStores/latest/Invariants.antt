use Rattle.std.proofs.Common.{List}
use Rattle.journal.specs.declared.event.Event.{Event}
use Rattle.judge.specs.KeptStores.{AreKeptStoresOf}
use Rattle.judge.proofs.kept_stores.FoundLatest.{AreFoundLatest}
use Rattle.judge.proofs.kept_stores.KeptStores.latest.Given as goal

abbrev pub invariant-loop-by : goal.invariant-loop-by
invariant-loop-by l = (j : List Event) → AreKeptStoresOf j l.self → AreFoundLatest j l.processor l.address l.by l.latest.items
