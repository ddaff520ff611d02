use Rattle.std.proofs.Common.{ℕ, ◌<◌, List}
use Rattle.journal.specs.declared.event.Event.{Event}
use Rattle.journal.specs.declared.event.Kind.TheVariants.{Store}
use Rattle.journal.specs.WellFormed.{Does}
use Rattle.judge.specs.KeptStores.{AreKeptStoresOf}
use Rattle.judge.specs.StoresInPasts.{IsHiddenInPast}
use Rattle.judge.proofs.kept_stores.KeptStores.hidden_in_past.Given as goal

abbrev pub invariant-loop-other : goal.invariant-loop-other
invariant-loop-other l = (j : List Event) → AreKeptStoresOf j l.self → (i v : ℕ) → Does j i l.by (Store l.address v) → i < l.limit
    → IsHiddenInPast j l.processor l.address i
