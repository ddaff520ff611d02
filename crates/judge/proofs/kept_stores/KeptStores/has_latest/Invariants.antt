use Rattle.std.proofs.Common.{ℕ, ◌<◌, List}
use Rattle.journal.specs.declared.event.Event.{Event}
use Rattle.judge.specs.KeptStores.{AreKeptStoresOf}
use Rattle.judge.specs.StoresInPasts.{IsLatestInPast}
use Rattle.judge.proofs.kept_stores.KeptStores.has_latest.Given as goal

abbrev pub invariant-loop-by : goal.invariant-loop-by
invariant-loop-by l = (j : List Event) → AreKeptStoresOf j l.self → (q i : ℕ) → q < l.by
    → ¬ IsLatestInPast j l.processor l.address q i
