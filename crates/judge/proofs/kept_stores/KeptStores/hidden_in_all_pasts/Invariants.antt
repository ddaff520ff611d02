use Rattle.std.proofs.Common.{ℕ, ◌<◌, List}
use Rattle.journal.specs.declared.event.Event.{Event}
use Rattle.journal.specs.declared.event.Kind.TheVariants.{Store}
use Rattle.journal.specs.WellFormed.{Does}
use Rattle.judge.specs.KeptStores.{AreKeptStoresOf}
use Rattle.judge.specs.StoresInPasts.{IsHiddenInPast}
use Rattle.judge.proofs.kept_stores.KeptStores.hidden_in_all_pasts.Given as goal

abbrev pub invariant-loop-processor : goal.invariant-loop-processor
invariant-loop-processor l = (j : List Event) → AreKeptStoresOf j l.self → (i v p : ℕ) → Does j i l.by (Store l.address v)
    → i < l.limit → p < l.processor → IsHiddenInPast j p l.address i
