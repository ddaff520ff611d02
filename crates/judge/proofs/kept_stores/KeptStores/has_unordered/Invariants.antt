use Rattle.std.proofs.Common.{◌<◌, List, length}
use Rattle.journal.specs.declared.event.Event.{Event}
use Rattle.journal.specs.declared.event.Kind.TheVariants.{Load}
use Rattle.journal.specs.DidEvent.{did}
use Rattle.judge.specs.KeptStores.{AreKeptStoresOf}
use Rattle.judge.specs.Models.{ModelConcurrentStore}
use Rattle.judge.proofs.kept_stores.KeptStores.has_unordered.Given as goal

abbrev pub invariant-loop-by : goal.invariant-loop-by
invariant-loop-by l = (j : List Event) → AreKeptStoresOf j l.self
    → (x : ModelConcurrentStore (did j l.processor (Load l.address l.value)) (length j) l.address l.value) → ¬ (x.by < l.by)
