use Rattle.std.proofs.Common.{ℕ, ◌<◌, ◌↔◌, List, length}
use Rattle.base.specs.InOrderOnce.{Has}
use Rattle.journal.specs.declared.event.Event.{Event}
use Rattle.journal.specs.declared.event.Kind.TheVariants.{Load}
use Rattle.journal.specs.DidEvent.{did}
use Rattle.judge.specs.declared.flat_memory.FlatStore.{FlatStore}
use Rattle.judge.specs.KeptStores.{AreKeptStoresOf}
use Rattle.judge.specs.PermittedStores.{IsUnorderedStore}
use Rattle.judge.proofs.kept_stores.KeptStores.unordered.Given as goal

abbrev pub invariant-loop-by : goal.invariant-loop-by
invariant-loop-by l = (j : List Event) → AreKeptStoresOf j l.self → (w : ℕ) (x : FlatStore)
    → Has l.found.items x ↔ (IsUnorderedStore (did j l.processor (Load l.address w)) (length j) l.address x × (x.by < l.by))
