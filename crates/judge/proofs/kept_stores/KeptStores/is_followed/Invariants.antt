use Rattle.std.proofs.Common.{ℕ, ◌<◌, ◌≤◌, List}
use Rattle.journal.specs.declared.event.Event.{Event}
use Rattle.judge.specs.declared.kept_store.KeptStore.{KeptStore}
use Rattle.judge.specs.CutRows.{cut_entry}
use Rattle.judge.specs.KeptInPasts.{IsLastKeptInPast}
use Rattle.judge.specs.KeptStores.{AreKeptStoresOf, kept_stores_of}
use Rattle.judge.proofs.kept_stores.KeptStores.is_followed.Given as goal

abbrev pub invariant-loop-other : goal.invariant-loop-other
invariant-loop-other l = (j : List Event) → AreKeptStoresOf j l.self → (r : ℕ) (y : KeptStore) → r < l.other
    → IsLastKeptInPast j l.processor (kept_stores_of l.self l.address r) y → cut_entry l.self.known.cuts y.cut l.by ≤ l.store.place
