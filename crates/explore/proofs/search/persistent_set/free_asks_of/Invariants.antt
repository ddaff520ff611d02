use Rattle.std.proofs.Common.{ℕ, ◌≡◌, ◌<◌, List, Some, length}
use Rattle.std.specs.Prelude.{None, slice_index_or}
use Rattle.journal.specs.declared.event.Event.{Event}
use Rattle.journal.specs.declared.event.Kind.TheVariants.{Ask}
use Rattle.explore.specs.FreeChoice.{AreFreeChoiceAmongNexts}
use Rattle.explore.specs.KeptWaiting.{TellsKeptWaiting}
use Rattle.explore.specs.PersistentSets.{AsksInPersistentSet}
use Rattle.explore.proofs.search.persistent_set.free_asks_of.Given as goal

abbrev pub invariant-loop-processor : goal.invariant-loop-processor
invariant-loop-processor l = record {
  all : (g : List Event) (p lock : ℕ) → p < l.processor → TellsKeptWaiting g l.state.waiting → AsksInPersistentSet g l.nexts l.members p lock
      → slice_index_or l.asks p None ≡ Some (Ask lock);
  among : AreFreeChoiceAmongNexts l.nexts l.asks;
  long : length l.asks ≡ 16;
}
