use Rattle.std.proofs.Common.{ℕ, ◌≡◌, ◌<◌, Some, length}
use Rattle.std.specs.Prelude.{None, slice_index_or}
use Rattle.journal.specs.declared.event.Kind.TheVariants.{Ask}
use Rattle.explore.specs.FreeChoice.{AreFreeChoiceAmongNexts}
use Rattle.explore.proofs.search.free_choice.free_choice_asks_among.Given as goal

abbrev pub invariant-loop-processor : goal.invariant-loop-processor
invariant-loop-processor l = record {
  all : (p : ℕ) → p < l.processor → slice_index_or l.nexts p None ≡ Some (Ask l.lock)
      → slice_index_or l.asks p None ≡ Some (Ask l.lock);
  among : AreFreeChoiceAmongNexts l.nexts l.asks;
  long : length l.asks ≡ 16;
}
