use Rattle.std.proofs.Common.{ℕ, ◌<◌, List}
use Rattle.lrc_script.specs.Plan.{Plan}
use Rattle.journal.specs.declared.event.Event.{Event}
use Rattle.explore.specs.FreeChoice.{IsFreeChoiceGiven}
use Rattle.explore.specs.PersistentSets.{AsksInPersistentSet, IsPersistentMember, PersistentMember}
use Rattle.explore.proofs.search.persistent_set.is_hopeless.Given as goal

abbrev pub invariant-loop-processor : goal.invariant-loop-processor
invariant-loop-processor l = record {
  everybody : (p : ℕ) → p < 16 → IsPersistentMember l.members p;
  settled : (s : Plan) (g : List Event) → IsFreeChoiceGiven s l.steps l.facts l.state g → (p : ℕ) → p < l.processor
      → PersistentMember l.steps g l.nexts l.members p;
  none : (s : Plan) (g : List Event) → IsFreeChoiceGiven s l.steps l.facts l.state g → (members : List _) (p lock : ℕ) → p < l.processor
      → ¬ AsksInPersistentSet g l.nexts members p lock;
}
