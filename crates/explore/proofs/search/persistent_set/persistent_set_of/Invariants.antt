use Rattle.std.proofs.Common.{ℕ, ◌≡◌, List, length}
use Rattle.lrc_script.specs.Plan.{Plan}
use Rattle.journal.specs.declared.event.Event.{Event}
use Rattle.explore.specs.FreeChoice.{IsFreeChoiceGiven}
use Rattle.explore.specs.PersistentSets.{IsPersistentMember, PersistentMember}
use Rattle.explore.proofs.search.persistent_set.persistent_set_of.Given as goal

abbrev pub invariant-loop : goal.invariant-loop
invariant-loop l = record {
  member : IsPersistentMember l.members l.processor;
  settled : (s : Plan) (g : List Event) → IsFreeChoiceGiven s l.steps l.facts l.state g → (p : ℕ) → IsPersistentMember l.settled p
      → PersistentMember l.steps g l.nexts l.members p;
  long : length l.members ≡ 16;
  settled_long : length l.settled ≡ 16;
}
