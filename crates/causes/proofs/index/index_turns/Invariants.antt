use Rattle.std.proofs.Common.{◌≡◌, ℕ, length, vec_len}
use Rattle.journal.specs.declared.event.Event.{Event}
use Rattle.journal.specs.Events.{EventAt}
use Rattle.judge.specs.JudgedSizes.{most_judged_processors}
use Rattle.causes.specs.declared.index.Turn.{Turn}
use Rattle.causes.specs.Index.{IsIndexedTurn}
use Rattle.causes.proofs.LookedUpIndex.{AreLookedUpNextTurns}
use Rattle.causes.proofs.Rows.{AreRows}
use Rattle.causes.proofs.index.index_turns.Given as goal

abbrev pub invariant-loop-place : goal.invariant-loop-place
invariant-loop-place l = record {
  next_long : length l.next ≡ most_judged_processors;
  next : AreLookedUpNextTurns l.events l.place l.next;
  long : vec_len l.turns ≡ l.place;
  each : AreRows (λ (i : ℕ) (t : Turn). (e : Event) → EventAt l.events i e → IsIndexedTurn l.events i e.processor t) l.turns.items;
}
