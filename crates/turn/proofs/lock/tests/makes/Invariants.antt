use Rattle.turn.specs.Chairs.{chair_lock_id, AreChairsInOrder}
use Rattle.turn.proofs.lock.tests.makes.Given as goal

abbrev pub invariant-loop-step : goal.invariant-loop-step
invariant-loop-step g l = AreChairsInOrder (chair_lock_id l.turn.table.shared.table_id 3) l.turn.layout.seats l.chairs.items
