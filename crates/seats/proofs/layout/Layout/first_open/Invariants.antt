use Rattle.std.proofs.Common.{ℕ, ◌≢◌, ◌<◌, Some}
use Rattle.seats.specs.declared.guard.Guard.TheVariants.{Open}
use Rattle.seats.specs.Tables.{table_guard}
use Rattle.seats.proofs.layout.Layout.first_open.Given as goal

abbrev pub invariant-loop-table : goal.invariant-loop-table
invariant-loop-table l = (t a : ℕ) → t < l.table → table_guard l.fn.self t a ≢ Some Open
