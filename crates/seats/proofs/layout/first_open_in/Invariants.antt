use Rattle.std.proofs.Common.{ℕ, ◌≢◌, ◌<◌, Some, slice_get}
use Rattle.seats.specs.declared.guard.Guard.TheVariants.{Open}
use Rattle.seats.proofs.layout.first_open_in.Given as goal

abbrev pub invariant-loop-address : goal.invariant-loop-address
invariant-loop-address l = (a : ℕ) → a < l.address → slice_get l.table a ≢ Some Open
