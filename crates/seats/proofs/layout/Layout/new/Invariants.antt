use Rattle.std.proofs.Common.{◌≡◌, map, replicate}
use Rattle.std.specs.Vec.{vec_items}
use Rattle.seats.specs.declared.guard.Guard.TheVariants.{Of}
use Rattle.seats.proofs.layout.Layout.new.Given as goal

abbrev pub invariant-loop : goal.invariant-loop
invariant-loop l = map vec_items l.tables.items ≡ replicate l.counter (replicate l.addresses (Of 0))
