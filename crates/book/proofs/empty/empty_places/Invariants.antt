use Rattle.std.proofs.Common.{◌≡◌, None, replicate}
use Rattle.book.proofs.empty.empty_places.Given as goal

abbrev pub invariant-loop : goal.invariant-loop
invariant-loop _ l = l.all.items ≡ replicate l.counter None
