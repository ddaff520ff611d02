use Rattle.std.proofs.Common.{◌≡◌, replicate}
use Rattle.book.proofs.empty.empty_times.Given as goal

abbrev pub invariant-loop : goal.invariant-loop
invariant-loop l = l.all.items ≡ replicate l.counter (replicate l.processors 0)
