-- So many are dropped.
use Rattle.std.proofs.Common.{◌≡◌, drop}
use Rattle.interval.proofs.queue.Queue.trim.Given as goal

abbrev pub invariant-loop : goal.invariant-loop
invariant-loop l =
    (l.self-inside.kept.items ≡ drop l.counter l.initial.self-inside.kept.items)
    × (l.self-inside.first ≡ l.initial.self-inside.first)
