use Rattle.std.proofs.Common.{◌≡◌, ◌≤◌, length, ◌+◌}
use Rattle.bench.proofs.journals.build.Given as goal

abbrev pub invariant-loop-place : goal.invariant-loop-place
invariant-loop-place l =
    (l.journal.processors ≡ 8) × (l.journal.addresses ≡ 4096) × (length l.journal.events ≡ l.place)
    × (l.events ≤ l.journal.room + l.place)
