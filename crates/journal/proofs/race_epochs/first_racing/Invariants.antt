use Rattle.std.proofs.Common.{◌≡◌, ℕ, ◌<◌, length, take, slice_index}
use Rattle.journal.specs.Events.{event_count, event_closes}
use Rattle.journal.specs.Races.{Race}
use Rattle.journal.proofs.race_epochs.first_racing.Given as goal

abbrev pub invariant-loop-i : goal.invariant-loop-i
invariant-loop-i l =
    (length l.closings ≡ 16)
    × ((q : ℕ) → q < 16 → slice_index l.closings q ≡ event_count event_closes (take l.i l.events) q)
    × ((m : ℕ) → m < l.i → ¬ Race l.events m l.place)
