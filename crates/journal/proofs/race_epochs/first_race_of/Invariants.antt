use Rattle.std.proofs.Common.{◌≡◌, ℕ, ◌<◌, take}
use Rattle.journal.specs.Races.{Race}
use Rattle.journal.specs.Clocks.{AreClocks}
use Rattle.journal.specs.AccessEpochs.{AreAccessEpochs}
use Rattle.journal.proofs.race_epochs.first_race_of.Given as goal

abbrev pub invariant-loop-place : goal.invariant-loop-place
invariant-loop-place l =
    AreClocks (take l.place l.events) l.clocks × AreAccessEpochs (take l.place l.events) l.addresses l.accesses
    × ((m n : ℕ) → n < l.place → ¬ Race l.events m n) × (l.clocks.present ≡ l.processors)
