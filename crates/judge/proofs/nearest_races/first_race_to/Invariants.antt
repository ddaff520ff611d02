use Rattle.std.proofs.Common.{ℕ, ◌<◌, ◌++◌, ◌∷◌, [], length}
use Rattle.journal.specs.Races.{Race}
use Rattle.judge.proofs.nearest_races.first_race_to.Given as goal

abbrev pub invariant-loop-place : goal.invariant-loop-place
invariant-loop-place l = (m : ℕ) → m < l.place → ¬ Race (l.events ++ l.event ∷ []) m (length l.events)
