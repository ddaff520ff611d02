-- It has added as many as it made rounds.
use Rattle.seats.specs.Sitting.{seat_deeds}
use Rattle.seats.specs.WordTallies.{AddsUpTo}
use Rattle.example_counter.specs.declared.TheConstants.{COUNT, LOCK}
use Rattle.example_counter.proofs.CounterProgram.work.Given as goal

abbrev pub invariant-loop-round : goal.invariant-loop-round
invariant-loop-round g l = AddsUpTo LOCK COUNT l.round (seat_deeds l.seat)
