-- It has paid in a coin in each round so far.
use Rattle.seats.specs.Sitting.{seat_deeds}
use Rattle.example_bank.specs.Accounts.{HasPaid}
use Rattle.example_bank.proofs.BankProgram.work.Given as goal

abbrev pub invariant-loop-round : goal.invariant-loop-round
invariant-loop-round g l = HasPaid l.round (seat_deeds l.seat)
