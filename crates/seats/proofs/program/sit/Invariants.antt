use Rattle.seats.proofs.program.sit.Given as goal

abbrev pub ghosts-sit_program_on_seat : goal.ghosts-sit_program_on_seat
ghosts-sit_program_on_seat g a = record { at = record { cluster = a.cluster.now; number = a.processor.number; layout = a.layout.now } }
