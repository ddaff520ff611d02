use Rattle.lrc_program.proofs.hints.LinesLeft.{AreLinesLeft}
use Rattle.lrc_program.proofs.hints.excerpt.excerpt_line_at.Given as goal

abbrev pub invariant-loop : goal.invariant-loop
invariant-loop l = AreLinesLeft l.text l.rest l.counter
