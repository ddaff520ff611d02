use Rattle.lrc_script.proofs.Faults.EvenSections.{AreEvenSectionsSoFar}
use Rattle.lrc_script.proofs.uneven_barriers.uneven_line.Given as goal

abbrev pub invariant-loop-section : goal.invariant-loop-section
invariant-loop-section l = AreEvenSectionsSoFar l.section-items l.section-index l.expected l.line
