use Rattle.causes.proofs.ways.Ways.+lead.Given as goal

abbrev pub decreases-lead : goal.decreases-lead
decreases-lead l = l.to
