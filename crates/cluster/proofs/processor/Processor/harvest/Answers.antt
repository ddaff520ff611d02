use Rattle.cluster.proofs.ClosingVisits.{closing_visit_marked_well}
use Rattle.cluster.proofs.processor.Processor.harvest.Goals as goal

pub harvest-requires : goal.harvest-requires
harvest-requires g c = rw (c.as_slice.ensures.value) (closing_visit_marked_well _ c.self.invariant.0)
