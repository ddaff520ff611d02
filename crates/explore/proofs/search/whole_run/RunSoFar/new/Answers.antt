use Rattle.std.proofs.Common.{ap}
use Rattle.explore.specs.declared.state.wait_code.ProcessorNumber.{ProcessorNumber}
use Rattle.std.specs.Prelude.{List, map}
use Rattle.explore.proofs.search.whole_run.RunSoFar.new.Goals as goal

pub returns-clause-through : goal.returns-clause-through
returns-clause-through c = record {
  knows = c.in_ok-new.ensures.knows;
  events = c.new-2.ensures.items;
  makers = ap (λ (ns : List ProcessorNumber). map (λ (n : ProcessorNumber). n.0) ns) c.new-3.ensures.items;
}
