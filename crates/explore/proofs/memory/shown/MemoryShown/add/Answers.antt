use Rattle.std.proofs.Common.{subst}
use Rattle.base.specs.InOrderOnce.{Has}
use Rattle.explore.proofs.MemoryOutcomes.{memory_outcome_inserted}
use Rattle.explore.proofs.memory.shown.MemoryShown.add.Goals as goal

pub returns-in_ok-insert : goal.returns-in_ok-insert
returns-in_ok-insert c = λ o t has.
    memory_outcome_inserted c.args.self.now.outcomes.entries c.args.outcome c.args.schedule o t
    (subst (λ es. Has es (o, t)) c.in_ok-insert.ensures.entries has)
