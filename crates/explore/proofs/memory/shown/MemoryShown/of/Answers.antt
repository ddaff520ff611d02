use Rattle.std.proofs.Common.{sym, ap, ◌∙◌}
use Rattle.std.specs.Option.{option_copied}
use Rattle.explore.proofs.MemoryOutcomes.{memory_outcome_found, memory_outcome_missing}
use Rattle.explore.proofs.memory.shown.MemoryShown.of.Goals as goal

pub returns-in-Some : goal.returns-in-Some
returns-in-Some c =
    memory_outcome_found c.args.outcome.now c.args.self.now.outcomes.entries c.in-Some.schedule.now
    (sym c.get.ensures.value ∙ ap option_copied c.in-Some.is)

pub returns-in-None : goal.returns-in-None
returns-in-None c = (
  c.if-self.true,
  memory_outcome_missing c.args.outcome.now c.args.self.now.outcomes.entries (sym c.get.ensures.value ∙ ap option_copied c.in-None.is),
)

pub returns-in-None-2 : goal.returns-in-None-2
returns-in-None-2 c = (
  c.if-self.false,
  memory_outcome_missing c.args.outcome.now c.args.self.now.outcomes.entries (sym c.get.ensures.value ∙ ap option_copied c.in-None.is),
)
