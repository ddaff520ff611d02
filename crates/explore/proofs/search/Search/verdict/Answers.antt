use Rattle.std.proofs.Common.{rules}
use Rattle.lrc_script.specs.Plan.{plan_of}
use Rattle.explore.proofs.SearchGoals.{goal_of_none}
use Rattle.explore.proofs.search.Search.verdict.Goals as goal

pub returns-in-None-clause-verdict : goal.returns-in-None-clause-verdict
returns-in-None-clause-verdict c = c.requires.free c.if-race_free.true

pub returns-in-Some-Ending-clause-opens : goal.returns-in-Some-Ending-clause-opens
returns-in-Some-Ending-clause-opens c =
    absurd (goal_of_none (plan_of c.args.script.now) c.args.self.now c.in-Some-Ending.field-0-0 c.requires.found (search rules))
