use Rattle.lrc_script.specs.Prelude.{plan_of}
use Rattle.explore.specs.NotedOutcomes.{noted_outcomes}
use Rattle.explore.proofs.search.Search.trials_of_given_up.Goals as goal

pub returns-then-not-is_given_up : goal.returns-then-not-is_given_up
returns-then-not-is_given_up c =
    c.new-tried.ensures (plan_of c.args.script.now) c.args.detail (noted_outcomes c.args.self.now.outcomes.entries)

pub returns : goal.returns
returns c =
    c.in_ok-try_all.ensures (c.new-tried.ensures (plan_of c.args.script.now) c.args.detail (noted_outcomes c.args.self.now.outcomes.entries))
