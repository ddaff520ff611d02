use Rattle.lrc_script.specs.Plan.{plan_of}
use Rattle.explore.specs.declared.goal.Goal.TheVariants.{Until}
use Rattle.explore.specs.declared.outcomes.telling.Detail.TheVariants as detail
use Rattle.explore.proofs.AllowedRuns.AllowedUntil.{allowed_goal_start}
use Rattle.explore.proofs.rules.until.look_until.Goals as goal

pub look_at_all-looked-requires-clause-searched : goal.look_at_all-looked-requires-clause-searched
look_at_all-looked-requires-clause-searched g c =
    let s = plan_of c.args.script.now in
    record {
      searched = c.in_ok-search.ensures.searched s detail.Words;
      none = allowed_goal_start s detail.Words (Until c.args.words) c.in_ok-search.search c.in_ok-search.ensures.none;
    }
