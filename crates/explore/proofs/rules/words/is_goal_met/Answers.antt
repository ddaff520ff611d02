use Rattle.std.proofs.Common.{sym, subst}
use Rattle.std.specs.Prelude.{◌↔◌, IfOk, IsTrue}
use Rattle.lrc_script.specs.Plan.{plan_of}
use Rattle.explore.specs.AllowedBeginnings.{allowed_beginning_events}
use Rattle.explore.specs.AllowedSearchEnds.{IsAllowedRunOfGoal}
use Rattle.explore.proofs.rules.words.is_goal_met.Goals as goal

pub returns-in-Until : goal.returns-in-Until
returns-in-Until c =
    subst (λ x. IfOk c.ends_with_words.result (λ is. IsTrue is
    ↔ IsAllowedRunOfGoal (plan_of c.args.script.now) x (allowed_beginning_events c.args.beginning.now))) (sym c.in-Until.is) c.ends_with_words.ensures
