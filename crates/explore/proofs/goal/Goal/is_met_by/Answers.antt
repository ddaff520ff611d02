use Rattle.std.proofs.Common.{IsTrue, sym, subst}
use Rattle.std.specs.Prelude.{◌↔◌}
use Rattle.explore.specs.SearchGoals.{IsRunOfGoal}
use Rattle.explore.proofs.goal.Goal.is_met_by.Goals as goal

pub returns-in-Until : goal.returns-in-Until
returns-in-Until c = λ s g lawful knows.
    subst (λ x. IsTrue c.has_until_words.result ↔ IsRunOfGoal s x g) (sym c.in-Until.is) (c.has_until_words.ensures s g lawful knows)
