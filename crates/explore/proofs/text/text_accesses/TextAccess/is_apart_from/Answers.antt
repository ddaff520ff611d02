use Rattle.explore.specs.UnguardedWords.AreTextAccessesApart.{locked}
use Rattle.explore.proofs.text.text_accesses.TextAccess.is_apart_from.Goals as goal

pub returns-clause-apart : goal.returns-clause-apart
returns-clause-apart c = λ yes. let both = c.have_common_guard.ensures.common yes in locked both.0 both.1 both.2
