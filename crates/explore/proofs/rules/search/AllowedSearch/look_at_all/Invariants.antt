use Rattle.lrc_script.specs.Plan.{plan_of}
use Rattle.explore.specs.AllowedSearchEnds.{IsAllowedSearchedWithout}
use Rattle.explore.proofs.rules.search.AllowedSearch.look_at_all.Given as goal

abbrev pub invariant-loop-looked : goal.invariant-loop-looked
invariant-loop-looked g l = IsAllowedSearchedWithout (plan_of l.script) l.detail l.goal l.looked l.self
