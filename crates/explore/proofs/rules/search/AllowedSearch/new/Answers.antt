use Rattle.std.proofs.Common.{[], ◌∷◌, ◌++◌, ap, ◌∙◌}
use Rattle.explore.proofs.AllowedRuns.SearchByRules.{rules_search_start}
use Rattle.explore.proofs.rules.search.AllowedSearch.new.Goals as goal

pub returns-clause-searched : goal.returns-clause-searched
returns-clause-searched c = λ s detail.
    rules_search_start s detail c.new.result _ (c.in_ok-push.ensures.items ∙ ap (λ bs. bs ++ c.new.result ∷ []) c.new-pending.ensures.items)
    c.new-2.ensures.empty (c.new.ensures.told s) c.new.ensures.empty
