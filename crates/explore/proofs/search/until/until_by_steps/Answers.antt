use Rattle.explore.proofs.search.until.until_by_steps.Goals as goal

pub until_by_search-explored-requires-clause-searched : goal.until_by_search-explored-requires-clause-searched
until_by_search-explored-requires-clause-searched g c = c.in_ok-search.ensures.searched c.args.steps.now
