use Rattle.explore.proofs.search.search_steps.Goals as goal

pub explored-explored-requires-clause-searched : goal.explored-explored-requires-clause-searched
explored-explored-requires-clause-searched g c = c.in_ok-search.ensures.searched c.args.steps.now
