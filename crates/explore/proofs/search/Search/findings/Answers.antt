use Rattle.explore.proofs.search.Search.findings.Goals as goal

pub verdict-requires-clause-met : goal.verdict-requires-clause-met
verdict-requires-clause-met c = c.requires.ended.1.met

pub verdict-requires-clause-found : goal.verdict-requires-clause-found
verdict-requires-clause-found c = c.requires.ended.1.searched.some.1.found

pub hanging-requires-clause-searched : goal.hanging-requires-clause-searched
hanging-requires-clause-searched c = c.requires.ended.1.searched
