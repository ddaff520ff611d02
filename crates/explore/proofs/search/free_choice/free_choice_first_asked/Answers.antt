use Rattle.explore.proofs.search.free_choice.free_choice_first_asked.Goals as goal

pub returns-in-Some : goal.returns-in-Some
returns-in-Some c = (c.loop-processor.processor, (c.asked_lock.ensures c.in-Some.lock).0 c.in-Some.is)
