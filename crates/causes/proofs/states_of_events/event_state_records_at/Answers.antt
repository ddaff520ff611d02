use Rattle.std.proofs.Common.{arith}
use Rattle.std.proofs.lemmas.Grind.{elements}
use Rattle.causes.proofs.states_of_events.event_state_records_at.Goals as goal

pub records-requires-clause-closes : goal.records-requires-clause-closes
records-requires-clause-closes c = grind (arith, elements)

pub returns-then-is_index_closing-clause-others : goal.returns-then-is_index_closing-clause-others
returns-then-is_index_closing-clause-others c = grind (arith, elements)

pub returns-else-is_index_closing-clause-closes : goal.returns-else-is_index_closing-clause-closes
returns-else-is_index_closing-clause-closes c = grind (arith, elements)
