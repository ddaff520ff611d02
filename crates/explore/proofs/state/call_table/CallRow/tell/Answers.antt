use Rattle.std.proofs.Common.{arith}
use Rattle.std.proofs.lemmas.Grind.{elements}
use Rattle.explore.proofs.state.call_table.CallRow.tell.Goals as goal

pub index-locks-requires : goal.index-locks-requires
index-locks-requires c = grind (arith, elements)

pub index-flags-requires : goal.index-flags-requires
index-flags-requires c = grind (arith, elements)

pub tell-requires-clause-locks : goal.tell-requires-clause-locks
tell-requires-clause-locks c = grind (arith, elements)

pub tell-requires-clause-flags : goal.tell-requires-clause-flags
tell-requires-clause-flags c = grind (arith, elements)

pub returns : goal.returns
returns c = grind (arith, elements)
