use Rattle.std.proofs.Common.{arith}
use Rattle.std.proofs.lemmas.Grind.{elements}
use Rattle.book.proofs.book.Book.count_due.Goals as goal

pub index-requires : goal.index-requires
index-requires c = grind (arith, elements)

pub count_by_flag-requires : goal.count_by_flag-requires
count_by_flag-requires c = grind (arith, elements)

pub returns-in-Some-Grant : goal.returns-in-Some-Grant
returns-in-Some-Grant c = grind (arith, elements)

pub returns-in-Some-Signal-clause-each : goal.returns-in-Some-Signal-clause-each
returns-in-Some-Signal-clause-each c = grind (arith, elements)

pub returns-in-None-clause-each : goal.returns-in-None-clause-each
returns-in-None-clause-each c = grind (arith, elements)
