use Rattle.std.proofs.Common.{arith}
use Rattle.std.proofs.lemmas.Grind.{elements}
use Rattle.book.proofs.book.Book.due.Goals as goal

pub index-requires : goal.index-requires
index-requires c = grind (arith, elements)

pub count_page_by_flag-requires : goal.count_page_by_flag-requires
count_page_by_flag-requires c = grind (arith, elements)

pub returns-in-Some-Grant : goal.returns-in-Some-Grant
returns-in-Some-Grant c = grind (arith, elements)

pub returns-in-Some-Signal : goal.returns-in-Some-Signal
returns-in-Some-Signal c = grind (arith, elements)

pub returns-in-None : goal.returns-in-None
returns-in-None c = grind (arith, elements)
