use Rattle.book.proofs.Told.WholeLaws.{whole_ask_law}
use Rattle.book.proofs.laws.book_ask_law.Goals as goal

pub returns : goal.returns
returns c = whole_ask_law
