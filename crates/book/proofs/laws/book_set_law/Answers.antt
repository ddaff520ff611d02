use Rattle.book.proofs.Told.WholeLaws.{whole_set_law}
use Rattle.book.proofs.laws.book_set_law.Goals as goal

pub returns : goal.returns
returns c = whole_set_law
