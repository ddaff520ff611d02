use Rattle.book.proofs.Told.WholeLaws.{whole_take_law}
use Rattle.book.proofs.laws.book_take_law.Goals as goal

pub returns : goal.returns
returns c = whole_take_law
