use Rattle.book.proofs.Told.WholeLaws.{whole_new_book_law}
use Rattle.book.proofs.laws.new_book_law.Goals as goal

pub returns : goal.returns
returns c = whole_new_book_law
