use Rattle.book.proofs.Told.WholeLaws.{whole_cut_law}
use Rattle.book.proofs.laws.book_cut_law.Goals as goal

pub returns : goal.returns
returns c = whole_cut_law
