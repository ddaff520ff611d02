use Rattle.book.proofs.Told.WholeLaws.{whole_release_law}
use Rattle.book.proofs.laws.book_release_law.Goals as goal

pub returns : goal.returns
returns c = whole_release_law
