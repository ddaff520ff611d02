use Rattle.book.proofs.Told.WholeLaws.{whole_watch_law}
use Rattle.book.proofs.laws.book_watch_law.Goals as goal

pub returns : goal.returns
returns c = whole_watch_law
