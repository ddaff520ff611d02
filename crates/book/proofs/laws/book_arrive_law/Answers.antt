use Rattle.book.proofs.Told.WholeLaws.{whole_arrive_law}
use Rattle.book.proofs.laws.book_arrive_law.Goals as goal

pub returns : goal.returns
returns c = whole_arrive_law
