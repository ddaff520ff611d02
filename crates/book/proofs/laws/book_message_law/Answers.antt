use Rattle.book.proofs.Told.WholeLaws.{whole_message_law}
use Rattle.book.proofs.laws.book_message_law.Goals as goal

pub returns : goal.returns
returns c = whole_message_law
