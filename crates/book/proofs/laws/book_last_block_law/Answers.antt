use Rattle.book.proofs.Told.WholeLaws.{whole_last_block_law}
use Rattle.book.proofs.laws.book_last_block_law.Goals as goal

pub returns : goal.returns
returns c = whole_last_block_law
