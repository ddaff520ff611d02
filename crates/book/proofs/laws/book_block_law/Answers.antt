use Rattle.book.proofs.Told.WholeLaws.{whole_block_law}
use Rattle.book.proofs.laws.book_block_law.Goals as goal

pub returns : goal.returns
returns c = whole_block_law
