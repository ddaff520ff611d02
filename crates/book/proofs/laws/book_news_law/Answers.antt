use Rattle.book.proofs.Told.WholeLaws.{whole_news_law, whole_news_order_law}
use Rattle.book.proofs.laws.book_news_law.Goals as goal

pub returns-clause-news : goal.returns-clause-news
returns-clause-news c = whole_news_law

pub returns-clause-in_order : goal.returns-clause-in_order
returns-clause-in_order c = whole_news_order_law
