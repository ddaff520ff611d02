-- How a book is kept with the history that tells it.
use Rattle.std.specs.Prelude.{◌≡◌}
use Rattle.test_memory.specs.declared.histories.told.Told.TheInside.{Inside}
use Rattle.test_memory.specs.Histories.Telling.{Telling, IsTelling}

abbrev pub telling_of : Inside → Telling
telling_of t = record {
  sizes = record { processors = t.processors; pages = t.pages; words = t.words; locks = t.locks; flags = t.flags };
  history = t.history.items;
  book = t.book;
}

-- the history tells the book, and `owing` is for how many last events it keeps room
pub record RepresentsWithRoom (t : Inside) : Type 0 where
  pub telling : IsTelling (telling_of t)
  pub owing : t.owing ≡ t.book.journal.room
