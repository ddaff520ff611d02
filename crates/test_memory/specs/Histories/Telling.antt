-- A book with the history that tells it.
use Rattle.std.specs.Prelude.{ℕ, ◌≡◌, ◌<◌, ◌≤◌, List, length, ◌++◌}
use Rattle.journal.specs.declared.event.Event.{Event}
use Rattle.journal.specs.Sizes.{Sizes}
use Rattle.page.specs.PageChanges.{PageChanges}
use Rattle.interval.specs.SentIntervals.{SentIntervalPagesRise}
use Rattle.book.specs.AllowedCalls.{AllowsIdleBlockCall}
use Rattle.book.specs.BookLaws.{AreOpenRecordsOfBookLaw}
use Rattle.book.specs.BookState.{BookState}
use Rattle.book.specs.RepresentedHistory.{Represents}

-- the cluster's sizes, what was done so far, and the book
pub record Telling : Type 0 where
  pub sizes : Sizes
  pub history : List Event
  pub book : BookState

-- the history tells the book, and a page has as many words as a page can have
pub record IsTelling (t : Telling) : Type 0 where
  pub told : Represents t.sizes t.history t.book
  pub some : 0 < t.sizes.words
  pub few : t.sizes.words ≤ 64

-- this history was made of the old one, in the same cluster
abbrev pub MadeFrom : Telling → List Event → Telling → Type 0
MadeFrom old history new = (new.sizes ≡ old.sizes) × (new.history ≡ history)

-- p may close its interval with this block and these records
pub record MayCloseHere (t : Telling) (p : ℕ) (block : List Event) (records : List PageChanges) : Type 0 where
  pub may : AllowsIdleBlockCall t.sizes t.book p block
  pub short : length block ≤ 256
  pub are : AreOpenRecordsOfBookLaw t.sizes (t.history ++ block) p records
  pub rising : SentIntervalPagesRise records
