-- What holds of each processor between its calls, by what it has seen and its open block alone.
use Rattle.std.specs.Prelude.{ℕ, ◌≡◌, ◌≢◌, ◌<◌, ◌≤◌, ◌↔◌, ◌+◌, true, false, Some, None, List, [], length, replicate, slice_get}
use Rattle.journal.specs.declared.event.Event.{Event}
use Rattle.journal.specs.Sizes.{Sizes}
use Rattle.journal.specs.Events.{EventAt}
use Rattle.journal.specs.WellFormed.{WellFormed, Holds}
use Rattle.journal.specs.Pasts.{InPast}
use Rattle.journal.specs.Blocks.{BlockAnswers}
use Rattle.journal.specs.FetchesCountGaps.{BlockFetchesCountGaps}
use Rattle.base.specs.Limits.{most_processors, most_events, most_cut, most_in_block, most_pages}
use Rattle.page.specs.Contents.{ContentsAreClean}
use Rattle.book.specs.BookStamps.{EachStampedAt, IsBookStamp, IsAwaitedByBookStamps}
use Rattle.book.specs.AllowedCalls.{IsAllowedInnerCall}
use Rattle.cluster.specs.Copies.PageReplica.{PageReplica, IsPageReplica}
use Rattle.cluster.specs.Copies.Local.{Local}

-- sizes within the product's: 1 to 16 processors, 1 to 64 pages of 1 to 64 words, and up to 32 locks and flags
pub record AreSoundSizes (s : Sizes) : Type 0 where
  pub some_processors : 0 < s.processors
  pub processors : s.processors ≤ most_processors
  pub some_pages : 0 < s.pages
  pub pages : s.pages ≤ 64
  pub some_words : 0 < s.words
  pub words : s.words ≤ 64
  pub locks : s.locks ≤ 32
  pub flags : s.flags ≤ 32

-- events that a processor can have seen: those cut off, and a journal's
abbrev pub sound_most_seen : ℕ
sound_most_seen = most_cut + most_events

-- the copies, the timestamp, the locks held and what is awaited are what `seen` and the open block say
pub record IsSound (m : Local) : Type 0 where
  pub sizes : AreSoundSizes m.sizes
  pub mine : m.number < m.sizes.processors
  pub few : length m.seen ≤ sound_most_seen
  pub well_formed : WellFormed m.sizes m.seen
  pub inner : (k : ℕ) (e : Event) → EventAt m.block k e → IsAllowedInnerCall m.sizes m.number e
  pub short : length m.block ≤ most_in_block
  pub time : IsBookStamp m.sizes.processors m.seen (InPast m.seen m.number) m.time
  pub bases : ℕ → List ℕ
  pub answers : BlockAnswers m.sizes m.seen m.block m.number bases
  pub counts : BlockFetchesCountGaps m.sizes m.seen m.block m.number
  pub copies : EachStampedAt m.sizes.pages (λ n c. IsPageReplica m.sizes m.seen m.block m.number n (bases n) c) m.copies
  pub marks : length m.stored ≡ most_pages
  pub clean : (n : ℕ) (c : PageReplica) → slice_get m.copies n ≡ Some c → slice_get m.stored n ≡ Some false → ContentsAreClean c.page
  pub held : EachStampedAt m.sizes.locks (λ l b. (b ≡ true) ↔ Holds m.seen m.number l) m.held
  pub awaits : IsAwaitedByBookStamps m.seen m.number m.awaits
  pub quiet : m.awaits ≢ None → m.block ≡ []
  pub unstored : m.awaits ≢ None → m.stored ≡ replicate most_pages false
