-- What the calls that enter the book do to a processor.
use Rattle.std.specs.Prelude.{ℕ, ◌≡◌, ◌≢◌, ◌<◌, ◌≤◌, ◌⊎◌, ◌↔◌, Bool, true, false, Some, None, List, [], ◌++◌, EachIndex, filter, length, map, replicate, slice_get, slice_index, slice_set}
use Rattle.base.specs.Limits.{most_pages}
use Rattle.journal.specs.declared.event.Event.{Event}
use Rattle.journal.specs.declared.event.Kind.{Kind}
use Rattle.journal.specs.declared.event.Kind.TheVariants.{Acquire, Release}
use Rattle.journal.specs.DidEvent.{did}
use Rattle.journal.specs.MissingIntervals.{MissingIntervalsInOrder}
use Rattle.journal.specs.AwaitedNext.{awaited_next}
use Rattle.base.specs.InOrderOnce.{Has}
use Rattle.vtime.specs.TicksAndJoins.{tick, join}
use Rattle.page.specs.declared.page.Access.TheVariants.{Invalid}
use Rattle.page.specs.Contents.{ContentsAreClean}
use Rattle.interval.specs.SentIntervals.{SentRecord}
use Rattle.interval.specs.KeptClosings.{is_kept_closing_of_page}
use Rattle.book.specs.PageNews.{page_news_of_notice}
use Rattle.cluster.specs.Copies.PageReplica.{PageReplica}
use Rattle.cluster.specs.Copies.Local.{Local}

-- the processor after it found the journal gone on with these events
abbrev pub found_after_news : Local → List Event → Local
found_after_news m rest = record m { seen = m.seen ++ rest }

-- after it handed its block in
abbrev pub handed_after_news : Local → Local
handed_after_news m = record m { seen = m.seen ++ m.block; block = [] }

-- the copy with no word dirty
abbrev pub copy_cleaned_after_news : PageReplica → PageReplica
copy_cleaned_after_news c = record c { page = record c.page { dirty = replicate (length c.page.words) false } }

-- the locks held after this event
abbrev pub locks_held_after_news : Kind → List Bool → List Bool
locks_held_after_news (Acquire l) held = slice_set held l true
locks_held_after_news (Release l) held = slice_set held l false
locks_held_after_news _ held = held

-- after an event of its own that closes its interval
abbrev pub closed_after_news : Local → Kind → Local
closed_after_news m k = record m {
  seen = did m.seen m.number k;
  copies = map copy_cleaned_after_news m.copies;
  stored = replicate most_pages false;
  time = tick m.time m.number;
  held = locks_held_after_news k m.held;
  awaits = awaited_next k;
}

-- the copy d is c, except for its room
pub record IsSameCopyAfterNews (c d : PageReplica) : Type 0 where
  pub page : d.page ≡ c.page
  pub missing : d.missing ≡ c.missing

-- each copy is as it was, except for its room
pub record AreSameCopiesAfterNews (old new : List PageReplica) : Type 0 where
  pub all : length new ≡ length old
  pub each : (n : ℕ) (c d : PageReplica) → slice_get old n ≡ Some c → slice_get new n ≡ Some d → IsSameCopyAfterNews c d

-- the copy d is c after these records of its page came: as it was if none came, else stale, and it lacks what it
-- lacked and these, in closing order
pub record IsAfterNews (c : PageReplica) (news : List SentRecord) (d : PageReplica) : Type 0 where
  pub none : news ≡ [] → IsSameCopyAfterNews c d
  pub page : news ≢ [] → d.page ≡ record c.page { access = Invalid }
  pub lacks : (x : SentRecord) → Has d.missing x ↔ (Has c.missing x ⊎ Has news x)
  pub order : MissingIntervalsInOrder (map page_news_of_notice d.missing)

-- each copy after what these records say of its page
pub record AreAfterNews (old : List PageReplica) (sent : List SentRecord) (new : List PageReplica) : Type 0 where
  pub all : length new ≡ length old
  pub each : (n : ℕ) (c d : PageReplica) → slice_get old n ≡ Some c → slice_get new n ≡ Some d
      → IsAfterNews c (filter (is_kept_closing_of_page n) sent) d

-- nothing is counted
abbrev pub AreZerosAfterNews : List ℕ → Type 0
AreZerosAfterNews counts = EachIndex counts (λ n. slice_index counts n ≡ 0)

-- each copy's list has memory for as many more records as its count says
abbrev pub CopiesHaveRoomForNews : List ℕ → List PageReplica → Type 0
CopiesHaveRoomForNews counts copies = (n : ℕ) (c : PageReplica) → slice_get copies n ≡ Some c → slice_index counts n ≤ c.room

-- these records may be put among those that the copy lacks: there is room for them, no word is dirty, both lists are in
-- closing order, and none of these intervals is in the list
pub record CopyMayLackNews (c : PageReplica) (news : List SentRecord) : Type 0 where
  pub room : length news ≤ c.room
  pub clean : news ≢ [] → ContentsAreClean c.page
  pub order : MissingIntervalsInOrder (map page_news_of_notice c.missing)
  pub news_order : MissingIntervalsInOrder (map page_news_of_notice news)
  pub apart : (x y : SentRecord) → Has c.missing x → Has news y → x.place ≢ y.place

-- each of these records is of a page that has a copy, whose list may take it
pub record CopiesMayLackNews (copies : List PageReplica) (sent : List SentRecord) : Type 0 where
  pub in_range : (x : SentRecord) → Has sent x → x.notice.page < length copies
  pub each : (n : ℕ) (c : PageReplica) → slice_get copies n ≡ Some c → CopyMayLackNews c (filter (is_kept_closing_of_page n) sent)

-- after it took this, which came with this time, and its copies are then these
abbrev pub taken_after_news : Local → Kind → List ℕ → List PageReplica → Local
taken_after_news m k u copies = record m {
  seen = did m.seen m.number k;
  copies = copies;
  time = join m.time u;
  held = locks_held_after_news k m.held;
  awaits = None;
}
