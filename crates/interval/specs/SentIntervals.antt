-- Closed intervals and what is sent of them, as contracts see them.
use Rattle.std.specs.Prelude.{ℕ, ◌≡◌, ◌<◌, ◌⊎◌, List}
use Rattle.base.specs.InOrderOnce.{InOrder}
use Rattle.page.specs.PageChanges.{PageChanges}
use Rattle.interval.specs.declared.notice.Notice.{Notice}

-- a closed interval: its owner, its number among the owner's, and what its stores left in each page
pub record ClosedInterval : Type 0 where
  pub owner : ℕ
  pub number : ℕ
  pub records : List PageChanges

-- a write notice, the closing number of its interval, and the record that it announces
pub record SentRecord : Type 0 where
  pub notice : Notice
  pub place : ℕ
  pub content : PageChanges

-- one record a page, in rising order of page
abbrev pub SentIntervalPagesRise : List PageChanges → Type 0
SentIntervalPagesRise records = InOrder (λ (r s : PageChanges). r.page < s.page) records

-- one comes before the other: its interval was closed before, or it is one interval and the page is lower
abbrev pub IsSentBefore : SentRecord → SentRecord → Type 0
IsSentBefore a b = (a.place < b.place) ⊎ ((a.place ≡ b.place) × (a.notice.page < b.notice.page))

-- in closing order, and by rising page within one interval
abbrev pub IsSentInIntervalOrder : List SentRecord → Type 0
IsSentInIntervalOrder sent = InOrder IsSentBefore sent
