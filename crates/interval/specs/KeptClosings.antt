-- The closed intervals that are kept, as one list in closing order.
use Rattle.std.specs.Prelude.{ℕ, ◌≡◌, ◌≤◌, ◌+◌, ◌==◌, ◌&&◌, nat_lt, nat_le, not, min, max, Bool, Option, List, [], ◌∷◌, ◌++◌, map, filter, find, length, slice_index, slice_set}
use Rattle.std.specs.List.{flat_map}
use Rattle.std.specs.Option.{option_and_then}
use Rattle.page.specs.PageChanges.{PageChanges}
use Rattle.interval.specs.declared.notice.Notice.{Notice}
use Rattle.interval.specs.declared.interval.KeptInterval.{KeptInterval}
use Rattle.interval.specs.SentIntervals.{ClosedInterval, SentRecord}

-- `kept` is in closing order. For each owner, `first` is the number of its first interval that is kept, or
-- of its next one if none is, and `next` the number of its next one. `pushed` counts all ever closed
pub record KeptClosings : Type 0 where
  pub kept : List KeptInterval
  pub first : List ℕ
  pub next : List ℕ
  pub pushed : ℕ

-- one more interval, closed last
abbrev pub kept_closings_pushed : KeptClosings → ClosedInterval → KeptClosings
kept_closings_pushed c interval = record {
  kept = c.kept ++ record { place = c.pushed; interval = interval } ∷ [];
  first = c.first;
  next = slice_set c.next interval.owner (interval.number + 1);
  pushed = c.pushed + 1;
}

-- the owner's interval has a number below `to`
abbrev pub is_trimmed_from_kept_closings : ℕ → ℕ → KeptInterval → Bool
is_trimmed_from_kept_closings owner to k = k.interval.owner == owner && nat_lt k.interval.number to

-- the owner's intervals with numbers below `to` are dropped
abbrev pub kept_closings_trimmed_below : KeptClosings → ℕ → ℕ → KeptClosings
kept_closings_trimmed_below c owner to = record {
  kept = filter (λ k. not (is_trimmed_from_kept_closings owner to k)) c.kept;
  first = slice_set c.first owner (max (slice_index c.first owner) (min to (slice_index c.next owner)));
  next = c.next;
  pushed = c.pushed;
}

-- the timestamp `new` covers the interval and `old` doesn't
abbrev pub is_news_of_kept_closings : List ℕ → List ℕ → KeptInterval → Bool
is_news_of_kept_closings old new k =
    nat_le (slice_index old k.interval.owner) k.interval.number && nat_lt k.interval.number
    (slice_index new k.interval.owner)

-- the interval left something in some page
abbrev pub kept_closing_has_records : KeptInterval → Bool
kept_closing_has_records k = nat_lt 0 (length k.interval.records)

-- a record of the interval, under its notice
abbrev pub kept_closing_sent_record : KeptInterval → PageChanges → SentRecord
kept_closing_sent_record k r = record {
  notice = record { page = r.page; owner = k.interval.owner; number = k.interval.number };
  place = k.place;
  content = r;
}

-- all of the interval's records
abbrev pub kept_closing_sent_interval : KeptInterval → List SentRecord
kept_closing_sent_interval k = map (kept_closing_sent_record k) k.interval.records

-- the kept intervals that `new` covers and `old` doesn't, in closing order
abbrev pub kept_closings_between : KeptClosings → List ℕ → List ℕ → List SentRecord
kept_closings_between c old new = flat_map kept_closing_sent_interval (filter (is_news_of_kept_closings old new) c.kept)

-- all that lies between these timestamps is kept: each has an entry for each owner, and none is dropped that `old`
-- doesn't cover
pub record HasKeptClosingsBetween (c : KeptClosings) (old new : List ℕ) : Type 0 where
  pub old_long : length old ≡ length c.first
  pub new_long : length new ≡ length c.first
  pub none_trimmed : (q : ℕ) → slice_index c.first q ≤ slice_index old q

-- it announces a record of the page
abbrev pub is_kept_closing_of_page : ℕ → SentRecord → Bool
is_kept_closing_of_page page s = s.notice.page == page

-- the interval is that of the notice
abbrev pub is_noticed_kept_closing : Notice → KeptInterval → Bool
is_noticed_kept_closing n k = k.interval.owner == n.owner && k.interval.number == n.number

-- the record that the notice announces, if its interval is kept and has one
abbrev pub record_of : KeptClosings → Notice → Option PageChanges
record_of c n = option_and_then (λ k. find (λ r. r.page == n.page) k.interval.records) (find (is_noticed_kept_closing n) c.kept)
