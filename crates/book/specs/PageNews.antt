-- What is sent to a processor, read as intervals that a copy of a page may miss.
use Rattle.std.specs.Prelude.{ℕ, List, map, filter}
use Rattle.journal.specs.MissingIntervals.{MissingInterval}
use Rattle.interval.specs.SentIntervals.{SentRecord}
use Rattle.interval.specs.KeptClosings.{is_kept_closing_of_page}

-- the interval of a notice, with what it comes to in the notice's page
abbrev pub page_news_of_notice : SentRecord → MissingInterval
page_news_of_notice x = record { owner = x.notice.owner; number = x.notice.number; place = x.place; words = x.content.words }

-- the intervals of the notices of page n
abbrev pub news_of_page : ℕ → List SentRecord → List MissingInterval
news_of_page n sent = map page_news_of_notice (filter (is_kept_closing_of_page n) sent)
