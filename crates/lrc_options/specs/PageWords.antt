-- What the text of `--page-words` gives.
use Rattle.std.specs.Prelude.{ℕ, ◌≡◌, ◌≤◌, ◌^◌, ◌&&◌, List, Option, Some, None, cond, length, nat_le, nat_lt, slice_get}
use Rattle.lrc_script.specs.LineReading.{line_read_number}

-- the most words of a page, and the most sizes
abbrev pub most_page_words : ℕ
most_page_words = 2 ^ 20

abbrev pub most_page_sizes : ℕ
most_page_sizes = 8

-- the number, if a page may have so many words
abbrev pub page_words_in_range : Option ℕ → Option ℕ
page_words_in_range None = None
page_words_in_range (Some n) = cond (nat_lt 0 n && nat_le n most_page_words) (Some n) None

-- how many words of a page an item gives
abbrev pub page_words_of : List ℕ → Option ℕ
page_words_of item = page_words_in_range (line_read_number item)

-- these items give these numbers, in order
pub record ArePageWordsRead (items : List (List ℕ)) (words : List ℕ) : Type 0 where
  pub long : length words ≡ length items
  pub each : (k : ℕ) (item : List ℕ) → slice_get items k ≡ Some item → slice_get words k ≡ page_words_of item

-- and they are few
pub record ArePageWordsWritten (items : List (List ℕ)) (words : List ℕ) : Type 0 where
  pub read : ArePageWordsRead items words
  pub few : length words ≤ most_page_sizes
