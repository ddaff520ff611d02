-- What the words show, and the two boards.
use Rattle.std.specs.Prelude.{◌≡◌, ℕ, ◌+◌, ◌*◌, ◌%◌, ◌^◌, ◌<◌, ◌≤◌, List, length, slice_index, slice_set}

-- A board: `shows words k` says that the words let the number k in, the chair with the number m looks at the word
-- `at m`,
-- and who leaves with the number m makes the word at `at (m + 1)` what `passed m` says of it
pub record IsBoard (width : ℕ) (shows : List ℕ → ℕ → Type 0) (at : ℕ → ℕ) (passed : ℕ → ℕ → ℕ) : Type 0 where
  pub within : (m : ℕ) → at m < width
  pub beside_next : (m : ℕ) → 0 < at m
  pub has_next : (words : List ℕ) (k : ℕ) → shows words k → 0 < length words
  -- drawing changes nothing that is shown
  pub draws : (words : List ℕ) (k x : ℕ) → shows words k → shows (slice_set words 0 x) k
  -- who is let in finds its number where it looks, and who finds its number is let in
  pub lets_in : (words : List ℕ) (k : ℕ) → shows words k → slice_index words (at k) ≡ k
  pub finds : (words : List ℕ) (k m : ℕ) → shows words k → k ≤ m → slice_index words (at m) ≡ m → m ≡ k
  -- leaving lets the next number in
  pub passes : (words : List ℕ) (m : ℕ) → shows words m → m + 1 < 2 ^ 64
      → shows (slice_set words (at (m + 1)) (passed m (slice_index words (at (m + 1))))) (m + 1)

-- how many words apart those words lie at which threads look, so that each has a cache line of its own
abbrev pub board_line_words : ℕ
board_line_words = 8

-- how many words the ticket lock has: the next number, and a line behind it the number that is served
abbrev pub counting_board_width : ℕ → ℕ
counting_board_width n = board_line_words + 1

-- how many words the array lock has for n chairs: a line for the next number, and one for each chair
abbrev pub pointing_board_width : ℕ → ℕ
pointing_board_width n = (n + 1) * board_line_words

-- one word for all: it is the number that is let in
abbrev pub CountingBoardLetsIn : List ℕ → ℕ → Type 0
CountingBoardLetsIn words k = (length words ≡ board_line_words + 1) × (slice_index words board_line_words ≡ k)

-- the own word of number m, of n chairs
abbrev pub board_own_word : ℕ → ℕ → ℕ
board_own_word n m = (m % n + 1) * board_line_words

-- one word for each of n chairs: that of k is k, and none is above it
abbrev pub PointingBoardLetsIn : ℕ → List ℕ → ℕ → Type 0
PointingBoardLetsIn n words k = (length words ≡ (n + 1) * board_line_words) × (slice_index words (board_own_word n k) ≡ k)
    × ((j : ℕ) → j < n → slice_index words ((j + 1) * board_line_words) ≤ k)
