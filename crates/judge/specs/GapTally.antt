-- Numbers of intervals in rows, and what they say.
use Rattle.std.specs.Prelude.{ℕ, ◌≡◌, ◌≢◌, ◌+◌, ◌*◌, ◌-◌, ◌<◌, ◌≤◌, ◌⊎◌, ◌↔◌, ◌&&◌, not, nat_lt, Bool, Option, Some, None, List, [], ◌∷◌, ◌++◌, length, map, vec_len}
use Rattle.base.specs.InOrderOnce.{Has, InOrder, IsOnce}
use Rattle.judge.specs.declared.gap_tally.GapTally.{GapTally}
use Rattle.judge.specs.SparseTables.{IsSparse, sparse_at, sparse_room, sparse_row}

-- where the row of page or address n and processor q stands
abbrev pub gap_tally_place_of : ℕ → ℕ → ℕ
gap_tally_place_of n q = n * 16 + q

-- the numbers of row r
abbrev pub gap_tally_numbers : GapTally → ℕ → List ℕ
gap_tally_numbers t r = sparse_row t.rows r

abbrev pub gap_tally_mark_in : Option ℕ → ℕ
gap_tally_mark_in None = 0
gap_tally_mark_in (Some mark) = mark

-- the mark at place m, 0 where there is none
abbrev pub gap_tally_mark : GapTally → ℕ → ℕ
gap_tally_mark t m = gap_tally_mark_in (sparse_at t.marks m)

-- there is room for so many rows and marks
pub record IsGapTallyFor (rows marks : ℕ) (t : GapTally) : Type 0 where
  pub rows_sparse : IsSparse t.rows
  pub marks_sparse : IsSparse t.marks
  pub rows_room : rows ≤ sparse_room t.rows
  pub marks_room : marks ≤ sparse_room t.marks

-- k is from `from` on and below `to`
abbrev pub is_gap_tally_between : ℕ → ℕ → ℕ → Bool
is_gap_tally_between from to k = not (nat_lt k from) && nat_lt k to

-- the number k stands last in the row now, and is marked
pub record IsGapTallyAdded (old new : GapTally) (row m k : ℕ) : Type 0 where
  pub fresh : gap_tally_mark old m ≤ k
  pub more : gap_tally_numbers new row ≡ gap_tally_numbers old row ++ k ∷ []
  pub others : (r : ℕ) → r ≢ row → gap_tally_numbers new r ≡ gap_tally_numbers old r
  pub marked : gap_tally_mark new m ≡ k + 1
  pub others_marked : (i : ℕ) → i ≢ m → gap_tally_mark new i ≡ gap_tally_mark old i
  pub more_rows : vec_len new.rows.kept ≤ vec_len old.rows.kept + 1
  pub more_marks : vec_len new.marks.kept ≤ vec_len old.marks.kept + 1

-- the number k is added, unless it was for this mark
abbrev pub GapTallyAdds : GapTally → GapTally → ℕ → ℕ → ℕ → Type 0
GapTallyAdds old new row m k = IsGapTallyAdded old new row m k ⊎ ((k < gap_tally_mark old m) × (new ≡ old))

-- the row has the interval of each of these values, in order
pub record AreGapTallyIntervals {A : Type 0} (values : A → Type 0) (interval : A → ℕ) (row : List ℕ) : Type 0 where
  pub list : List A
  pub each : (x : A) → Has list x ↔ values x
  pub once : IsOnce list
  pub are : row ≡ map interval list
  pub rising : InOrder (λ (k m : ℕ). k ≤ m) row

-- m is one more than the last of these numbers, 0 where there is none
pub record IsGapTallyMark (marked : ℕ → Type 0) (m : ℕ) : Type 0 where
  pub below : (k : ℕ) → marked k → k < m
  pub last : m ≢ 0 → marked (m - 1)

-- the rows have these values, by page and processor; the marks are of these numbers
pub record IsGapTallyOfValues {A : Type 0} (values : ℕ → ℕ → A → Type 0) (interval : A → ℕ) (marked : ℕ → ℕ → ℕ → Type 0)
    (most : ℕ) (t : GapTally) : Type 0 where
  pub rows : (n q : ℕ) → q < 16 → AreGapTallyIntervals (values n q) interval (gap_tally_numbers t (gap_tally_place_of n q))
  pub marks : (x q : ℕ) → q < 16 → IsGapTallyMark (marked x q) (gap_tally_mark t (gap_tally_place_of x q))
  pub few : (r : ℕ) → length (gap_tally_numbers t r) ≤ most
  pub few_rows : vec_len t.rows.kept ≤ most
  pub few_marks : vec_len t.marks.kept ≤ most
