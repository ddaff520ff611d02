-- Rows numbered from 0, of which some have a value.
use Rattle.std.specs.Prelude.{ℕ, zero, suc, ◌≡◌, ◌≢◌, ◌-◌, ◌*◌, ◌/◌, ◌%◌, ◌^◌, ◌<◌, ◌≤◌, Option, Some, None, List, [], ◌∷◌, ◌++◌, drop, slice_get, slice_index, vec_len}
use Rattle.std.specs.Global.{Vec}
use Rattle.judge.specs.declared.sparse_table.SparseTable.{SparseTable}

-- how many rows' marks stand together, as a chunk
abbrev pub sparse_chunk_rows : ℕ
sparse_chunk_rows = 1024

-- how many values a table takes at most
abbrev pub most_sparse_values : ℕ
most_sparse_values = 2 ^ 32 - 1

-- the marks of a chunk, none past the last one
abbrev pub sparse_chunk : Option (Vec ℕ) → List ℕ
sparse_chunk None = []
sparse_chunk (Some chunk) = chunk.items

-- the mark of row r: one more than where its value stands, 0 where it has none
abbrev pub sparse_mark : List (Vec ℕ) → ℕ → ℕ
sparse_mark chunks r = slice_index (sparse_chunk (slice_get chunks (r / sparse_chunk_rows))) (r % sparse_chunk_rows)

-- the value that a mark leads to
abbrev pub sparse_table_value : {A : Type 0} → List A → ℕ → Option A
sparse_table_value kept zero = None
sparse_table_value kept (suc place) = slice_get kept place

-- the value of row r, if it has one
abbrev pub sparse_at : {A : Type 0} → SparseTable A → ℕ → Option A
sparse_at t r = sparse_table_value t.kept.items (sparse_mark t.marks.items r)

-- how many rows there is room for
abbrev pub sparse_room : {A : Type 0} → SparseTable A → ℕ
sparse_room t = vec_len t.marks * sparse_chunk_rows

-- each mark leads to a value, and no two to one
pub record IsSparse {A : Type 0} (t : SparseTable A) : Type 0 where
  pub within : (r : ℕ) → sparse_mark t.marks.items r ≤ vec_len t.kept
  pub apart : (r q : ℕ) → sparse_mark t.marks.items r ≢ 0 → sparse_mark t.marks.items r ≡ sparse_mark t.marks.items q → r ≡ q

-- with room for so many rows, of which at most that many have a value
pub record IsSparseFor {A : Type 0} (rows most : ℕ) (t : SparseTable A) : Type 0 where
  pub sparse : IsSparse t
  pub fits : rows < 2 ^ 64
  pub room : rows ≤ sparse_room t
  pub few : vec_len t.kept ≤ most

-- the row has the value now, and each other what it had
pub record IsSparseWith {A : Type 0} (old new : SparseTable A) (row : ℕ) (value : A) : Type 0 where
  pub sparse : IsSparse new
  pub now : sparse_at new row ≡ Some value
  pub others : (r : ℕ) → r ≢ row → sparse_at new r ≡ sparse_at old r

-- the items of row r, if its value is a list: none where it has none
abbrev pub sparse_items : {A : Type 0} → Option (Vec A) → List A
sparse_items None = []
sparse_items (Some row) = row.items

abbrev pub sparse_row : {A : Type 0} → SparseTable (Vec A) → ℕ → List A
sparse_row t r = sparse_items (sparse_at t r)

-- the row has its items from this one on, and each other what it had
pub record IsSparseRowFrom {A : Type 0} (old new : SparseTable (Vec A)) (row from : ℕ) : Type 0 where
  pub sparse : IsSparse new
  pub now : sparse_row new row ≡ drop from (sparse_row old row)
  pub others : (r : ℕ) → r ≢ row → sparse_row new r ≡ sparse_row old r

-- the row has these items now, and each other what it had
pub record IsSparseRowOf {A : Type 0} (old new : SparseTable (Vec A)) (row : ℕ) (items : List A) : Type 0 where
  pub sparse : IsSparse new
  pub now : sparse_row new row ≡ items
  pub others : (r : ℕ) → r ≢ row → sparse_row new r ≡ sparse_row old r

-- the row has the item at its end now, and each other what it had
pub record IsSparseRowWith {A : Type 0} (old new : SparseTable (Vec A)) (row : ℕ) (item : A) : Type 0 where
  pub sparse : IsSparse new
  pub now : sparse_row new row ≡ sparse_row old row ++ item ∷ []
  pub others : (r : ℕ) → r ≢ row → sparse_row new r ≡ sparse_row old r
