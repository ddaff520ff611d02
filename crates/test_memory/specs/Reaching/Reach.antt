-- Tables of what happens before what.
use Rattle.std.specs.Prelude.{ℕ, ◌≡◌, ◌↔◌, Bool, false, IsTrue, List, Some, length, slice_get, slice_index_or, vec_len}
use Rattle.std.specs.Global.{Vec}
use Rattle.journal.specs.declared.event.Event.{Event}
use Rattle.test_memory.specs.declared.reaching.reach_table.ReachTable.{ReachTable}
use Rattle.journal.specs.HappensBeforeEdges.{HappensBefore}

-- of each place, the row has a mark exactly where it happens before place k
pub record IsRow (j : List Event) (k : ℕ) (row : Vec Bool) : Type 0 where
  pub long : vec_len row ≡ length j
  pub marks : (i : ℕ) → IsTrue (slice_index_or row.items i false) ↔ HappensBefore j i k

-- these are the rows of the first places
abbrev pub AreRows : List Event → List (Vec Bool) → Type 0
AreRows j rows = (k : ℕ) (row : Vec Bool) → slice_get rows k ≡ Some row → IsRow j k row

-- the table has the row of each place
pub record IsTable (j : List Event) (t : ReachTable) : Type 0 where
  pub long : vec_len t.rows ≡ length j
  pub rows : AreRows j t.rows.items
