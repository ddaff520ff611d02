-- Rows of entries, as many in each.
use Rattle.std.specs.Prelude.{ℕ, ◌+◌, ◌*◌, cond, nat_lt, slice_index}
use Rattle.judge.specs.declared.cut_rows.CutRows.{CutRows}

-- entry q of row n, 0 where there is none
abbrev pub cut_entry : CutRows → ℕ → ℕ → ℕ
cut_entry rows n q = cond (nat_lt q rows.width) (slice_index rows.entries.items (n * rows.width + q)) 0
