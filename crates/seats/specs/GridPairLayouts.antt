-- Who may access which words of two grids, one behind the other.
use Rattle.std.specs.Prelude.{ℕ, ◌≡◌, ◌≢◌, ◌⊎◌, ◌+◌, ◌<◌, ◌≤◌, Bool, true, false, Some, None, length}
use Rattle.seats.specs.declared.guard.Guard.TheVariants.{Of, Shared}
use Rattle.seats.specs.GridPairs.{grid_pair_block_end, grid_pair_block_start, grid_pair_made, grid_pair_read}
use Rattle.seats.specs.Tables.{GuardTables, table_guard, table_guard_put, table_range_has}

-- whether an address is in the block that processor p makes in round n
abbrev pub grid_pair_block_has : ℕ → ℕ → ℕ → ℕ → ℕ → Bool
grid_pair_block_has cells share n p a =
    table_range_has (grid_pair_made cells n + grid_pair_block_start cells share p) (grid_pair_made cells n + grid_pair_block_end cells share p) a

-- whether it is in the grid that round n reads
abbrev pub grid_pair_read_has : ℕ → ℕ → ℕ → Bool
grid_pair_read_has cells n a = table_range_has (grid_pair_read cells n) (grid_pair_read cells n + cells) a

-- in the table of round n each of the first k processors was given its block, and all the grid that is read; all else is as it was
pub record IsGridPairRoundPut (cells share n k : ℕ) (old new : GuardTables) : Type 0 where
  pub round : new.round ≡ old.round
  pub tables : length new.tables ≡ length old.tables
  pub others : (t a : ℕ) → t ≢ n → table_guard new t a ≡ table_guard old t a
  pub own : (p a : ℕ) → p < k → grid_pair_block_has cells share n p a ≡ true
      → table_guard new n a ≡ table_guard_put true (Of p) (table_guard old n a)
  pub rest : (a : ℕ) → ((p : ℕ) → p < k → grid_pair_block_has cells share n p a ≡ false)
      → table_guard new n a ≡ table_guard_put (grid_pair_read_has cells n a) Shared (table_guard old n a)

-- a table for each of two rounds, which come again and again: all may load the grid that a round reads, each processor alone
-- has the block that it makes, and processor 0 what is in no block; no other address has a guard
pub record IsGridPairLayout (cells share processors : ℕ) (g : GuardTables) : Type 0 where
  pub round : g.round ≡ 0
  pub tables : length g.tables ≡ 2
  pub read : (n a : ℕ) → n < 2 → grid_pair_read_has cells n a ≡ true → table_guard g n a ≡ Some Shared
  pub own : (n p a : ℕ) → n < 2 → p < processors → grid_pair_block_has cells share n p a ≡ true → table_guard g n a ≡ Some (Of p)
  pub rest : (n a : ℕ) → n < 2 → a < cells + cells → grid_pair_read_has cells n a ≡ false
      → ((p : ℕ) → p < processors → grid_pair_block_has cells share n p a ≡ false) → table_guard g n a ≡ Some (Of 0)
  pub past : (n a : ℕ) → (2 ≤ n) ⊎ ((cells + cells) ≤ a) → table_guard g n a ≡ None
