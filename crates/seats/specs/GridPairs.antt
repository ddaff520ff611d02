-- Rounds on two grids, one behind the other: each makes one of them from the other, in turn.
use Rattle.std.specs.Prelude.{ℕ, zero, suc, ◌≡◌, ◌+◌, ◌*◌, ◌≤◌, Bool, true, not, if◌then◌else◌, List, ◌++◌, drop, length, min, take}
use Rattle.journal.specs.declared.event.Event.{Event}
use Rattle.journal.specs.ReplayMemory.{memory_after}
use Rattle.journal.specs.Sizes.{Sizes}
use Rattle.seats.specs.PhaseGuards.{PhaseGuards}
use Rattle.seats.specs.Rounds.{IsInRounds, Rounds}
use Rattle.seats.specs.Tables.{table_range_has}

-- even rounds make the first grid, and odd ones the second
abbrev pub is_even : ℕ → Bool
is_even zero = true
is_even (suc n) = not (is_even n)

-- where the grid begins that a round makes, and that which it reads
abbrev pub grid_pair_made : ℕ → ℕ → ℕ
grid_pair_made cells n = if is_even n then 0 else cells

abbrev pub grid_pair_read : ℕ → ℕ → ℕ
grid_pair_read cells n = if is_even n then cells else 0

-- the grid that begins there
abbrev pub grid_pair_at : ℕ → ℕ → List ℕ → List ℕ
grid_pair_at cells from memory = take cells (drop from memory)

-- the block of cells that a processor makes: from this one up to before that one
abbrev pub grid_pair_block_start : ℕ → ℕ → ℕ → ℕ
grid_pair_block_start cells share p = min (p * share) cells

abbrev pub grid_pair_block_end : ℕ → ℕ → ℕ → ℕ
grid_pair_block_end cells share p = min (grid_pair_block_start cells share p + share) cells

-- the first grid's words at the start, and those of a grid after a step, by those before it
pub record GridPairSteps : Type 0 where
  pub cells : ℕ
  pub share : ℕ
  pub start : List ℕ
  pub step : List ℕ → List ℕ

-- what round n makes of the grid that it reads: at first the start
abbrev pub grid_pair_next : GridPairSteps → ℕ → List ℕ → List ℕ
grid_pair_next x zero words = x.start
grid_pair_next x (suc n) words = x.step words

-- the memory after round n
abbrev pub grid_pair_after : GridPairSteps → ℕ → List ℕ → List ℕ
grid_pair_after x n memory =
    if is_even n then grid_pair_next x n (grid_pair_at x.cells x.cells memory) ++ grid_pair_at x.cells x.cells memory
    else grid_pair_at x.cells 0 memory ++ grid_pair_next x n (grid_pair_at x.cells 0 memory)

-- these rounds: each processor makes its block
abbrev pub grid_pair_rounds : GridPairSteps → Rounds
grid_pair_rounds x = record {
  words = x.cells + x.cells;
  makes = λ n p a. table_range_has (grid_pair_made x.cells n + grid_pair_block_start x.cells x.share p) (grid_pair_made x.cells n + grid_pair_block_end x.cells x.share p) a;
  after = grid_pair_after x;
}

-- a grid after n steps
abbrev pub grid_pair_steps : (List ℕ → List ℕ) → ℕ → List ℕ → List ℕ
grid_pair_steps f zero words = words
grid_pair_steps f (suc n) words = f (grid_pair_steps f n words)

-- the start fills a grid, and a step keeps it full
pub record AreFullGridPairs (x : GridPairSteps) : Type 0 where
  pub start : length x.start ≡ x.cells
  pub step : (words : List ℕ) → length words ≡ x.cells → length (x.step words) ≡ x.cells

-- and the processors' blocks cover it
pub record AreSharedGridPairs (x : GridPairSteps) (processors : ℕ) : Type 0 where
  pub full : AreFullGridPairs x
  pub shared : x.cells ≤ processors * x.share

-- after the start and n steps, the grid that was made last is the start after n steps
abbrev pub GridPairsLaw : Type 0
GridPairsLaw = (x : GridPairSteps) (n : ℕ) (s : Sizes) (g : PhaseGuards) (memory : List ℕ) (h : List Event) → AreSharedGridPairs x s.processors
    → IsInRounds (grid_pair_rounds x) (suc n) s g memory h
    → grid_pair_at x.cells (grid_pair_made x.cells n) (memory_after memory h) ≡ grid_pair_steps x.step n x.start
