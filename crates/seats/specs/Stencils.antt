-- Two grids whose words are made one by one, each from words of the grid that was made before.
use Rattle.std.specs.Prelude.{ℕ, zero, suc, ◌+◌, List, map}
use Rattle.std.specs.List.{range_with_len}
use Rattle.cluster.specs.Copies.Local.{Local}
use Rattle.seats.specs.GridPairs.{GridPairSteps, grid_pair_block_end, grid_pair_block_start, grid_pair_at, grid_pair_made, grid_pair_read, grid_pair_rounds, grid_pair_steps}
use Rattle.seats.specs.Loads.{LoadsValue}
use Rattle.seats.specs.Rounds.{IsMaking, Rounds}

-- the cells of a grid and of a processor's block; a cell's word at the start, and after a step by the words before it
pub record StencilSteps : Type 0 where
  pub cells : ℕ
  pub share : ℕ
  pub first : ℕ → ℕ
  pub next : List ℕ → ℕ → ℕ

-- a grid whose words are these, by cell
abbrev pub stencil_grid_of : ℕ → (ℕ → ℕ) → List ℕ
stencil_grid_of cells word = map word (range_with_len 0 cells)

-- all cells after a step
abbrev pub stencil_step : StencilSteps → List ℕ → List ℕ
stencil_step x words = stencil_grid_of x.cells (x.next words)

abbrev pub stencil_grids : StencilSteps → GridPairSteps
stencil_grids x = record { cells = x.cells; share = x.share; start = stencil_grid_of x.cells x.first; step = stencil_step x }

abbrev pub stencil_rounds : StencilSteps → Rounds
stencil_rounds x = grid_pair_rounds (stencil_grids x)

-- a grid that is the start after n steps
unfoldable pub stencil_after : StencilSteps → ℕ → List ℕ
stencil_after x n = grid_pair_steps (stencil_step x) n (stencil_grid_of x.cells x.first)

-- what round n makes of a cell
abbrev pub stencil_word : StencilSteps → ℕ → List ℕ → ℕ → ℕ
stencil_word x zero words cell = x.first cell
stencil_word x (suc n) words cell = x.next words cell

-- it has only loaded cells of the grid that round n reads, and of any grid that answers so this is the value
abbrev pub HasStencilLoads : {X : Type 0} → ℕ → ℕ → (List ℕ → X) → Local → Local → X → Type 0
HasStencilLoads cells n value old new x =
    LoadsValue (grid_pair_read cells n) (grid_pair_read cells n + cells) (λ memory. value (grid_pair_at cells (grid_pair_read cells n) memory)) old new x

-- processor p has made its block of the grid that round n makes
abbrev pub IsStencilBlockMade : StencilSteps → ℕ → ℕ → Local → Local → Type 0
IsStencilBlockMade x n p old new =
    IsMaking (stencil_rounds x) n (grid_pair_made x.cells n + grid_pair_block_start x.cells x.share p) (grid_pair_made x.cells n + grid_pair_block_end x.cells x.share p) old new
