-- A plate of 14 rows of eight cells, cooled by Jacobi's method.
use Rattle.std.specs.Prelude.{ℕ, ◌+◌, ◌-◌, ◌/◌, ◌%◌, ◌==◌, ◌||◌, Bool, if◌then◌else◌, List, nat_le, nat_lt, slice_index}
use Rattle.seats.specs.Stencils.{StencilSteps}

-- whether a cell is in the first or last row, or at an end of its row
abbrev pub is_border : ℕ → Bool
is_border cell = nat_lt cell 8 || (nat_le 104 cell || ((cell % 8 == 0) || (cell % 8 == 7)))

-- a cell's word after a sweep: the border's stays, and all others are the mean of those above, below, left and right
abbrev pub swept : List ℕ → ℕ → ℕ
swept words cell =
    if is_border cell then slice_index words cell
    else (slice_index words (cell - 8) + slice_index words (cell + 8) + slice_index words (cell - 1) + slice_index words (cell + 1)) / 4

-- at the start the upper row is hot; of the 112 cells each processor makes 28
abbrev pub plate : StencilSteps
plate = record { cells = 112; share = 28; first = λ cell. if nat_lt cell 8 then 1000000 else 0; next = swept }
