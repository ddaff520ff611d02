-- At most one message for each processor.
use Rattle.std.specs.Prelude.{ℕ, Option, None, List, slice_index_or}
use Rattle.transit.specs.Letters.{Letter}

-- the message for processor p, if there is one
abbrev pub mail : List (Option Letter) → ℕ → Option Letter
mail posted p = slice_index_or posted p None
