-- Sets of processors, as lists of their numbers.
use Rattle.std.specs.Prelude.{ℕ, ◌+◌, Bool, true, false, List, [], ◌∷◌}

-- the places of the marks, counted from n
abbrev pub waiters_from : ℕ → List Bool → List ℕ
waiters_from n [] = []
waiters_from n (true ∷ marks) = n ∷ waiters_from ((n + 1)) marks
waiters_from n (false ∷ marks) = waiters_from ((n + 1)) marks
