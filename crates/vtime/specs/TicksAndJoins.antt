-- Vector timestamps as lists of entries: entry q is how many intervals of processor q have been performed.
use Rattle.std.specs.Prelude.{ℕ, ◌+◌, ◌<◌, List, [], ◌∷◌, max, slice_index, slice_set}

-- one more interval of processor q
abbrev pub tick : List ℕ → ℕ → List ℕ
tick time q = slice_set time q (slice_index time q + 1)

-- the greater entry by place
abbrev pub join : List ℕ → List ℕ → List ℕ
join [] us = us
join (t ∷ ts) [] = t ∷ ts
join (t ∷ ts) (u ∷ us) = max t u ∷ join ts us

-- the interval with this owner and number has been performed
abbrev pub Covers : List ℕ → ℕ → ℕ → Type 0
Covers time owner number = number < slice_index time owner
