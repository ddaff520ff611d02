-- The cuts of locks or flags by their numbers.
use Rattle.std.specs.Prelude.{ℕ, cond, nat_lt, List, [], Option, Some, None, slice_index, take}
use Rattle.std.specs.BTreeMap.{get}
use Rattle.std.specs.Global.{Vec}
use Rattle.std.specs.Ordering.{nat_cmp}
use Rattle.judge.specs.declared.numbered_cuts.NumberedCuts.{NumberedCuts}
use Rattle.judge.specs.CutRows.{cut_entry}

-- the numbers below this are low
abbrev pub numbered_cut_first_high : ℕ
numbered_cut_first_high = 1024

-- the cut that is kept of a high number, if one is
abbrev pub numbered_cut_kept : Option (Vec ℕ) → List ℕ
numbered_cut_kept None = []
numbered_cut_kept (Some cut) = cut.items

-- entry q of the cut of number n: a low number's stands in the table
abbrev pub numbered_cut_at : NumberedCuts → ℕ → ℕ → ℕ
numbered_cut_at c n q = cond (nat_lt n numbered_cut_first_high) (cut_entry c.low n q)
    (slice_index (take c.low.width (numbered_cut_kept (get nat_cmp c.high n))) q)
