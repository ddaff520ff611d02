-- The timestamps of locks or flags by their numbers.
use Rattle.std.specs.Prelude.{ℕ, cond, nat_lt}
use Rattle.journal.specs.declared.numbered_clocks.NumberedClocks.{NumberedClocks}
use Rattle.journal.specs.ClockEntry.{entry, clock_entry_in_map}

-- the numbers below this are low
abbrev pub numbered_clock_first_high : ℕ
numbered_clock_first_high = 1024

-- entry q of the timestamp of number n: a low number's stands in the table
abbrev pub numbered_clock_at : NumberedClocks → ℕ → ℕ → ℕ
numbered_clock_at c n q = cond (nat_lt n numbered_clock_first_high) (entry c.low.items n q) (clock_entry_in_map c.high n q)
