-- The orders of the rounds of a run by turns.
use Rattle.std.specs.Prelude.{ℕ, zero, suc, ◌+◌, ◌-◌, ◌%◌, List, Option, Some, None, length}
use Rattle.std.specs.List.{range_with_len, swap}
use Rattle.rand_core.specs.Pcg32Seed.{pcg32_seed}
use Rattle.rand_pcg.specs.Lcg.{Lcg}
use Rattle.rand_pcg.specs.Pcg.{pcg32, pcg32_of_seed}

-- from this place down to place 1 each item changes places with one drawn from those up to it
unfoldable pub round_order_exchanged : ℕ → Lcg → List ℕ → List ℕ × Lcg
round_order_exchanged zero g xs = (xs, g)
round_order_exchanged (suc i) g xs = round_order_exchanged i (pcg32 g).1 (swap xs (suc i) ((pcg32 g).0 % (suc i + 1)))

-- the whole list, and the generator then
abbrev pub round_ordered : Lcg → List ℕ → List ℕ × Lcg
round_ordered g xs = round_order_exchanged (length xs - 1) g xs

-- the generator of a seed
abbrev pub round_order_generator : Option ℕ → Option Lcg
round_order_generator None = None
round_order_generator (Some seed) = Some (pcg32_of_seed (pcg32_seed 16 seed))

-- the numbers below n, rising, or as a generator exchanges them; and the generator then
abbrev pub round_order_drawn : Option Lcg → ℕ → List ℕ × Option Lcg
round_order_drawn None n = (range_with_len 0 n, None)
round_order_drawn (Some g) n = ((round_ordered g (range_with_len 0 n)).0, Some (round_ordered g (range_with_len 0 n)).1)

-- the generator of a seed after so many rounds of n processors
abbrev pub round_order_generator_after : Option ℕ → ℕ → ℕ → Option Lcg
round_order_generator_after seed n zero = round_order_generator seed
round_order_generator_after seed n (suc rounds) = (round_order_drawn (round_order_generator_after seed n rounds) n).1

-- the order of n processors in this round, counted from 0
abbrev pub round_order : Option ℕ → ℕ → ℕ → List ℕ
round_order seed n round = (round_order_drawn (round_order_generator_after seed n round) n).0
