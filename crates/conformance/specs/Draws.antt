-- How turns are drawn: in which order processors are tried for the next one.
use Rattle.std.specs.Prelude.{ℕ, ◌+◌, ◌%◌, ◌==◌, ◌++◌, ◌∷◌, [], Bool, List, cond, drop, length, nat_lt, slice_index_or, sum_by, take}
use Rattle.std.specs.List.{range_with_len}
use Rattle.rand_core.specs.Pcg32Seed.{pcg32_seed}
use Rattle.rand_pcg.specs.Lcg.{Lcg}
use Rattle.rand_pcg.specs.Pcg.{pcg32, pcg32_of_seed}
use Rattle.lrc_script.specs.declared.script.Instruction.{Instruction}
use Rattle.conformance.specs.RoundOrders.{round_ordered}

-- the order of the next turn, and the generator then
pub record Drawing : Type 0 where
  pub order : List ℕ
  pub generator : Lcg

abbrev pub drawing : List ℕ × Lcg → Drawing
drawing x = record { order = x.0; generator = x.1 }

-- at the start, of n processors
abbrev pub drawing_of : ℕ → ℕ → Drawing
drawing_of seed n = drawing (round_ordered (pcg32_of_seed (pcg32_seed 16 seed)) (range_with_len 0 n))

-- an even seed draws a walk, an odd one priorities
abbrev pub draws_walk : ℕ → Bool
draws_walk seed = seed % 2 == 0

-- about how many turns these sections take: one for each instruction, one for the closing barrier, and one more
abbrev pub draws_turns_about : List (List Instruction) → ℕ
draws_turns_about sections = 1 + sum_by (λ (section : List Instruction). length section + 1) sections

-- whoever stands at this place comes last
abbrev pub draws_lowered : List ℕ → ℕ → List ℕ
draws_lowered order place = take place order ++ drop (place + 1) order ++ slice_index_or order place 0 ∷ []

-- after the turn of the processor at this place, of about m turns: a walk draws an order anew; else whoever had the turn
-- comes last, if a word modulo m is below 3
abbrev pub next_drawing : Bool → ℕ → ℕ → Drawing → Drawing
next_drawing walks m place d = cond walks (drawing (round_ordered d.generator d.order)) (record {
  order = cond (nat_lt ((pcg32 d.generator).0 % m) 3) (draws_lowered d.order place) d.order;
  generator = (pcg32 d.generator).1;
})

-- after the turns of those who stood at these places, one after another
abbrev pub drawing_after : Bool → ℕ → Drawing → List ℕ → Drawing
drawing_after walks m d [] = d
drawing_after walks m d (place ∷ places) = drawing_after walks m (next_drawing walks m place d) places

-- who has these turns: whoever stands at the place
abbrev pub drawn_turns : Bool → ℕ → Drawing → List ℕ → List ℕ
drawn_turns walks m d [] = []
drawn_turns walks m d (place ∷ places) = slice_index_or d.order place 0 ∷ drawn_turns walks m (next_drawing walks m place d) places

-- who is tried for them: before each turn those that stand before the place, and then whoever has the turn
abbrev pub drawn_tries : Bool → ℕ → Drawing → List ℕ → List ℕ
drawn_tries walks m d [] = []
drawn_tries walks m d (place ∷ places) = take (place + 1) d.order ++ drawn_tries walks m (next_drawing walks m place d) places
