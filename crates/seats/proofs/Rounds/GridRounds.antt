-- Rounds on two grids: what each leaves, and what they come to.
use Rattle.std.proofs.Common.{ℕ, ◌≡◌, ◌+◌, ◌*◌, ◌-◌, ◌<◌, ◌≤◌, ◌⊎◌, inl, inr, Bool, true, false, Some, List, [], ◌∷◌, ◌++◌, length, take, drop, length-append, length-drop, slice_get, zero, suc, refl, sym, ap, subst, ◌∙◌, arith}
use Rattle.std.specs.Prelude.{slice_index}
use Rattle.std.proofs.Math.Nat.{suc-mul}
use Rattle.std.proofs.Math.Seq.{drop-append_seam, take-append_seam, take-length}
use Rattle.std.proofs.lemmas.Bool.{cases_lt}
use Rattle.std.proofs.lemmas.List.{length-take-le}
use Rattle.std.proofs.lemmas.Option.{get_or_from_slice_get}
use Rattle.base.proofs.SlicesAndCounts.{slice_get-append_left, slice_get-append_right, slice_get-drop, slice_get-take}
use Rattle.journal.specs.declared.event.Kind.TheVariants.{Load, Store}
use Rattle.cluster.specs.Copies.Local.{Local}
use Rattle.seats.specs.GridPairs.{AreFullGridPairs, AreSharedGridPairs, GridPairSteps, GridPairsLaw, grid_pair_block_end, grid_pair_block_start, grid_pair_at, grid_pair_made, grid_pair_next, grid_pair_read, grid_pair_rounds, grid_pair_after, is_even, grid_pair_steps}
use Rattle.seats.specs.Loads.{LoadsValue}
use Rattle.seats.specs.Rounds.{AreRoundsFull, IsMaking, rounds_after}
use Rattle.seats.specs.SeatCalls.{AccessesPage}
use Rattle.seats.specs.Stencils.{HasStencilLoads}
use Rattle.seats.proofs.Rounds.MakingRounds.{making_round_between_in, making_round_next}
use Rattle.seats.proofs.Rounds.RoundMade.{round_made_long}
use Rattle.seats.proofs.Rounds.RoundHistories.{rounds_law}

-- a cell's word
grid_round_word : (cells from i : ℕ) (memory : List ℕ) → i < cells → slice_get (grid_pair_at cells from memory) i ≡ slice_get memory (from + i)
grid_round_word cells from i memory less = slice_get-take (drop from memory) cells i less ∙ slice_get-drop memory from i

grid_round_long : (cells from : ℕ) (memory : List ℕ) → from + cells ≤ length memory → length (grid_pair_at cells from memory) ≡ cells
grid_round_long cells from memory fits = length-take-le cells (drop from memory) (let rest = length-drop from memory in omega (arith, rest, fits))

-- two lists of as many words
grid_round_front_word : (xs ys : List ℕ) (i : ℕ) → i < length xs → slice_get (xs ++ ys) (0 + i) ≡ slice_get xs i
grid_round_front_word xs ys i less = ap (slice_get (xs ++ ys)) (let e : 0 + i ≡ i = omega arith in e) ∙ slice_get-append_left xs ys i less

grid_round_back_word : (xs ys : List ℕ) (n i : ℕ) → length xs ≡ n → slice_get (xs ++ ys) (n + i) ≡ slice_get ys i
grid_round_back_word xs ys n i is = ap (λ m. slice_get (xs ++ ys) (m + i)) (sym is) ∙ slice_get-append_right xs ys i

-- what a round makes is as long as a grid
grid_round_next_long : (x : GridPairSteps) (n : ℕ) (words : List ℕ) → AreFullGridPairs x → length words ≡ x.cells
    → length (grid_pair_next x n words) ≡ x.cells
grid_round_next_long x zero words full long = full.start
grid_round_next_long x (suc n) words full long = full.step words long

-- the lengths of a memory's grids
record AreGridRoundLengths (x : GridPairSteps) (n : ℕ) (memory : List ℕ) : Type 0 where
  pub first : length (grid_pair_at x.cells 0 memory) ≡ x.cells
  pub second : length (grid_pair_at x.cells x.cells memory) ≡ x.cells
  pub next_of_first : length (grid_pair_next x n (grid_pair_at x.cells 0 memory)) ≡ x.cells
  pub next_of_second : length (grid_pair_next x n (grid_pair_at x.cells x.cells memory)) ≡ x.cells

grid_round_lengths : (x : GridPairSteps) (n : ℕ) (memory : List ℕ) → AreFullGridPairs x → length memory ≡ x.cells + x.cells → AreGridRoundLengths x n memory
grid_round_lengths x n memory full long =
    let first = grid_round_long x.cells 0 memory (omega (arith, long)) in
    let second = grid_round_long x.cells x.cells memory (omega (arith, long)) in
    record {
      first = first;
      second = second;
      next_of_first = grid_round_next_long x n (grid_pair_at x.cells 0 memory) full first;
      next_of_second = grid_round_next_long x n (grid_pair_at x.cells x.cells memory) full second;
    }

-- a round's memory has as many words
grid_round_after_long : (x : GridPairSteps) (n : ℕ) (memory : List ℕ) → AreGridRoundLengths x n memory → length (grid_pair_after x n memory) ≡ x.cells + x.cells
grid_round_after_long x n memory long = by (is_even n) refl
  where
    by : (b : Bool) → is_even n ≡ b → length (grid_pair_after x n memory) ≡ x.cells + x.cells
    by true e = rw e (let all = length-append (grid_pair_next x n (grid_pair_at x.cells x.cells memory)) (grid_pair_at x.cells x.cells memory) in
        let one = long.second in let two = long.next_of_second in omega (arith, all, one, two))
    by false e = rw e (let all = length-append (grid_pair_at x.cells 0 memory) (grid_pair_next x n (grid_pair_at x.cells 0 memory)) in
        let one = long.first in let two = long.next_of_first in omega (arith, all, one, two))

-- the words that it makes
grid_round_word_made : (x : GridPairSteps) (n i : ℕ) (memory : List ℕ) → AreGridRoundLengths x n memory → i < x.cells
    → slice_get (grid_pair_after x n memory) (grid_pair_made x.cells n + i)
    ≡ slice_get (grid_pair_next x n (grid_pair_at x.cells (grid_pair_read x.cells n) memory)) i
grid_round_word_made x n i memory long less = by (is_even n) refl
  where
    by : (b : Bool) → is_even n ≡ b → slice_get (grid_pair_after x n memory) (grid_pair_made x.cells n + i)
        ≡ slice_get (grid_pair_next x n (grid_pair_at x.cells (grid_pair_read x.cells n) memory)) i
    by true e = rw e (grid_round_front_word (grid_pair_next x n (grid_pair_at x.cells x.cells memory)) (grid_pair_at x.cells x.cells memory) i
        (let two = long.next_of_second in omega (arith, two, less)))
    by false e = rw e (grid_round_back_word (grid_pair_at x.cells 0 memory) (grid_pair_next x n (grid_pair_at x.cells 0 memory)) x.cells i long.first)

-- and those that it leaves
grid_round_word_left : (x : GridPairSteps) (n i : ℕ) (memory : List ℕ) → AreGridRoundLengths x n memory → i < x.cells
    → slice_get (grid_pair_after x n memory) (grid_pair_read x.cells n + i) ≡ slice_get memory (grid_pair_read x.cells n + i)
grid_round_word_left x n i memory long less = by (is_even n) refl
  where
    by : (b : Bool) → is_even n ≡ b
        → slice_get (grid_pair_after x n memory) (grid_pair_read x.cells n + i) ≡ slice_get memory (grid_pair_read x.cells n + i)
    by true e = rw e (grid_round_back_word (grid_pair_next x n (grid_pair_at x.cells x.cells memory)) (grid_pair_at x.cells x.cells memory) x.cells i
        long.next_of_second ∙ grid_round_word x.cells x.cells i memory less)
    by false e = rw e (grid_round_front_word (grid_pair_at x.cells 0 memory) (grid_pair_next x n (grid_pair_at x.cells 0 memory)) i
        (let one = long.first in omega (arith, one, less)) ∙ grid_round_word x.cells 0 i memory less)

-- an address is a cell of the one grid or of the other
grid_round_cell : (cells n a : ℕ) → a < cells + cells
    → ((i : ℕ) × (i < cells) × (a ≡ grid_pair_made cells n + i)) ⊎ ((i : ℕ) × (i < cells) × (a ≡ grid_pair_read cells n + i))
grid_round_cell cells n a less = by (is_even n) refl
  where
    by : (b : Bool) → is_even n ≡ b
        → ((i : ℕ) × (i < cells) × (a ≡ grid_pair_made cells n + i)) ⊎ ((i : ℕ) × (i < cells) × (a ≡ grid_pair_read cells n + i))
    by true e = rw e (elim (cases_lt a cells) [
      | inl low ↦ inl (a, low, let i : a ≡ 0 + a = omega arith in i)
      | inr high ↦ inr (a - cells, omega (arith, less, high), omega (arith, high))
    ])
    by false e = rw e (elim (cases_lt a cells) [
      | inl low ↦ inr (a, low, let i : a ≡ 0 + a = omega arith in i)
      | inr high ↦ inl (a - cells, omega (arith, less, high), omega (arith, high))
    ])

-- some processor's block has the cell
grid_round_block : (cells share processors i : ℕ) → i < cells → i < processors * share
    → (p : ℕ) × (p < processors) × (grid_pair_block_start cells share p ≤ i) × (i < grid_pair_block_end cells share p)
grid_round_block cells share zero i less within = absurd (omega arith)
grid_round_block cells share (suc q) i less within = elim (cases_lt i (q * share)) [
  | inl before ↦ (let found = grid_round_block cells share q i less before in (found.0, omega (arith, found.1), found.2, found.3))
  | inr past ↦ (let all = suc-mul q share in (q, omega arith, omega (arith, past), omega (arith, past, less, within, all)))
]

-- each round makes a grid, and leaves the other
pub grid_round_full : (x : GridPairSteps) (processors : ℕ) → AreSharedGridPairs x processors → AreRoundsFull (grid_pair_rounds x) processors
grid_round_full x processors are = record {
  long = λ n memory long. grid_round_after_long x n memory (grid_round_lengths x n memory are.full long);
  each = λ n memory a long less. elim (grid_round_cell x.cells n a less) [
    | inl made ↦ (let shared = are.shared in
        let found = grid_round_block x.cells x.share processors made.0 made.1 (let i = made.1 in omega (arith, i, shared)) in
        let low = found.2 in let high = found.3 in let is = made.2 in
        inl (found.0, found.1, making_round_between_in _ _ a (omega (arith, low, is)) (omega (arith, high, is))))
    | inr left ↦ inr (subst (λ i. slice_get (grid_pair_after x n memory) i ≡ slice_get memory i) (sym left.2)
        (grid_round_word_left x n left.0 memory (grid_round_lengths x n memory are.full long) left.1))
  ];
}

-- the grid that was made in a round is read in the next
grid_round_turn : (x : GridPairSteps) (n : ℕ) (memory : List ℕ) → AreGridRoundLengths x n memory
    → grid_pair_at x.cells (grid_pair_made x.cells n) (grid_pair_after x n memory) ≡ grid_pair_next x n (grid_pair_at x.cells (grid_pair_read x.cells n) memory)
grid_round_turn x n memory long = by (is_even n) refl
  where
    by : (b : Bool) → is_even n ≡ b → grid_pair_at x.cells (grid_pair_made x.cells n) (grid_pair_after x n memory)
        ≡ grid_pair_next x n (grid_pair_at x.cells (grid_pair_read x.cells n) memory)
    by true e =
        let new : List ℕ = grid_pair_next x n (grid_pair_at x.cells x.cells memory) in
        rw e (ap (λ m. take m (new ++ grid_pair_at x.cells x.cells memory)) (sym long.next_of_second) ∙ take-append_seam new (grid_pair_at x.cells x.cells memory))
    by false e =
        let new : List ℕ = grid_pair_next x n (grid_pair_at x.cells 0 memory) in
        rw e (ap (λ m. take x.cells (drop m (grid_pair_at x.cells 0 memory ++ new))) (sym long.first)
        ∙ ap (take x.cells) (drop-append_seam (grid_pair_at x.cells 0 memory) new)
        ∙ ap (λ m. take m new) (sym long.next_of_first) ∙ take-length new)

grid_round_read_next : (cells n : ℕ) → grid_pair_read cells (suc n) ≡ grid_pair_made cells n
grid_round_read_next cells n = by (is_even n) refl
  where
    by : (b : Bool) → is_even n ≡ b → grid_pair_read cells (suc n) ≡ grid_pair_made cells n
    by true e = rw e refl
    by false e = rw e refl

-- after the start and n steps
grid_round_steps : (x : GridPairSteps) (processors n : ℕ) (memory : List ℕ) → AreSharedGridPairs x processors → length memory ≡ x.cells + x.cells
    → grid_pair_at x.cells (grid_pair_made x.cells n) (rounds_after (grid_pair_rounds x) (suc n) memory) ≡ grid_pair_steps x.step n x.start
grid_round_steps x processors zero memory are long = grid_round_turn x 0 memory (grid_round_lengths x 0 memory are.full long)
grid_round_steps x processors (suc n) memory are long =
    let before = rounds_after (grid_pair_rounds x) (suc n) memory in
    grid_round_turn x (suc n) before
    (grid_round_lengths x (suc n) before are.full (round_made_long (grid_pair_rounds x) processors (suc n) memory (grid_round_full x processors are) long))
    ∙ ap x.step (ap (λ from. grid_pair_at x.cells from before) (grid_round_read_next x.cells n) ∙ grid_round_steps x processors n memory are long)

pub grids_law : GridPairsLaw
grids_law x n s g memory h are in_rounds =
    ap (grid_pair_at x.cells (grid_pair_made x.cells n)) (rounds_law (grid_pair_rounds x) (suc n) s g memory h in_rounds)
    ∙ grid_round_steps x s.processors n memory are in_rounds.long

-- a cell that was loaded
grid_round_loads_cell : {m n : Local} {page i v : ℕ} (cells from : ℕ) → i < cells → AccessesPage m n page (Load (from + i) v ∷ [])
    → LoadsValue from (from + cells) (λ memory. slice_index (grid_pair_at cells from memory) i) m n v
grid_round_loads_cell {i = i} {v = v} cells from less done = record {
  loads = Load (from + i) v ∷ [];
  within = ((omega arith, omega (arith, less)), tt);
  deeds_are = done.deeds_are;
  value_is = λ memory answers. get_or_from_slice_get (grid_pair_at cells from memory) i v 0
      (grid_round_word cells from i memory less ∙ answers.0);
}

-- of the grid that a round reads
pub grid_round_loads_read : {m n : Local} {page i v from : ℕ} (cells round : ℕ) → from ≡ grid_pair_read cells round → i < cells
    → AccessesPage m n page (Load (from + i) v ∷ []) → HasStencilLoads cells round (λ words. slice_index words i) m n v
grid_round_loads_read {m} {n} {i = i} {v = v} {from = from} cells round is less done =
    subst (λ a. LoadsValue a (a + cells) (λ memory. slice_index (grid_pair_at cells a memory) i) m n v) is (grid_round_loads_cell cells from less done)

-- where a processor stands in a round
pub record IsAtGridRoundCell (x : GridPairSteps) (first cell : ℕ) : Type 0 where
  pub full : AreFullGridPairs x
  pub begun : first ≤ cell
  pub less : cell < x.cells

-- one cell more that was worked out of the grid that is read
pub grid_round_making_cell : {x : GridPairSteps} {n first cell page v : ℕ} {f : List ℕ → ℕ} {old m c d : Local}
    → IsAtGridRoundCell x first cell
    → IsMaking (grid_pair_rounds x) n (grid_pair_made x.cells n + first) (grid_pair_made x.cells n + cell) old m
    → LoadsValue (grid_pair_read x.cells n) (grid_pair_read x.cells n + x.cells) (λ memory. f (grid_pair_at x.cells (grid_pair_read x.cells n) memory)) m c v
    → AccessesPage c d page (Store (grid_pair_made x.cells n + cell) v ∷ [])
    → ((words : List ℕ) → length words ≡ x.cells → slice_get (grid_pair_next x n words) cell ≡ Some (f words))
    → IsMaking (grid_pair_rounds x) n (grid_pair_made x.cells n + first) (grid_pair_made x.cells n + (cell + 1)) old d
grid_round_making_cell {x} {n} {first} {cell} {page} {v} {f} {old} {m} {c} {d} at was loaded stored next =
    subst (λ i. IsMaking (grid_pair_rounds x) n (grid_pair_made x.cells n + first) i old d)
    (let e : suc (grid_pair_made x.cells n + cell) ≡ grid_pair_made x.cells n + (cell + 1) = omega arith in e)
    (making_round_next was (omega (arith, le), inside, apart) loaded stored value)
  where
    le : first ≤ cell
    le = at.begun

    inside : grid_pair_made x.cells n + cell < x.cells + x.cells
    inside = by (is_even n) refl
      where
        by : (b : Bool) → is_even n ≡ b → grid_pair_made x.cells n + cell < x.cells + x.cells
        by true e = let less = at.less in rw e (omega (arith, less))
        by false e = let less = at.less in rw e (omega (arith, less))

    apart : (grid_pair_read x.cells n + x.cells ≤ grid_pair_made x.cells n + first) ⊎ (grid_pair_made x.cells n + cell ≤ grid_pair_read x.cells n)
    apart = by (is_even n) refl
      where
        by : (b : Bool) → is_even n ≡ b
            → (grid_pair_read x.cells n + x.cells ≤ grid_pair_made x.cells n + first) ⊎ (grid_pair_made x.cells n + cell ≤ grid_pair_read x.cells n)
        by true e = let less = at.less in rw e (inr (omega (arith, less)))
        by false e = rw e (inl (omega arith))

    value : (memory : List ℕ) → length memory ≡ x.cells + x.cells → slice_get (grid_pair_after x n memory) (grid_pair_made x.cells n + cell)
        ≡ Some (f (grid_pair_at x.cells (grid_pair_read x.cells n) memory))
    value memory long =
        let all = grid_round_lengths x n memory at.full long in
        grid_round_word_made x n cell memory all at.less
        ∙ next (grid_pair_at x.cells (grid_pair_read x.cells n) memory) (read_long all)
      where
        read_long : AreGridRoundLengths x n memory → length (grid_pair_at x.cells (grid_pair_read x.cells n) memory) ≡ x.cells
        read_long all = by (is_even n) refl
          where
            by : (b : Bool) → is_even n ≡ b → length (grid_pair_at x.cells (grid_pair_read x.cells n) memory) ≡ x.cells
            by true e = rw e all.second
            by false e = rw e all.first
