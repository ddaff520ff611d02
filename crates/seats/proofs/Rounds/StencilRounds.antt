-- Two grids whose words are made one by one: what a processor has made, cell by cell and block by block.
use Rattle.std.proofs.Common.{ℕ, ◌≡◌, ◌≢◌, ◌+◌, ◌<◌, ◌≤◌, Result, IfOk, Some, List, [], ◌∷◌, length, slice_get, zero, suc, refl, sym, ap, subst, ◌∙◌, arith}
use Rattle.std.proofs.lemmas.List.FromFn.{get_or-map-range_with_len, length-map-range_with_len}
use Rattle.std.proofs.lemmas.Option.{slice_get-get_or}
use Rattle.journal.specs.declared.event.Kind.TheVariants.{Store, Arrive, Depart}
use Rattle.cluster.specs.Copies.Local.{Local}
use Rattle.seats.specs.GridPairs.{AreFullGridPairs, grid_pair_at, grid_pair_made, grid_pair_next, grid_pair_read}
use Rattle.seats.specs.Rounds.{HasMadeRounds, IsMaking, Rounds}
use Rattle.seats.specs.SeatCalls.{AccessesPage, HasDone}
use Rattle.seats.specs.Sitting.{SittingSeat, new_sitting_processor, seat_deeds}
use Rattle.seats.specs.Stencils.{IsStencilBlockMade, HasStencilLoads, StencilSteps, stencil_grid_of, stencil_grids, stencil_rounds, stencil_word}
use Rattle.seats.proofs.Rounds.GridRounds.{grid_round_making_cell}
use Rattle.seats.proofs.Rounds.MakingRounds.{making_round_loads_none, making_round_done, making_rounds_none}

-- a grid that is told cell by cell
stencil_round_grid_long : (cells : ℕ) (word : ℕ → ℕ) → length (stencil_grid_of cells word) ≡ cells
stencil_round_grid_long cells word = length-map-range_with_len word 0 cells

stencil_round_grid_word : (cells : ℕ) (word : ℕ → ℕ) (i : ℕ) → i < cells → slice_get (stencil_grid_of cells word) i ≡ Some (word i)
stencil_round_grid_word cells word i less =
    slice_get-get_or (stencil_grid_of cells word) i 0 (let all = stencil_round_grid_long cells word in omega (arith, less, all))
    ∙ ap Some (get_or-map-range_with_len word 0 cells i i 0 less (omega arith))

-- is full
pub stencil_round_full : (x : StencilSteps) → AreFullGridPairs (stencil_grids x)
stencil_round_full x = record {
  start = stencil_round_grid_long x.cells x.first;
  step = λ words long. stencil_round_grid_long x.cells (x.next words);
}

-- what a round makes of a cell
stencil_round_cell_word : (x : StencilSteps) (n cell : ℕ) (words : List ℕ) → cell < x.cells
    → slice_get (grid_pair_next (stencil_grids x) n words) cell ≡ Some (stencil_word x n words cell)
stencil_round_cell_word x zero cell words less = stencil_round_grid_word x.cells x.first cell less
stencil_round_cell_word x (suc n) cell words less = stencil_round_grid_word x.cells (x.next words) cell less

-- one cell more
pub stencil_round_cell : (x : StencilSteps) {n first cell page v made : ℕ} {old m c d : Local} → made ≡ grid_pair_made x.cells n
    → (first ≤ cell) × (cell < x.cells)
    → IsMaking (stencil_rounds x) n (grid_pair_made x.cells n + first) (grid_pair_made x.cells n + cell) old m
    → HasStencilLoads x.cells n (λ words. stencil_word x n words cell) m c v → AccessesPage c d page (Store (made + cell) v ∷ [])
    → IsMaking (stencil_rounds x) n (grid_pair_made x.cells n + first) (grid_pair_made x.cells n + (cell + 1)) old d
stencil_round_cell x {n} {cell = cell} {page = page} {v = v} {c = c} {d = d} is at was loaded stored =
    grid_round_making_cell {x = stencil_grids x} {n = n} (record { full = stencil_round_full x; begun = at.0; less = at.1 }) was loaded
    (subst (λ a. AccessesPage c d page (Store (a + cell) v ∷ [])) is stored)
    (λ words long. stencil_round_cell_word x n cell words at.1)

-- in the first round a cell's word hangs on none
pub stencil_round_first : (x : StencilSteps) (n cell v : ℕ) (m : Local) → n ≡ 0 → v ≡ x.first cell
    → HasStencilLoads x.cells n (λ words. stencil_word x n words cell) m m v
stencil_round_first x n cell v m none is =
    let from = grid_pair_read x.cells n in
    making_round_loads_none from (from + x.cells) (λ memory. stencil_word x n (grid_pair_at x.cells from memory) cell) m v
    (λ memory. subst (λ i. stencil_word x i (grid_pair_at x.cells from memory) cell ≡ v) (sym none) (sym is))

-- in each later one on those before
pub stencil_round_later : {E : Type 0} (x : StencilSteps) (n cell : ℕ) (m c : Local) (r : Result ℕ E) → n ≢ 0
    → IfOk r (λ v. HasStencilLoads x.cells n (λ words. x.next words cell) m c v)
    → IfOk r (λ v. HasStencilLoads x.cells n (λ words. stencil_word x n words cell) m c v)
stencil_round_later x zero cell m c r some loaded = absurd (some refl)
stencil_round_later x (suc n) cell m c r some loaded = loaded

-- no round yet
pub rounds_new : (id : SittingSeat) {m : Local} (r : Rounds) (p : ℕ) → m ≡ new_sitting_processor id → HasMadeRounds r p 0 (seat_deeds m)
rounds_new id r p new = subst (λ k. HasMadeRounds r p 0 (seat_deeds k)) (sym new) (making_rounds_none r p)

-- a block is made, and all meet at the barrier
pub block_done : (x : StencilSteps) {n p : ℕ} {a m b : Local} → HasMadeRounds (stencil_rounds x) p n (seat_deeds a)
    → IsStencilBlockMade x n p a m → HasDone m b (Arrive ∷ Depart ∷ []) → HasMadeRounds (stencil_rounds x) p (n + 1) (seat_deeds b)
block_done x {n} {p} {b = b} was made met =
    subst (λ i. HasMadeRounds (stencil_rounds x) p i (seat_deeds b)) (let e : suc n ≡ n + 1 = omega arith in e)
    (making_round_done p was made (λ i. refl) met)
