-- What a run of a program in rounds comes to.
use Rattle.std.proofs.Common.{ℕ, ◌≡◌, ◌+◌, ◌*◌, ◌<◌, ◌≤◌, List, replicate, suc, ap, subst, ◌∙◌, arith}
use Rattle.std.proofs.lemmas.List.{length-replicate}
use Rattle.journal.specs.declared.event.Kind.{Kind}
use Rattle.journal.specs.Log.{Log}
use Rattle.journal.specs.Sizes.{Sizes, addresses}
use Rattle.seats.specs.GridPairs.{AreSharedGridPairs, grid_pair_at, grid_pair_made}
use Rattle.seats.specs.GuardedRuns.{IsGuardedRun}
use Rattle.seats.specs.ProgramRuns.{IsProgramRun}
use Rattle.seats.specs.Rounds.{AreRoundsFull, HasMadeRounds, IsInRounds, Rounds}
use Rattle.seats.specs.Stencils.{StencilSteps, stencil_after, stencil_grids, stencil_rounds}
use Rattle.seats.specs.Tables.{GuardTables, TablesOpenNothing, guards_of, table_at}
use Rattle.seats.proofs.KeptByPrograms.{kept_by_program_answered, kept_by_program_flat_run}
use Rattle.seats.proofs.Rounds.GridRounds.{grid_round_full, grids_law}
use Rattle.seats.proofs.Rounds.StencilRounds.{stencil_round_full}

-- its processors say that they have made their words in n rounds
pub program_in_rounds : {X : Type 0} {g : GuardTables} {did : ℕ → List Kind → X → Type 0} {s : Sizes} {answers : List X} {j : Log}
    (r : Rounds) (n : ℕ) (ran : IsProgramRun g did s answers j) → TablesOpenNothing g → (0 < s.processors) × (addresses s ≡ r.words)
    → AreRoundsFull r s.processors → ((p : ℕ) (ks : List Kind) (x : X) → did p ks x → HasMadeRounds r p n ks)
    → IsInRounds r n s (guards_of g) (replicate (addresses s) 0) ran.history
program_in_rounds {g = g} {s = s} r n ran closed sizes covered says = record {
  well_formed = ran.faithful.well_formed;
  some = sizes.0;
  keep = ran.kept;
  closed = λ m a. closed (table_at g m) a;
  replays = kept_by_program_flat_run ran closed;
  long = length-replicate (addresses s) 0 ∙ sizes.1;
  covered = covered;
  each = λ p less. (let answer = kept_by_program_answered ran p less in says p _ answer.0 answer.1);
}

-- on two grids whose words are made one by one: the one that was made last is the start after n steps
pub stencil_run : {X : Type 0} {g : GuardTables} {did : ℕ → List Kind → X → Type 0} {s : Sizes} {answers : List X} {memory : List ℕ}
    {j : Log} (x : StencilSteps) (n : ℕ) (run : IsGuardedRun g did s answers memory j)
    → (0 < s.processors) × (addresses s ≡ x.cells + x.cells) × (x.cells ≤ s.processors * x.share)
    → ((p : ℕ) (ks : List Kind) (y : X) → did p ks y → HasMadeRounds (stencil_rounds x) p (n + 1) ks)
    → grid_pair_at x.cells (grid_pair_made x.cells n) memory ≡ stencil_after x n
unfolding stencil_after
stencil_run {g = g} {s = s} x n run sizes says =
    let are : AreSharedGridPairs (stencil_grids x) s.processors = record { full = stencil_round_full x; shared = sizes.2 } in
    ap (grid_pair_at x.cells (grid_pair_made x.cells n)) run.memory_is
    ∙ grids_law (stencil_grids x) n s (guards_of g) (replicate (addresses s) 0) run.ran.history are
    (program_in_rounds (stencil_rounds x) (suc n) run.ran run.closed (sizes.0, sizes.1) (grid_round_full (stencil_grids x) s.processors are)
    (λ p ks y did. subst (λ i. HasMadeRounds (stencil_rounds x) p i ks) (let e : n + 1 ≡ suc n = omega arith in e) (says p ks y did)))
