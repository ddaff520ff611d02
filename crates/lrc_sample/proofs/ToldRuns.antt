-- Runs that are told, in the order of their seeds.
use Rattle.std.proofs.Common.{◌≤◌, ◌+◌, ℕ, List, [], ◌∷◌, ◌++◌, Option, Some, sym, subst, refl, arith}
use Rattle.lrc_script.specs.Plan.{Plan}
use Rattle.conformance.specs.declared.schedule.DrawnRun.{DrawnRun}
use Rattle.lrc_sample.specs.declared.detail.SampleDetail.{SampleDetail}
use Rattle.lrc_sample.specs.declared.sampled_run.SampledRun.{SampledRun}
use Rattle.lrc_sample.specs.SampleRuns.{AreSampleRunsTold, IsSampleRunTold}

-- those of the seeds before one, and those from it on
pub told_runs_joined : (came : Plan → Option ℕ → DrawnRun → Type 0) (d : SampleDetail) (s : Plan) (from middle to : ℕ) (told rest : List SampledRun)
    → AreSampleRunsTold came d s from middle told → AreSampleRunsTold came d s middle to rest → AreSampleRunsTold came d s from to (told ++ rest)
told_runs_joined came d s from middle to [] rest are left = subst (λ n. AreSampleRunsTold came d s n to rest) (sym are) left
told_runs_joined came d s from middle to (x ∷ told) rest are left =
    (are.0, told_runs_joined came d s (from + 1) middle to told rest are.1 left)

-- one more
pub told_runs_push : (came : Plan → Option ℕ → DrawnRun → Type 0) (d : SampleDetail) (s : Plan) (from seed : ℕ) (told : List SampledRun) (run : SampledRun)
    → AreSampleRunsTold came d s from seed told → IsSampleRunTold came d s (Some seed) run → AreSampleRunsTold came d s from (seed + 1) (told ++ run ∷ [])
told_runs_push came d s from seed told run are one =
    told_runs_joined came d s from seed (seed + 1) told (run ∷ []) are (one, refl)

-- the first seed isn't behind the end
pub told_runs_within : (came : Plan → Option ℕ → DrawnRun → Type 0) (d : SampleDetail) (s : Plan) (from to : ℕ) (told : List SampledRun)
    → AreSampleRunsTold came d s from to told → from ≤ to
told_runs_within came d s from to [] are = omega (arith, are)
told_runs_within came d s from to (x ∷ told) are = omega (arith, told_runs_within came d s (from + 1) to told are.1)
