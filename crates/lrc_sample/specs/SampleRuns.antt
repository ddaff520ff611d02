-- What the runs of a script came to.
use Rattle.std.specs.Prelude.{ℕ, ◌≡◌, ◌+◌, List, [], ◌∷◌, map, Option, Some, None, Result, Ok, length, slice_get}
use Rattle.base.specs.InOrderOnce.{Has}
use Rattle.lrc_script.specs.Plan.{Plan}
use Rattle.conformance.specs.declared.cause.RunFault.{RunFault}
use Rattle.conformance.specs.declared.ended.Ended.{Ended}
use Rattle.conformance.specs.declared.script_runner.LockChoice.{LockChoice}
use Rattle.conformance.specs.declared.schedule.DrawnRun.{DrawnRun}
use Rattle.conformance.specs.declared.schedule.ScheduleFault.{ScheduleFault}
use Rattle.conformance.specs.OrderedTurns.{IsEndByOrderedTurns}
use Rattle.conformance.specs.ScheduleTexts.{schedule_orders}
use Rattle.lrc_sample.specs.declared.detail.SampleDetail.{SampleDetail}
use Rattle.lrc_sample.specs.declared.outcome.SampleOutcome.{SampleOutcome}
use Rattle.lrc_sample.specs.declared.sampled_run.SampledRun.{SampledRun}
use Rattle.lrc_sample.specs.declared.tally.TallyLine.{TallyLine}
use Rattle.lrc_sample.specs.declared.sampling.Sampled.{Sampled}
use Rattle.lrc_sample.specs.TallyOrder.{IsTallyOrderByFrequency, IsTallyOrderStarted}
use Rattle.lrc_sample.specs.SampleOutcomes.{IsSampleOutcomeOf, sample_outcome_of_end}
use Rattle.lrc_sample.specs.Tally.{IsTallyShown, TallyCountsOutcomes, tally_place_of_seed}

-- it is what the script's run by this schedule comes to
abbrev pub SampleRunShows : SampleDetail → Plan → List ℕ → SampleOutcome → Type 0
SampleRunShows d s turns o = IsSampleOutcomeOf d s (schedule_orders s turns) o

-- this came of the script with this lock by the turns that the seed draws, or without one in rounds by rising number;
-- `followed` and `drawn` are what comes by a schedule and by a seed
abbrev pub CameBySampleRunSeed : (Plan → LockChoice → List ℕ → Result Ended ScheduleFault → Type 0)
    → (Plan → LockChoice → ℕ → Result DrawnRun RunFault → Type 0) → LockChoice → Plan → Option ℕ → DrawnRun → Type 0
CameBySampleRunSeed followed drawn lock s None run = (run.schedule.turns.items ≡ []) × followed s lock [] (Ok run.ended)
CameBySampleRunSeed followed drawn lock s (Some seed) run = drawn s lock seed (Ok run)

-- it came by this seed, or without one, and it is the script's run by its schedule
pub record IsSampleRun (came : Plan → Option ℕ → DrawnRun → Type 0) (s : Plan) (seed : Option ℕ) (run : DrawnRun)
    : Type 0 where
  pub came_by : came s seed run
  pub by_turns : IsEndByOrderedTurns s (schedule_orders s run.schedule.turns.items) run.ended

-- so many runs: one without a seed, and then one by each seed from 0 on
pub record AreSampleRuns (came : Plan → Option ℕ → DrawnRun → Type 0) (s : Plan) (count : ℕ) (runs : List DrawnRun)
    : Type 0 where
  pub many : length runs ≡ count
  pub each : (seed : Option ℕ) (run : DrawnRun) → slice_get runs (tally_place_of_seed seed) ≡ Some run → IsSampleRun came s seed run

-- it tells what a run by this seed, or without one, came to in this detail, and by which turns
pub record IsSampleRunTold (came : Plan → Option ℕ → DrawnRun → Type 0) (d : SampleDetail) (s : Plan) (seed : Option ℕ) (told : SampledRun)
    : Type 0 where
  pub run : DrawnRun
  pub is : IsSampleRun came s seed run
  pub outcome : told.outcome ≡ sample_outcome_of_end d s run.ended
  pub schedule : told.schedule.turns.items ≡ run.schedule.turns.items

-- they tell of a run by each seed from this one on and less than that, in order
abbrev pub AreSampleRunsTold : (Plan → Option ℕ → DrawnRun → Type 0) → SampleDetail → Plan → ℕ → ℕ → List SampledRun → Type 0
AreSampleRunsTold came d s from to [] = from ≡ to
AreSampleRunsTold came d s from to (told ∷ rest) = IsSampleRunTold came d s (Some from) told × AreSampleRunsTold came d s (from + 1) to rest

-- what the runs came to, in this detail
abbrev pub sample_runs_came_to : SampleDetail → Plan → List DrawnRun → List SampleOutcome
sample_runs_came_to d s runs = map (λ (run : DrawnRun). sample_outcome_of_end d s run.ended) runs

-- and by which schedules
abbrev pub sample_run_schedules : List DrawnRun → List (List ℕ)
sample_run_schedules runs = map (λ (run : DrawnRun). run.schedule.turns.items) runs

-- the lines as they are made, after so many runs
pub record AreSampleRunsInMaking (came : Plan → Option ℕ → DrawnRun → Type 0) (d : SampleDetail) (s : Plan) (count : ℕ) (lines : List TallyLine)
    : Type 0 where
  pub runs : List DrawnRun
  pub are : AreSampleRuns came s count runs
  pub noted : IsTallyOrderStarted (sample_runs_came_to d s runs) lines
  pub shown : IsTallyShown (sample_run_schedules runs) lines

-- the script was run so many times, and the lines tell what the runs came to in this detail, how often and where first, and the schedule of
-- that run, which shows it
pub record IsSampleOfRuns (came : Plan → Option ℕ → DrawnRun → Type 0) (d : SampleDetail) (s : Plan) (count : ℕ) (sampled : Sampled)
    : Type 0 where
  pub runs : List DrawnRun
  pub are : AreSampleRuns came s count runs
  pub tally : TallyCountsOutcomes (sample_runs_came_to d s runs) sampled.lines.items
  pub shown : IsTallyShown (sample_run_schedules runs) sampled.lines.items
  pub shows : (line : TallyLine) → Has sampled.lines.items line → SampleRunShows d s line.schedule.turns.items line.outcome
  pub order : IsTallyOrderByFrequency sampled.lines.items
