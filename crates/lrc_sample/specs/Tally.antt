-- Which outcomes came, how often, and where first.
use Rattle.std.specs.Prelude.{ℕ, ◌≡◌, ◌<◌, ◌↔◌, ◌+◌, Bool, cond, List, Option, Some, None, slice_get, length}
use Rattle.std.specs.List.{sum_by}
use Rattle.base.specs.InOrderOnce.{Has, InOrder}
use Rattle.lrc_sample.specs.declared.outcome.SampleOutcome.{SampleOutcome}
use Rattle.lrc_sample.specs.declared.tally.TallyLine.{TallyLine}

-- the run without a seed is the first, and those with the seeds from 0 on follow
abbrev pub tally_place_of_seed : Option ℕ → ℕ
tally_place_of_seed None = 0
tally_place_of_seed (Some seed) = seed + 1

abbrev pub tally_times_of : TallyLine → ℕ
tally_times_of line = line.times

-- how many runs a line counts, if its outcome is of some kind, and whether a run's outcome is
abbrev pub tally_times_of_kind : (SampleOutcome → Bool) → TallyLine → ℕ
tally_times_of_kind is line = cond (is line.outcome) line.times 0

abbrev pub tally_counts_of_kind : (SampleOutcome → Bool) → SampleOutcome → ℕ
tally_counts_of_kind is o = cond (is o) 1 0

-- the line tells how many of the runs came to its outcome, and which did first
pub record IsTallyOfOutcome (outcomes : List SampleOutcome) (line : TallyLine) : Type 0 where
  pub runs : List ℕ
  pub rising : InOrder (λ (i k : ℕ). i < k) runs
  pub exactly : (i : ℕ) → Has runs i ↔ (slice_get outcomes i ≡ Some line.outcome)
  pub times_are : line.times ≡ length runs
  pub first : slice_get runs 0 ≡ Some (tally_place_of_seed line.seed)

-- each outcome that came has one line, and the lines count every run, those of each kind of outcome, too
pub record TallyCountsOutcomes (outcomes : List SampleOutcome) (lines : List TallyLine) : Type 0 where
  pub each : (line : TallyLine) → Has lines line → IsTallyOfOutcome outcomes line
  pub once : (i k : ℕ) (a b : TallyLine) → slice_get lines i ≡ Some a → slice_get lines k ≡ Some b
      → a.outcome ≡ b.outcome → i ≡ k
  pub all : (o : SampleOutcome) → Has outcomes o → (line : TallyLine) × (Has lines line × (line.outcome ≡ o))
  pub sum : sum_by tally_times_of lines ≡ length outcomes
  pub kinds : (is : SampleOutcome → Bool) → sum_by (tally_times_of_kind is) lines ≡ sum_by (tally_counts_of_kind is) outcomes

-- each line's schedule is that of the run that it tells
abbrev pub IsTallyShown : List (List ℕ) → List TallyLine → Type 0
IsTallyShown schedules lines = (line : TallyLine) → Has lines line
    → slice_get schedules (tally_place_of_seed line.seed) ≡ Some line.schedule.turns.items
