-- What is promised of samples.
use Rattle.std.specs.Prelude.{ℕ, ◌≡◌, ◌≢◌, ◌<◌, false, List, Some, slice_get, length}
use Rattle.base.specs.InOrderOnce.{Has}
use Rattle.lrc_script.specs.Plan.{Plan}
use Rattle.conformance.specs.FlatRuns.{NeverRacesFlat}
use Rattle.lrc_sample.specs.declared.detail.SampleDetail.{SampleDetail}
use Rattle.lrc_sample.specs.declared.outcome.SampleOutcome.{SampleOutcome}
use Rattle.lrc_sample.specs.declared.outcome.SampleOutcome.TheVariants.{Ended}
use Rattle.lrc_sample.specs.declared.tally.TallyLine.{TallyLine}
use Rattle.lrc_sample.specs.SampleAnswers.{SampleAnswers}
use Rattle.lrc_sample.specs.SampleOutcomes.{IsSampleOutcomeOf}
use Rattle.lrc_sample.specs.Tally.{TallyCountsOutcomes, tally_place_of_seed}

-- some run came to the line's outcome, and the run of its seed was the first
pub record IsFirstBySampleLaw (outcomes : List SampleOutcome) (line : TallyLine) : Type 0 where
  pub some : 0 < line.times
  pub within : tally_place_of_seed line.seed < length outcomes
  pub came : slice_get outcomes (tally_place_of_seed line.seed) ≡ Some line.outcome
  pub first : (i : ℕ) → i < tally_place_of_seed line.seed → slice_get outcomes i ≢ Some line.outcome

-- so does each line of a tally
abbrev pub SampleFirstLaw : Type 0
SampleFirstLaw = (outcomes : List SampleOutcome) (lines : List TallyLine) (line : TallyLine) → TallyCountsOutcomes outcomes lines → Has lines line
    → IsFirstBySampleLaw outcomes line

-- a script that never races on one flat memory has no outcome with a race
abbrev pub SampleRaceFreeLaw : Type 0
SampleRaceFreeLaw = (d : SampleDetail) (s : Plan) (orders : ℕ → List ℕ) (answers : SampleAnswers) → IsSampleOutcomeOf d s orders (Ended answers)
    → NeverRacesFlat s → answers.racy ≡ false
