-- What the program does with a script that is sampled.
use Rattle.std.specs.Prelude.{ℕ, Bool, true, false, cond, List, Option}
use Rattle.std.specs.Io.KnownBytes.{Appends}
use Rattle.lrc_script.specs.Plan.{Plan}
use Rattle.conformance.specs.declared.script_runner.LockChoice.{LockChoice}
use Rattle.conformance.specs.declared.script_runner.LockChoice.TheVariants.{Array, Ticket}
use Rattle.conformance.specs.declared.schedule.DrawnRun.{DrawnRun}
use Rattle.lrc_program.specs.Served.{IsServedScriptRead}
use Rattle.lrc_options.specs.declared.options.OutcomeDetail.{OutcomeDetail}
use Rattle.lrc_options.specs.declared.options.OutcomeDetail.TheVariants as outcomes
use Rattle.lrc_sample.specs.declared.detail.SampleDetail.{SampleDetail}
use Rattle.lrc_sample.specs.declared.detail.SampleDetail.TheVariants as detail
use Rattle.lrc_sample.specs.declared.sampling.Sampled.{Sampled}
use Rattle.lrc_sample.specs.SampleRuns.{IsSampleOfRuns}
use Rattle.lrc_sample.specs.SampleText.{sample_text}
use Rattle.lrc_json.specs.SampledJson.{json_of_sample}

-- the lock that is asked for
abbrev pub sample_command_lock : Bool → LockChoice
sample_command_lock ticket = cond ticket Ticket Array

-- what outcomes tell, by the options
abbrev pub sample_command_detail : OutcomeDetail → SampleDetail
sample_command_detail outcomes.Words = detail.Words
sample_command_detail outcomes.Loads = detail.Loads
sample_command_detail outcomes.All = detail.All

-- the text of what runs came to was written, or that as JSON
abbrev pub IsSampleCommandAnswer : Bool → Option (List ℕ) → Option (List ℕ) → Sampled → Type 0
IsSampleCommandAnswer true old new sampled = Appends old new (json_of_sample sampled)
IsSampleCommandAnswer false old new sampled = Appends old new (sample_text sampled)

-- the script was run so many times, where `came` is what comes by a seed or without one, and what that came to was written in this
-- detail
pub record IsSampleCommandWritten (came : Plan → Option ℕ → DrawnRun → Type 0) (d : SampleDetail) (runs : ℕ) (json : Bool) (script : Plan)
    (old new : Option (List ℕ)) : Type 0 where
  pub sampled : Sampled
  pub tells : IsSampleOfRuns came d script runs sampled
  pub written : IsSampleCommandAnswer json old new sampled

-- so was the script that the source had
pub record IsSampleCommandOnSource (came : Plan → Option ℕ → DrawnRun → Type 0) (d : SampleDetail) (runs : ℕ) (json : Bool)
    (source old new : Option (List ℕ)) : Type 0 where
  pub script : Plan
  pub read : IsServedScriptRead source script
  pub sample : IsSampleCommandWritten came d runs json script old new
