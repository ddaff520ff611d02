-- What it is that a script's run came to.
use Rattle.std.specs.Prelude.{ℕ, ◌≡◌, Bool, true, false, List, length, not}
use Rattle.lrc_script.specs.Plan.{Plan}
use Rattle.lrc_report.specs.declared.report.Report.{Report}
use Rattle.conformance.specs.declared.ended.Ended.{Ended as HowItEnded}
use Rattle.conformance.specs.declared.ended.Ended.TheVariants.{Halted, Whole}
use Rattle.conformance.specs.OrderedTurns.{IsReportByOrderedTurns, IsStuckByOrderedTurns}
use Rattle.lrc_sample.specs.declared.detail.SampleDetail.{SampleDetail}
use Rattle.lrc_sample.specs.declared.outcome.SampleOutcome.{SampleOutcome}
use Rattle.lrc_sample.specs.declared.outcome.SampleOutcome.TheVariants.{Ended, Stuck}
use Rattle.lrc_sample.specs.declared.outcome.SampleVerdict.{SampleVerdict}
use Rattle.lrc_sample.specs.declared.outcome.SampleVerdict.TheVariants as verdict
use Rattle.lrc_sample.specs.SampleAnswers.{SampleAnswers}
use Rattle.lrc_sample.specs.SampleReplies.{sample_replies_of}

-- the shown words of a report, the replies that its journal has, as far as they are told, and its verdict
abbrev pub sample_outcome_answers : SampleDetail → Plan → Report → SampleAnswers
sample_outcome_answers d s r = record {
  words = r.shown.items;
  replies = sample_replies_of d s (length r.shown.items) s.processors r.journal.events;
  racy = r.racy;
}

-- what a run of the script that ended so came to: its report's answers, or that it is stuck
abbrev pub sample_outcome_of_end : SampleDetail → Plan → HowItEnded → SampleOutcome
sample_outcome_of_end d s (Whole report) = Ended (sample_outcome_answers d s report)
sample_outcome_of_end d s (Halted halt) = Stuck halt.processor

-- the answers are those of a report of the script's run by turns in these orders; or that run gets into a deadlock, of
-- which this is the least processor
abbrev pub IsSampleOutcomeOf : SampleDetail → Plan → (ℕ → List ℕ) → SampleOutcome → Type 0
IsSampleOutcomeOf d s orders (Ended answers) = (r : Report) × (IsReportByOrderedTurns s orders r × (answers ≡ sample_outcome_answers d s r))
IsSampleOutcomeOf d s orders (Stuck processor) = IsStuckByOrderedTurns s orders processor

-- whether an outcome has this verdict
abbrev pub has_sample_verdict : SampleVerdict → SampleOutcome → Bool
has_sample_verdict verdict.RaceFree (Ended answers) = not answers.racy
has_sample_verdict verdict.Racy (Ended answers) = answers.racy
has_sample_verdict verdict.Stuck (Stuck processor) = true
has_sample_verdict _ _ = false
