-- The text of a sample.
use Rattle.std.specs.Prelude.{ℕ, ◌==◌, ◌-◌, ◌^◌, List, [], ◌∷◌, ◌++◌, Option, Some, None, if◌then◌else◌, codes, min}
use Rattle.std.specs.Fmt.{decimal}
use Rattle.std.specs.List.{flat_map, sum_by}
use Rattle.lrc_sample.specs.declared.outcome.SampleOutcome.{SampleOutcome}
use Rattle.lrc_sample.specs.declared.outcome.SampleOutcome.TheVariants.{Ended, Stuck}
use Rattle.lrc_sample.specs.declared.outcome.Reply.{Reply}
use Rattle.lrc_sample.specs.declared.outcome.SampleVerdict.{SampleVerdict}
use Rattle.lrc_sample.specs.declared.outcome.SampleVerdict.TheVariants as verdict
use Rattle.lrc_sample.specs.declared.sampling.Sampled.{Sampled}
use Rattle.lrc_sample.specs.declared.tally.TallyLine.{TallyLine}
use Rattle.conformance.specs.ScheduleTexts.{schedule_text}
use Rattle.lrc_sample.specs.SampleAnswers.{SampleAnswers}
use Rattle.lrc_sample.specs.SampleOutcomes.{has_sample_verdict}
use Rattle.lrc_sample.specs.Tally.{tally_times_of, tally_times_of_kind}

-- a shown address with its last word
abbrev pub sample_text_of_word : ℕ × ℕ → List ℕ
sample_text_of_word x = codes " " ++ (decimal x.0 ++ (codes " " ++ decimal x.1))

-- a processor, where the reply before is another's
abbrev pub sample_text_of_owner : Option ℕ → ℕ → List ℕ
sample_text_of_owner None p = codes " p" ++ decimal p
sample_text_of_owner (Some last) p = if last == p then [] else codes " p" ++ decimal p

-- replies behind one of this processor
abbrev pub sample_text_of_replies : Option ℕ → List Reply → List ℕ
sample_text_of_replies last [] = []
sample_text_of_replies last (r ∷ rs) =
    sample_text_of_owner last r.processor ++ ((codes " " ++ decimal r.word) ++ sample_text_of_replies (Some r.processor) rs)

-- all replies, if there are some
abbrev pub sample_text_of_all_replies : List Reply → List ℕ
sample_text_of_all_replies [] = []
sample_text_of_all_replies (r ∷ rs) = codes " replies" ++ sample_text_of_replies None (r ∷ rs)

-- the verdict, the words and the replies
abbrev pub sample_text_of_answers : SampleAnswers → List ℕ
sample_text_of_answers a =
    (if a.racy then codes "racy words" else codes "race-free words")
    ++ (flat_map sample_text_of_word a.words ++ sample_text_of_all_replies a.replies)

-- what a run came to
abbrev pub sample_text_of_outcome : SampleOutcome → List ℕ
sample_text_of_outcome (Ended answers) = sample_text_of_answers answers
sample_text_of_outcome (Stuck processor) = codes "stuck " ++ decimal processor

-- how often, the outcome, and a schedule that shows it
abbrev pub sample_text_of_line : TallyLine → List ℕ
sample_text_of_line l =
    (codes "result " ++ (decimal l.times ++ codes " "))
    ++ (sample_text_of_outcome l.outcome ++ (codes " schedule " ++ (schedule_text l.schedule.turns.items ++ codes "\n")))

-- how many runs the lines count, as far as 64 bits hold
abbrev pub sample_text_runs : List TallyLine → ℕ
sample_text_runs lines = min (sum_by tally_times_of lines) (2 ^ 64 - 1)

-- how many of them had this verdict
abbrev pub sample_runs_of_verdict : SampleVerdict → List TallyLine → ℕ
sample_runs_of_verdict v lines = min (sum_by (tally_times_of_kind (has_sample_verdict v)) lines) (2 ^ 64 - 1)

-- the same of each verdict
abbrev pub sample_text_of_verdicts : List TallyLine → List ℕ
sample_text_of_verdicts lines =
    codes "verdicts race-free " ++ (decimal (sample_runs_of_verdict verdict.RaceFree lines)
    ++ (codes " racy " ++ (decimal (sample_runs_of_verdict verdict.Racy lines)
    ++ (codes " stuck " ++ (decimal (sample_runs_of_verdict verdict.Stuck lines) ++ codes "\n")))))

-- how many runs there were, how many of each verdict, and each outcome in a line of its own
abbrev pub sample_text : Sampled → List ℕ
sample_text s = (codes "runs " ++ (decimal (sample_text_runs s.lines.items) ++ codes "\n"))
    ++ (sample_text_of_verdicts s.lines.items ++ flat_map sample_text_of_line s.lines.items)
