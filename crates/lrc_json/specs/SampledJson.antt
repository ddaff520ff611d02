-- What a script's runs came to, as JSON.
use Rattle.std.specs.Prelude.{ℕ, Option, Some, None, List, [], ◌∷◌, ◌++◌, codes, cond, flat_map, if◌then◌else◌, length, map, ◌==◌}
use Rattle.serde_json.specs.Data.{Data, Members, no_members, object, put, string}
use Rattle.conformance.specs.ScheduleTexts.{schedule_text}
use Rattle.lrc_sample.specs.declared.outcome.Reply.{Reply}
use Rattle.lrc_sample.specs.declared.outcome.SampleOutcome.{SampleOutcome}
use Rattle.lrc_sample.specs.declared.outcome.SampleOutcome.TheVariants.{Ended, Stuck}
use Rattle.lrc_sample.specs.declared.outcome.SampleVerdict.TheVariants as verdict
use Rattle.lrc_sample.specs.declared.sampling.Sampled.{Sampled}
use Rattle.lrc_sample.specs.declared.tally.TallyLine.{TallyLine}
use Rattle.lrc_sample.specs.SampleAnswers.{SampleAnswers}
use Rattle.lrc_sample.specs.SampleText.{sample_runs_of_verdict, sample_text_runs}
use Rattle.lrc_json.specs.PutTogether.{json_line, json_list, json_number, json_telling}

-- a shown address with its word
abbrev pub json_word : ℕ × ℕ → Members
json_word x = put (codes "word") (json_number x.1) (put (codes "address") (json_number x.0) no_members)

-- what the loads of p answered, in order
abbrev pub json_replies_by : ℕ → List ℕ → Members
json_replies_by p words = put (codes "words") (json_list (map json_number words)) (put (codes "processor") (json_number p) no_members)

-- the words among the replies that are p's
abbrev pub sampled_words_by : ℕ → List Reply → List ℕ
sampled_words_by p rs = flat_map (λ (r : Reply). cond (r.processor == p) (r.word ∷ []) []) rs

-- who replied, each once if its replies stand together, after one of this processor
abbrev pub sampled_owners : Option ℕ → List Reply → List ℕ
sampled_owners last [] = []
sampled_owners None (r ∷ rs) = r.processor ∷ sampled_owners (Some r.processor) rs
sampled_owners (Some last) (r ∷ rs) = cond (r.processor == last) [] (r.processor ∷ []) ++ sampled_owners (Some r.processor) rs

-- what p's loads answered, of all these replies
abbrev pub json_owner : List Reply → ℕ → Data
json_owner rs p = object (json_replies_by p (sampled_words_by p rs))

-- what the loads answered, of each processor that loads
abbrev pub json_replies : List Reply → List Data
json_replies rs = map (json_owner rs) (sampled_owners None rs)

-- a run's verdict
abbrev pub sampled_verdict : SampleAnswers → List ℕ
sampled_verdict a = if a.racy then codes "racy" else codes "race-free"

-- what a run that ended answered, put to other members
abbrev pub with_sampled_answers : SampleAnswers → Members → Members
with_sampled_answers a ms =
    put (codes "replies") (json_list (json_replies a.replies))
    (put (codes "words") (json_list (map (λ x. object (json_word x)) a.words)) (put (codes "verdict") (string (sampled_verdict a)) ms))

-- what a run came to, put to other members
abbrev pub with_sampled_outcome : SampleOutcome → Members → Members
with_sampled_outcome (Ended answers) ms = with_sampled_answers answers ms
with_sampled_outcome (Stuck p) ms = put (codes "processor") (json_number p) (put (codes "verdict") (string (codes "stuck")) ms)

-- a result: how often it came, what it is, and a schedule that shows it
abbrev pub json_sampled_result : TallyLine → Members
json_sampled_result line =
    put (codes "schedule") (string (schedule_text line.schedule.turns.items))
    (with_sampled_outcome line.outcome (put (codes "runs") (json_number line.times) (json_telling (codes "result"))))

-- how many runs and results there were, and how many runs had each verdict
abbrev pub json_sampled_summary : List TallyLine → Members
json_sampled_summary lines =
    put (codes "stuck") (json_number (sample_runs_of_verdict verdict.Stuck lines))
    (put (codes "racy") (json_number (sample_runs_of_verdict verdict.Racy lines))
    (put (codes "race_free") (json_number (sample_runs_of_verdict verdict.RaceFree lines))
    (put (codes "results") (json_number (length lines)) (put (codes "runs") (json_number (sample_text_runs lines)) (json_telling (codes "end"))))))

-- a line for a result
abbrev pub json_result_line : TallyLine → List ℕ
json_result_line line = json_line (json_sampled_result line)

-- a line for each result, and one at the end
abbrev pub json_of_sample : Sampled → List ℕ
json_of_sample s = flat_map json_result_line s.lines.items ++ json_line (json_sampled_summary s.lines.items)
