-- The words that contracts name, passed on from one place. Declares nothing.
pub use Rattle.lrc_sample.specs.SampleAnswers.{SampleAnswers}
pub use Rattle.lrc_sample.specs.SampleOutcomes.{sample_outcome_answers, has_sample_verdict, IsSampleOutcomeOf, sample_outcome_of_end}
pub use Rattle.lrc_sample.specs.SampleReplies.{sample_mark_of, sample_marks_of, sample_replies_but_shown, sample_replies_in_event, sample_replies_by, sample_replies_marked, sample_replies_of, sample_replies_told, sample_section}
pub use Rattle.lrc_sample.specs.Laws.{SampleFirstLaw, SampleRaceFreeLaw}
pub use Rattle.lrc_sample.specs.TallyOrder.{IsTallyOrderByFrequency, IsTallyOrderAsSeen, IsTallyOrderStarted}
pub use Rattle.lrc_sample.specs.SampleRuns.{AreSampleRuns, AreSampleRunsTold, CameBySampleRunSeed, AreSampleRunsInMaking, IsSampleOfRuns, IsSampleRun, IsSampleRunTold, SampleRunShows, sample_runs_came_to, sample_run_schedules}
pub use Rattle.lrc_sample.specs.Tally.{IsTallyShown, IsTallyOfOutcome, TallyCountsOutcomes, tally_counts_of_kind, tally_place_of_seed, tally_times_of, tally_times_of_kind}
pub use Rattle.lrc_sample.specs.SampleText.{sample_text_of_all_replies, sample_text_of_answers, sample_text_of_line, sample_text_of_outcome, sample_text_of_owner, sample_text_of_replies, sample_text_runs, sample_text}
pub use Rattle.lrc_sample.specs.SampleText.{sample_runs_of_verdict, sample_text_of_verdicts, sample_text_of_word}
