use Rattle.std.proofs.Common.{sym, ◌∙◌, refl}
use Rattle.std.proofs.lemmas.Bool.{false≢true}
use Rattle.judge.specs.JudgedSizes.{judged_sizes_of}
use Rattle.judge.proofs.SizedJournals.{sized_journal_if_within, sized_journal_within}
use Rattle.judge.proofs.history.History.of_journal.Goals as goal
use Rattle.judge.proofs.history.History.of_journal.Goals.{then-not-are_streamed-via-then-not-are_streamed, then-not-are_streamed-via-else-not-are_streamed+then-not-is_history_within}

pub returns-then-not-are_streamed-clause-fits : goal.returns-then-not-are_streamed-clause-fits
returns-then-not-are_streamed-clause-fits c = (
  λ no. absurd (false≢true no),
  λ fits. elim c.then-not-are_streamed.branch [
    | then-not-are_streamed-via-then-not-are_streamed w ↦ sym w.if-not-are_streamed.true ∙ c.are_streamed.ensures.1 fits.judged
    | then-not-are_streamed-via-else-not-are_streamed+then-not-is_history_within w ↦
        sym w.if-not-is_history_within.true ∙ w.is_history_within.ensures.1
        (sized_journal_within (judged_sizes_of c.args.sizes) c.args.journal.now c.history-events.result.now
        c.history-events.ensures.value fits)
  ],
)

pub returns-clause-fits : goal.returns-clause-fits
returns-clause-fits c = (
  λ _. sized_journal_if_within (judged_sizes_of c.args.sizes) c.args.journal.now c.history-events.result.now
      c.history-events.ensures.value (c.are_streamed.ensures.0 c.if-not-are_streamed.false)
      (c.is_history_within.ensures.0 c.if-not-is_history_within.false),
  λ _. refl,
)
