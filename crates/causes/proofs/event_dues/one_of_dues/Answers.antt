use Rattle.std.proofs.Common.{◌∙◌}
use Rattle.causes.proofs.DueSpans.{due_span_none_between, due_span_none_counted}
use Rattle.causes.proofs.event_dues.one_of_dues.Goals as goal
use Rattle.causes.proofs.event_dues.one_of_dues.Goals.{then-writer-span-via-then-writer-span, then-writer-span-via-else-writer-span+then-span-writer}

pub returns-then-writer-span : goal.returns-then-writer-span
returns-then-writer-span c = λ j tells x y page writer.
    elim c.then-writer-span.branch [
      | then-writer-span-via-then-writer-span w ↦ y.apart (writer ∙ w.if-writer-span.true)
      | then-writer-span-via-else-writer-span+then-span-writer w ↦
          due_span_none_between c.args.writer y writer w.if-span-writer.true
    ]

pub returns-then-records-eq0 : goal.returns-then-records-eq0
returns-then-records-eq0 c = λ j tells x y page writer.
    due_span_none_counted c.args.page c.args.writer c.records-records.result y page writer (c.records-records.ensures j tells)
    c.if-records-eq0.true
