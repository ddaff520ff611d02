use Rattle.std.proofs.Common.{ℕ, ◌≡◌, [], ◌∷◌, ◌++◌, List, Option, None, Some, ap, subst, sym, ◌∙◌, arith}
use Rattle.std.specs.Prelude.{IfSome}
use Rattle.std.proofs.lemmas.Result.{err_from_is_err_and}
use Rattle.std.proofs.lemmas.Grind.{elements, common_steps}
use Rattle.journal.specs.declared.event.Event.{Event}
use Rattle.lrc_check.specs.Traces.Begun.{trace_begun_line_count, trace_begun_text}
use Rattle.lrc_check.specs.Traces.Labels.{line_without_trace_label, trace_line_label, without_trace_labels}
use Rattle.lrc_check.specs.Traces.TraceLines.{IsTraceLineOfEvent}
use Rattle.lrc_check.proofs.traces.UnlabelledTexts.{unlabelled_text_event_bare}
use Rattle.lrc_check.proofs.traces.LabelLines.{label_lines_clean, label_lines_push}
use Rattle.lrc_check.proofs.traces.Labelling.{labelling_dropped_clean}
use Rattle.lrc_check.proofs.traces.ReadingOn.{reading_on_begins, reading_on_further}
use Rattle.lrc_check.proofs.traces.TraceWalk.{trace_walk_line_among}
use Rattle.lrc_check.proofs.traces.PassedOver.{passed_over_one, passed_over_told}
use Rattle.lrc_check.proofs.traces.Feeding.{feeding_line_fault, feeding_line_kept, feeding_line_passed, feeding_refused_label}
use Rattle.lrc_check.proofs.traces.trace_lines.read_trace_lines.Goals as goal

-- what was read of the line is read of it without its label
read_bare : (line bare : List ℕ) (read : Option (ℕ × Event)) → bare ≡ line_without_trace_label line
    → IfSome read (λ x. IsTraceLineOfEvent line x.0 x.1) → IfSome read (λ x. IsTraceLineOfEvent bare x.0 x.1)
read_bare line bare None is none = tt
read_bare line bare (Some x) is read =
    subst (λ l. IsTraceLineOfEvent l x.0 x.1) (sym (is ∙ unlabelled_text_event_bare line x.0 x.1 read)) read

pub read_trace_line-requires-clause-read : goal.read_trace_line-requires-clause-read
read_trace_line-requires-clause-read c =
    read_bare c.in-Some.line.now _ _ c.split_trace_label_unless_read.ensures.bare c.read_trace_line_at_once-read.ensures

pub returns-in_err-keep_trace_line_label-clause-fault : goal.returns-in_err-keep_trace_line_label-clause-fault
returns-in_err-keep_trace_line_label-clause-fault c =
    let p = err_from_is_err_and c.from_residual.result c.from_residual.ensures.1 in
    rw (p.1, p.2) (λ front h.
    feeding_line_fault _ _ (trace_begun_text front c.loop-line.begun) c.loop-line.rest.now c.in-Some.line.now c.in-Some.after.now _
    c.in-Some.ensures (sym c.if-is_trace_line_passed_over.ensures)
    (feeding_refused_label c.args.gone front c.loop-line.begun (line_without_trace_label c.in-Some.line.now) _
    (c.loop-line.invariant.on.begun front h) (labelling_dropped_clean c.in-Some.line.now c.in-Some.ensures.one_line)
    c.in_err-keep_trace_line_label.ensures.number c.in_err-keep_trace_line_label.ensures.fault)
    (c.loop-line.invariant.text front h))

pub returns-in_err-read_trace_line-clause-fault : goal.returns-in_err-read_trace_line-clause-fault
returns-in_err-read_trace_line-clause-fault c =
    let p = err_from_is_err_and c.from_residual-in_err-read_trace_line.result c.from_residual-in_err-read_trace_line.ensures.1 in
    let fault = rw c.split_trace_label_unless_read.ensures.bare at c.in_err-read_trace_line.ensures.fault in
    rw (p.1, p.2) (λ front h.
    feeding_line_fault _ _ (trace_begun_text front c.loop-line.begun) c.loop-line.rest.now c.in-Some.line.now c.in-Some.after.now _
    c.in-Some.ensures (sym c.if-is_trace_line_passed_over.ensures) (fault front (c.loop-line.invariant.on.begun front h)) (c.loop-line.invariant.text front h))

pub returns-in_err-keep_trace_line_label-clause-read : goal.returns-in_err-keep_trace_line_label-clause-read
returns-in_err-keep_trace_line_label-clause-read c = λ front h more.
    reading_on_begins front c.loop-line.begun _ (without_trace_labels (c.loop-line.rest.now ++ more)) (c.loop-line.invariant.text front h more)

pub returns-in_err-read_trace_line-clause-read : goal.returns-in_err-read_trace_line-clause-read
returns-in_err-read_trace_line-clause-read c = λ front h more.
    let rest = without_trace_labels (c.loop-line.rest.now ++ more) in
    reading_on_begins front c.read_trace_line.new.begun _ rest
    (ap (λ (x : List ℕ). x ++ rest) (c.in_err-read_trace_line.ensures.unread front) ∙ c.loop-line.invariant.text front h more)

pub returns-clause-read : goal.returns-clause-read
returns-clause-read c = λ front h more.
    reading_on_begins front c.loop-line.begun _ (without_trace_labels (c.loop-line.rest.now ++ more)) (c.loop-line.invariant.text front h more)

pub loop-line-preserved-then-is_trace_line_passed_over : goal.loop-line-preserved-then-is_trace_line_passed_over
loop-line-preserved-then-is_trace_line_passed_over c =
    let line = c.in-Some.line.now in
    let after = c.in-Some.after.now in
    let rest = c.loop-line.rest.now in
    let before = c.loop-line.invariant.behind.0 in
    let passed = sym c.if-is_trace_line_passed_over.ensures in
    record {
      on = c.loop-line.invariant.on;
      behind =
          (before ++ (line ++ 10 ∷ []), c.loop-line.invariant.behind.1 ∙ trace_walk_line_among before rest line after c.in-Some.ensures);
      text = λ front h.
          feeding_line_passed line_without_trace_label (trace_begun_text front c.loop-line.begun) rest line after _ c.in-Some.ensures passed
          (c.loop-line.invariant.text front h);
      lines = c.loop-line.invariant.lines;
      labels = feeding_line_passed trace_line_label c.loop-line.labels rest line after _ c.in-Some.ensures passed c.loop-line.invariant.labels;
      passed = passed_over_one c.args.passed.now c.loop-line.passed _ c.args.bytes.now rest line after c.in-Some.ensures passed c.saturating_add.ensures
          c.loop-line.invariant.passed;
    }

pub loop-line-preserved : goal.loop-line-preserved
loop-line-preserved c =
    let line = c.in-Some.line.now in
    let after = c.in-Some.after.now in
    let rest = c.loop-line.rest.now in
    let before = c.loop-line.invariant.behind.0 in
    let text = rw c.split_trace_label_unless_read.ensures.bare at c.in_ok-read_trace_line.ensures.text in
    let kept = rw c.split_trace_label_unless_read.ensures.label at c.in_ok-keep_trace_line_label.ensures.kept in
    let told = sym c.if-is_trace_line_passed_over.ensures in
    record {
      on = reading_on_further c.args.gone c.args.begun.now c.loop-line.begun c.read_trace_line.new.begun c.loop-line.invariant.on c.read_trace_line.ensures.on;
      behind =
          (before ++ (line ++ 10 ∷ []), c.loop-line.invariant.behind.1 ∙ trace_walk_line_among before rest line after c.in-Some.ensures);
      text = λ front h.
          feeding_line_kept line_without_trace_label (trace_begun_text front c.loop-line.begun) (trace_begun_text front c.read_trace_line.new.begun)
          rest line after _ c.in-Some.ensures told (text front (c.loop-line.invariant.on.begun front h)) (c.loop-line.invariant.text front h);
      lines = λ n h.
          label_lines_push n (trace_begun_line_count c.loop-line.begun) _ c.loop-line.labels _ (trace_line_label line)
          (c.loop-line.invariant.lines n h) (label_lines_clean line c.in-Some.ensures.one_line) kept c.in_ok-read_trace_line.ensures.count;
      labels =
          feeding_line_kept trace_line_label c.loop-line.labels c.keep_trace_line_label.new.labels rest line after _ c.in-Some.ensures told kept
          c.loop-line.invariant.labels;
      passed = passed_over_told c.args.passed.now c.loop-line.passed c.args.bytes.now rest line after c.in-Some.ensures told c.loop-line.invariant.passed;
    }

pub returns-in_err-keep_trace_line_label-clause-refused : goal.returns-in_err-keep_trace_line_label-clause-refused
returns-in_err-keep_trace_line_label-clause-refused c =
    let p = err_from_is_err_and c.from_residual.result c.from_residual.ensures.1 in
    rw p.1 record {
      left = c.loop-line.rest.now;
      line = record {
        line = c.in-Some.line.now;
        after = c.in-Some.after.now;
        cut = c.in-Some.ensures;
        told = sym c.if-is_trace_line_passed_over.ensures;
      };
      text = c.loop-line.invariant.text;
      over = c.loop-line.invariant.passed;
    }

pub returns-in_err-read_trace_line-clause-refused : goal.returns-in_err-read_trace_line-clause-refused
returns-in_err-read_trace_line-clause-refused c =
    let p = err_from_is_err_and c.from_residual-in_err-read_trace_line.result c.from_residual-in_err-read_trace_line.ensures.1 in
    rw p.1 record {
      left = c.loop-line.rest.now;
      line = record {
        line = c.in-Some.line.now;
        after = c.in-Some.after.now;
        cut = c.in-Some.ensures;
        told = sym c.if-is_trace_line_passed_over.ensures;
      };
      text = λ front h more.
          ap (λ (x : List ℕ). x ++ without_trace_labels (c.loop-line.rest.now ++ more)) (c.in_err-read_trace_line.ensures.unread front)
          ∙ c.loop-line.invariant.text front h more;
      over = c.loop-line.invariant.passed;
    }

pub loop-line-smaller : goal.loop-line-smaller
loop-line-smaller c = grind (arith, elements)

pub loop-line-smaller-then-is_trace_line_passed_over : goal.loop-line-smaller-then-is_trace_line_passed_over
loop-line-smaller-then-is_trace_line_passed_over c = grind (arith, elements)

pub read_trace_line-requires-clause-one_line : goal.read_trace_line-requires-clause-one_line
read_trace_line-requires-clause-one_line c = grind (arith, elements)

pub returns-in_err-read_trace_line-clause-on : goal.returns-in_err-read_trace_line-clause-on
returns-in_err-read_trace_line-clause-on c = grind (arith, common_steps)
