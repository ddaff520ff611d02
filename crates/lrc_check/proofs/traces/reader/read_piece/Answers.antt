use Rattle.std.proofs.Common.{ap, sym, subst, ◌∙◌, ◌++◌, ◌∷◌, [], List, ℕ, arith}
use Rattle.std.proofs.lemmas.Result.{err_from_is_err_and, on_ok_weaker}
use Rattle.std.proofs.lemmas.Grind.{common_steps}
use Rattle.lrc_check.specs.Traces.Begun.{trace_begun_text}
use Rattle.lrc_check.specs.Traces.RefusedLines.{IsLineRefused}
use Rattle.lrc_check.specs.Traces.Labels.{ArePassedOver, without_trace_labels, line_without_trace_label, trace_labels_of, trace_line_label}
use Rattle.lrc_check.proofs.traces.PassedOver.{line_refused_behind, line_refused_further, passed_over_further, passed_over_piece}
use Rattle.lrc_check.proofs.traces.Feeding.{feeding_fault_same, feeding_line_read, feeding_piece_bytes}
use Rattle.lrc_check.proofs.traces.ReadingOn.{reading_on_begins_same}
use Rattle.lrc_check.proofs.traces.TraceWalk.{trace_walk_nothing_behind}
use Rattle.lrc_check.proofs.traces.reader.read_piece.Goals as goal

pub returns-in_err-read_trace_lines-clause-read : goal.returns-in_err-read_trace_lines-clause-read
returns-in_err-read_trace_lines-clause-read c =
    let read = rw (c.deref.ensures.value, c.in_ok-keep-2.ensures.kept, c.in_ok-keep.ensures.kept) at c.read_trace_lines.ensures.read in
    λ front h more.
    reading_on_begins_same front c.read_trace_lines.new.begun _ _
    (ap (λ (x : List ℕ). trace_begun_text front c.args.begun.now ++ without_trace_labels x)
    (feeding_piece_bytes c.args.unfinished.now.items c.in-Some.end.now c.in-Some.behind.now c.args.piece.now more c.in-Some.ensures))
    (read front h (c.in-Some.behind.now ++ more))

pub returns-in_err-rest-clause-read : goal.returns-in_err-rest-clause-read
returns-in_err-rest-clause-read c =
    let text = rw (c.deref.ensures.value, c.in_ok-keep-2.ensures.kept, c.in_ok-keep.ensures.kept)
    at c.in_ok-read_trace_lines.ensures.text in
    let before = rw (c.deref.ensures.value, c.in_ok-keep-2.ensures.kept, c.in_ok-keep.ensures.kept)
    at c.in_ok-read_trace_lines.ensures.behind in
    let kept = c.args.unfinished.now.items in
    let end = c.in-Some.end.now in
    let none = trace_walk_nothing_behind before.0 (kept ++ end) c.in_ok-read_trace_lines.field-0.now c.in_ok-read_trace_lines.ensures.rest (sym before.1) in
    λ front h more.
    reading_on_begins_same front c.read_trace_lines-2.new.begun _ _
    (feeding_line_read line_without_trace_label (trace_begun_text front c.args.begun.now) (trace_begun_text front c.read_trace_lines.new.begun)
    c.in_ok-read_trace_lines.field-0.now kept end c.in-Some.behind.now c.args.piece.now none c.in-Some.ensures (text front h) more)
    (c.read_trace_lines-2.ensures.read front (c.read_trace_lines.ensures.on.begun front h) more)

pub returns-clause-read : goal.returns-clause-read
returns-clause-read c =
    let text = rw (c.deref.ensures.value, c.in_ok-keep-2.ensures.kept, c.in_ok-keep.ensures.kept)
    at c.in_ok-read_trace_lines.ensures.text in
    let before = rw (c.deref.ensures.value, c.in_ok-keep-2.ensures.kept, c.in_ok-keep.ensures.kept)
    at c.in_ok-read_trace_lines.ensures.behind in
    let kept = c.args.unfinished.now.items in
    let end = c.in-Some.end.now in
    let none = trace_walk_nothing_behind before.0 (kept ++ end) c.in_ok-read_trace_lines.field-0.now c.in_ok-read_trace_lines.ensures.rest (sym before.1) in
    λ front h more.
    reading_on_begins_same front c.read_trace_lines-2.new.begun _ _
    (feeding_line_read line_without_trace_label (trace_begun_text front c.args.begun.now) (trace_begun_text front c.read_trace_lines.new.begun)
    c.in_ok-read_trace_lines.field-0.now kept end c.in-Some.behind.now c.args.piece.now none c.in-Some.ensures (text front h) more)
    (c.read_trace_lines-2.ensures.read front (c.read_trace_lines.ensures.on.begun front h) more)

pub returns-in_err-read_trace_lines-clause-fault : goal.returns-in_err-read_trace_lines-clause-fault
returns-in_err-read_trace_lines-clause-fault c =
    let p = err_from_is_err_and c.from_residual-in_err-read_trace_lines.result c.from_residual-in_err-read_trace_lines.ensures.1 in
    let fault = rw (c.deref.ensures.value, c.in_ok-keep-2.ensures.kept, c.in_ok-keep.ensures.kept)
    at c.in_err-read_trace_lines.ensures.fault in
    rw (p.1, p.2) (λ ne front h more.
    feeding_fault_same c.in_err-read_trace_lines.field-0.0 _ _
    (ap (λ (x : List ℕ). trace_begun_text front c.args.begun.now ++ without_trace_labels x)
    (feeding_piece_bytes c.args.unfinished.now.items c.in-Some.end.now c.in-Some.behind.now c.args.piece.now more c.in-Some.ensures))
    (fault front h (c.in-Some.behind.now ++ more)))

pub returns-in_err-rest-clause-fault : goal.returns-in_err-rest-clause-fault
returns-in_err-rest-clause-fault c =
    let p = err_from_is_err_and c.from_residual-in_err-rest.result c.from_residual-in_err-rest.ensures.1 in
    let text = rw (c.deref.ensures.value, c.in_ok-keep-2.ensures.kept, c.in_ok-keep.ensures.kept)
    at c.in_ok-read_trace_lines.ensures.text in
    let before = rw (c.deref.ensures.value, c.in_ok-keep-2.ensures.kept, c.in_ok-keep.ensures.kept)
    at c.in_ok-read_trace_lines.ensures.behind in
    let kept = c.args.unfinished.now.items in
    let end = c.in-Some.end.now in
    let none = trace_walk_nothing_behind before.0 (kept ++ end) c.in_ok-read_trace_lines.field-0.now c.in_ok-read_trace_lines.ensures.rest (sym before.1) in
    rw (p.1, p.2) (λ ne front h more.
    feeding_fault_same c.in_err-rest.field-0.0 _ _
    (feeding_line_read line_without_trace_label (trace_begun_text front c.args.begun.now) (trace_begun_text front c.read_trace_lines.new.begun)
    c.in_ok-read_trace_lines.field-0.now kept end c.in-Some.behind.now c.args.piece.now none c.in-Some.ensures (text front h) more)
    (c.in_err-rest.ensures.fault front (c.read_trace_lines.ensures.on.begun front h) more))

pub returns-clause-text : goal.returns-clause-text
returns-clause-text c =
    let text = rw (c.deref.ensures.value, c.in_ok-keep-2.ensures.kept, c.in_ok-keep.ensures.kept)
    at c.in_ok-read_trace_lines.ensures.text in
    let before = rw (c.deref.ensures.value, c.in_ok-keep-2.ensures.kept, c.in_ok-keep.ensures.kept)
    at c.in_ok-read_trace_lines.ensures.behind in
    let kept = c.args.unfinished.now.items in
    let end = c.in-Some.end.now in
    let none = trace_walk_nothing_behind before.0 (kept ++ end) c.in_ok-read_trace_lines.field-0.now c.in_ok-read_trace_lines.ensures.rest (sym before.1) in
    on_ok_weaker c.keep-4.result (λ now front h more.
    ap (λ (x : List ℕ). trace_begun_text front c.read_trace_lines-2.new.begun ++ without_trace_labels (x ++ more))
    (now ∙ ap (λ (x : List ℕ). x ++ c.in_ok-rest.rest.now) c.clear.ensures.items)
    ∙ c.in_ok-rest.ensures.text front (c.read_trace_lines.ensures.on.begun front h) more
    ∙ feeding_line_read line_without_trace_label (trace_begun_text front c.args.begun.now) (trace_begun_text front c.read_trace_lines.new.begun)
    c.in_ok-read_trace_lines.field-0.now kept end c.in-Some.behind.now c.args.piece.now none c.in-Some.ensures (text front h) more)
    c.keep-4.ensures.kept

pub returns-clause-labels : goal.returns-clause-labels
returns-clause-labels c =
    let labels = rw (c.deref.ensures.value, c.in_ok-keep-2.ensures.kept, c.in_ok-keep.ensures.kept)
    at c.in_ok-read_trace_lines.ensures.labels in
    let before = rw (c.deref.ensures.value, c.in_ok-keep-2.ensures.kept, c.in_ok-keep.ensures.kept)
    at c.in_ok-read_trace_lines.ensures.behind in
    let kept = c.args.unfinished.now.items in
    let end = c.in-Some.end.now in
    let none = trace_walk_nothing_behind before.0 (kept ++ end) c.in_ok-read_trace_lines.field-0.now c.in_ok-read_trace_lines.ensures.rest (sym before.1) in
    on_ok_weaker c.keep-4.result (λ now more.
    ap (λ (x : List ℕ). c.read_trace_lines-2.new.labels ++ trace_labels_of (x ++ more))
    (now ∙ ap (λ (x : List ℕ). x ++ c.in_ok-rest.rest.now) c.clear.ensures.items)
    ∙ c.in_ok-rest.ensures.labels more
    ∙ feeding_line_read trace_line_label c.args.labels.now c.read_trace_lines.new.labels c.in_ok-read_trace_lines.field-0.now kept
    end c.in-Some.behind.now c.args.piece.now none c.in-Some.ensures labels more)
    c.keep-4.ensures.kept

pub returns-in_err-read_trace_lines-clause-refused : goal.returns-in_err-read_trace_lines-clause-refused
returns-in_err-read_trace_lines-clause-refused c =
    let p = err_from_is_err_and c.from_residual-in_err-read_trace_lines.result c.from_residual-in_err-read_trace_lines.ensures.1 in
    let refused = rw (c.deref.ensures.value, c.in_ok-keep-2.ensures.kept, c.in_ok-keep.ensures.kept)
    at c.in_err-read_trace_lines.ensures.refused in
    let kept = c.args.unfinished.now.items in
    let end = c.in-Some.end.now in
    let behind = c.in-Some.behind.now in
    rw (p.1, p.2) (λ ne.
    subst (λ (x : List ℕ). IsLineRefused c.args.gone c.args.begun.now c.read_trace_lines.new.begun x c.args.passed.now c.read_trace_lines.new.passed)
    (passed_over_piece kept end behind c.args.piece.now c.in-Some.ensures)
    (line_refused_behind c.args.gone c.args.begun.now c.read_trace_lines.new.begun ((kept ++ end) ++ 10 ∷ []) behind c.args.passed.now
    c.read_trace_lines.new.passed refused))

pub returns-in_err-rest-clause-refused : goal.returns-in_err-rest-clause-refused
returns-in_err-rest-clause-refused c =
    let p = err_from_is_err_and c.from_residual-in_err-rest.result c.from_residual-in_err-rest.ensures.1 in
    let text = rw (c.deref.ensures.value, c.in_ok-keep-2.ensures.kept, c.in_ok-keep.ensures.kept)
    at c.in_ok-read_trace_lines.ensures.text in
    let before = rw (c.deref.ensures.value, c.in_ok-keep-2.ensures.kept, c.in_ok-keep.ensures.kept)
    at c.in_ok-read_trace_lines.ensures.behind in
    let over = rw (c.deref.ensures.value, c.in_ok-keep-2.ensures.kept, c.in_ok-keep.ensures.kept)
    at c.in_ok-read_trace_lines.ensures.passed in
    let kept = c.args.unfinished.now.items in
    let end = c.in-Some.end.now in
    let behind = c.in-Some.behind.now in
    let none = trace_walk_nothing_behind before.0 (kept ++ end) c.in_ok-read_trace_lines.field-0.now c.in_ok-read_trace_lines.ensures.rest (sym before.1) in
    rw (p.1, p.2) (λ ne.
    subst (λ (x : List ℕ). IsLineRefused c.args.gone c.args.begun.now c.read_trace_lines-2.new.begun x c.args.passed.now c.read_trace_lines-2.new.passed)
    (passed_over_piece kept end behind c.args.piece.now c.in-Some.ensures)
    (line_refused_further c.args.gone c.args.begun.now c.read_trace_lines.new.begun c.read_trace_lines-2.new.begun ((kept ++ end) ++ 10 ∷ [])
    c.in_ok-read_trace_lines.field-0.now behind c.args.passed.now c.read_trace_lines.new.passed c.read_trace_lines-2.new.passed none
    c.read_trace_lines.ensures.on.begun text over c.in_err-rest.ensures.refused))

pub returns-clause-passed : goal.returns-clause-passed
returns-clause-passed c =
    let before = rw (c.deref.ensures.value, c.in_ok-keep-2.ensures.kept, c.in_ok-keep.ensures.kept)
    at c.in_ok-read_trace_lines.ensures.behind in
    let over = rw (c.deref.ensures.value, c.in_ok-keep-2.ensures.kept, c.in_ok-keep.ensures.kept)
    at c.in_ok-read_trace_lines.ensures.passed in
    let kept = c.args.unfinished.now.items in
    let end = c.in-Some.end.now in
    let behind = c.in-Some.behind.now in
    let none = trace_walk_nothing_behind before.0 (kept ++ end) c.in_ok-read_trace_lines.field-0.now c.in_ok-read_trace_lines.ensures.rest (sym before.1) in
    on_ok_weaker c.keep-4.result (λ now.
    subst (λ (x : List ℕ). ArePassedOver c.args.passed.now x c.read_trace_lines-2.new.passed c.keep-4.new.unfinished.items)
    (passed_over_piece kept end behind c.args.piece.now c.in-Some.ensures)
    (subst (λ (x : List ℕ). ArePassedOver c.args.passed.now (((kept ++ end) ++ 10 ∷ []) ++ behind) c.read_trace_lines-2.new.passed x)
    (sym (now ∙ ap (λ (x : List ℕ). x ++ c.in_ok-rest.rest.now) c.clear.ensures.items))
    (passed_over_further c.args.passed.now c.read_trace_lines.new.passed c.read_trace_lines-2.new.passed ((kept ++ end) ++ 10 ∷ []) [] behind
    c.in_ok-rest.rest.now (subst (ArePassedOver c.args.passed.now ((kept ++ end) ++ 10 ∷ []) c.read_trace_lines.new.passed) none over)
    c.in_ok-rest.ensures.passed)))
    c.keep-4.ensures.kept

pub returns-clause-on : goal.returns-clause-on
returns-clause-on c = grind (arith, common_steps)

pub returns-in_default-clause-labels : goal.returns-in_default-clause-labels
returns-in_default-clause-labels c = grind (arith, common_steps)

pub returns-in_default-clause-text : goal.returns-in_default-clause-text
returns-in_default-clause-text c = grind (arith, common_steps)

pub returns-in_default-clause-unfinished : goal.returns-in_default-clause-unfinished
returns-in_default-clause-unfinished c = grind (arith, common_steps)

pub returns-in_err-rest-clause-on : goal.returns-in_err-rest-clause-on
returns-in_err-rest-clause-on c = grind (arith, common_steps)
