use Rattle.std.proofs.Common.{◌≡◌, ◌≢◌, List, ℕ, [], ◌++◌, ap, subst, sym, ◌∙◌}
use Rattle.std.proofs.lemmas.Result.{err_from_is_err_and}
use Rattle.lrc_check.specs.declared.traces.fault.TraceFault.TheVariants.{NoMemory, Truncated}
use Rattle.lrc_check.specs.Traces.Begun.{trace_begun_text}
use Rattle.lrc_check.specs.Traces.FedText.{IsFedTextOf, IsFedTextWhole}
use Rattle.lrc_check.specs.Traces.LawfulTraces.{IsNoLawfulTrace}
use Rattle.lrc_check.proofs.traces.Feeding.{feeding_fault_same, feeding_text_whole, feeding_whole}
use Rattle.lrc_check.proofs.traces.Labelling.{labelling_dropped_none}
use Rattle.lrc_check.proofs.traces.TraceWalk.{trace_walk_fault_only}
use Rattle.lrc_check.proofs.traces.reader.Reader.end.Goals as goal

pub returns-in_err-end_trace_lines-clause-only : goal.returns-in_err-end_trace_lines-clause-only
returns-in_err-end_trace_lines-clause-only c =
    let p = err_from_is_err_and c.from_residual.result c.from_residual.ensures.1 in
    let left = rw c.deref.ensures.value at c.split_trace_label.ensures.bare in
    let e = c.in_err-end_trace_lines.field-0.0 in
    let ne : e.1 ≢ NoMemory =
    λ same. let other : Truncated ≡ NoMemory = sym c.in_err-end_trace_lines.ensures.truncated ∙ same in absurd cc in
    rw p.1 (λ bytes front told h.
    let lines = trace_begun_text front c.self.inside.begun in
    let fed = subst (IsFedTextOf bytes front told) (sym c.self.view_is) h in
    subst (λ (x : List ℕ). IsNoLawfulTrace x)
    (ap (λ (x : List ℕ). lines ++ x) left ∙ feeding_text_whole lines c.self.inside.unfinished.items bytes c.self.invariant.1 (fed.text []))
    (trace_walk_fault_only e.1 _ e.0 (c.in_err-end_trace_lines.ensures.fault front fed.trace) ne))

pub returns-in_err-end_trace_lines-clause-fault : goal.returns-in_err-end_trace_lines-clause-fault
returns-in_err-end_trace_lines-clause-fault c =
    let p = err_from_is_err_and c.from_residual.result c.from_residual.ensures.1 in
    let left = rw c.deref.ensures.value at c.split_trace_label.ensures.bare in
    rw (p.1, p.2) (λ bytes front told h.
    let lines = trace_begun_text front c.self.inside.begun in
    let fed = subst (IsFedTextOf bytes front told) (sym c.self.view_is) h in
    feeding_fault_same c.in_err-end_trace_lines.field-0.0 _ _
    (ap (λ (x : List ℕ). lines ++ x) left ∙ feeding_text_whole lines c.self.inside.unfinished.items bytes c.self.invariant.1 (fed.text []))
    (c.in_err-end_trace_lines.ensures.fault front fed.trace))

pub returns-clause-whole : goal.returns-clause-whole
returns-clause-whole c = λ bytes front told h.
    let left = rw c.deref.ensures.value at c.split_trace_label.ensures.bare in
    let none = labelling_dropped_none c.self.inside.unfinished.items (sym left ∙ c.in_ok-end_trace_lines.ensures.whole) in
    subst (IsFedTextWhole bytes front told) c.self.view_is
    (feeding_whole c.self.inside.gone c.self.inside.headed c.self.inside.begun c.self.inside.labels c.self.inside.unfinished.items c.self.inside.passed bytes front told
    c.in_ok-end_trace_lines.ensures.some none (subst (IsFedTextOf bytes front told) (sym c.self.view_is) h))
