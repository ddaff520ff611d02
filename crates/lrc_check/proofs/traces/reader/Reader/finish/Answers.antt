use Rattle.std.proofs.Common.{List, ℕ, [], ◌++◌, ap, subst, sym, ◌∙◌}
use Rattle.std.proofs.lemmas.Result.{err_from_is_err_and}
use Rattle.lrc_check.specs.Traces.Begun.{trace_begun_text}
use Rattle.lrc_check.specs.Traces.FedText.{IsFedTextOf}
use Rattle.lrc_check.specs.Traces.LawfulTraces.{IsNoOtherLawfulTrace, IsNoLawfulTrace}
use Rattle.lrc_check.specs.Traces.Sizes.{trace_sizes_of}
use Rattle.lrc_check.proofs.traces.Feeding.{feeding_fault_same, feeding_labels_whole, feeding_text_whole}
use Rattle.lrc_check.proofs.traces.Labelling.{labelling_dropped_none}
use Rattle.lrc_check.proofs.traces.reader.Reader.finish.Goals as goal

pub returns-in_err-trace-clause-only : goal.returns-in_err-trace-clause-only
returns-in_err-trace-clause-only c =
    let p = err_from_is_err_and c.from_residual.result c.from_residual.ensures.1 in
    let lines = trace_begun_text [] c.self.inside.begun in
    let left = rw c.deref.ensures.value at c.split_trace_label.ensures.bare in
    rw p.1 (λ bytes h.
    subst (λ (x : List ℕ). IsNoLawfulTrace x)
    (ap (λ (x : List ℕ). lines ++ x) left
    ∙ feeding_text_whole lines c.self.inside.unfinished.items bytes c.self.invariant.1
    ((subst (IsFedTextOf bytes [] []) (sym c.self.view_is) h).text []))
    c.in_err-trace.ensures.only)

pub returns-in_err-trace-clause-fault : goal.returns-in_err-trace-clause-fault
returns-in_err-trace-clause-fault c =
    let p = err_from_is_err_and c.from_residual.result c.from_residual.ensures.1 in
    let lines = trace_begun_text [] c.self.inside.begun in
    let left = rw c.deref.ensures.value at c.split_trace_label.ensures.bare in
    rw (p.1, p.2) (λ bytes h.
    feeding_fault_same c.in_err-trace.field-0.0 _ _
    (ap (λ (x : List ℕ). lines ++ x) left
    ∙ feeding_text_whole lines c.self.inside.unfinished.items bytes c.self.invariant.1
    ((subst (IsFedTextOf bytes [] []) (sym c.self.view_is) h).text []))
    c.in_err-trace.ensures.fault)

pub returns-clause-found : goal.returns-clause-found
returns-clause-found c =
    let lines = trace_begun_text [] c.self.inside.begun in
    let left = rw c.deref.ensures.value at c.split_trace_label.ensures.bare in (
      c.in_ok-trace.ensures.found.0,
      λ bytes h.
          sym (ap (λ (x : List ℕ). lines ++ x) left
          ∙ feeding_text_whole lines c.self.inside.unfinished.items bytes c.self.invariant.1
          ((subst (IsFedTextOf bytes [] []) (sym c.self.view_is) h).text []))
          ∙ c.in_ok-trace.ensures.found.1,
    )

pub returns-clause-again : goal.returns-clause-again
returns-clause-again c = λ bytes h.
    let lines = trace_begun_text [] c.self.inside.begun in
    let left = rw c.deref.ensures.value at c.split_trace_label.ensures.bare in
    subst (λ (x : List ℕ). IsNoOtherLawfulTrace x (trace_sizes_of c.in_ok-trace.trace.sizes) c.in_ok-trace.trace.events.items)
    (ap (λ (x : List ℕ). lines ++ x) left
    ∙ feeding_text_whole lines c.self.inside.unfinished.items bytes c.self.invariant.1
    ((subst (IsFedTextOf bytes [] []) (sym c.self.view_is) h).text []))
    c.in_ok-trace.ensures.again

pub returns-clause-labels : goal.returns-clause-labels
returns-clause-labels c = λ bytes h.
    let left = rw c.deref.ensures.value at c.split_trace_label.ensures.bare in
    feeding_labels_whole c.self.inside.labels c.self.inside.unfinished.items bytes
    (labelling_dropped_none c.self.inside.unfinished.items (sym left ∙ c.in_ok-trace.ensures.whole))
    ((subst (IsFedTextOf bytes [] []) (sym c.self.view_is) h).labels [])
