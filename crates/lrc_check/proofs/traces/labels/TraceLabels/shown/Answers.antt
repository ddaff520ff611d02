use Rattle.std.proofs.Common.{◌≡◌, ◌∙◌, ◌+◌, ℕ, inl, inr, [], ◌∷◌, Some, length, length-append, map, slice_get, slice_index_or, ap, sym, subst, arith}
use Rattle.std.specs.Global.{Vec}
use Rattle.base.proofs.SlicesAndCounts.{slice_push_cases}
use Rattle.lrc_script.specs.LineReading.{parts_of_read_line}
use Rattle.lrc_check.specs.Traces.Labels.{trace_event_label, trace_label_byte_shown}
use Rattle.lrc_check.proofs.traces.labels.TraceLabels.shown.Goals as goal

pub loop-preserved : goal.loop-preserved
loop-preserved c =
    let old = c.loop.invariant in
    let lines = parts_of_read_line 10 c.args.self.now in
    let more = c.in_ok-push.ensures.items in
    let here : c.loop.counter + 0 + 1 ≡ c.loop.counter + 1 = omega arith in
    let label = c.in_ok-show_trace_label.ensures
    ∙ ap (map trace_label_byte_shown) (c.first_of_trace_labels.ensures ∙ old.behind 0 ∙ ap (λ m. slice_index_or lines m []) here) in
    record {
      long = ap length more ∙ length-append c.loop.shown.items (c.in_ok-show_trace_label.field-0 ∷ []) ∙ ap (λ m. m + 1) old.long;
      each = λ k v at. elim (slice_push_cases c.loop.shown.items c.in_ok-show_trace_label.field-0 k v (subst (λ xs. slice_get xs k ≡ Some v) more at)) [
        | inl before ↦ old.each k v before.1
        | inr now ↦
            sym (ap (λ (w : Vec ℕ). w.items) now.1) ∙ label ∙ ap (λ m. map trace_label_byte_shown (trace_event_label c.args.self.now m)) (sym (now.0 ∙ old.long))
      ];
      behind = λ n.
          let next : c.loop.counter + (n + 1) + 1 ≡ c.loop.counter + 1 + n + 1 = omega arith in
          c.rest_of_trace_labels-behind-in-loop.ensures n ∙ old.behind (n + 1) ∙ ap (λ m. slice_index_or lines m []) next;
    }
