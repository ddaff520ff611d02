use Rattle.std.proofs.Common.{◌≡◌, ◌+◌, Bool, true, false, not, ◌&&◌, ◌++◌, Option, Some, None, refl, ap, subst, sym, ◌∙◌}
use Rattle.std.specs.Prelude.{is_none, is_some}
use Rattle.lrc_check.specs.declared.traces.trace.Trace.{Trace}
use Rattle.lrc_check.specs.Traces.FedText.{FedText, HasReadFedText, IsFedTextOf}
use Rattle.lrc_check.proofs.traces.Feeding.{feeding_fed_text, feeding_let_go, feeding_read_let_go}
use Rattle.lrc_check.proofs.traces.reader.Reader.let_go.Goals as goal
use Rattle.lrc_check.proofs.traces.reader.Reader.let_go.Goals.{then-self, else-self}

-- what is answered of an option that has nothing
none_told : (o : Option Trace) (none : Bool) → is_some o ≡ not none → none ≡ is_none o
none_told None true same = refl
none_told None false same = absurd cc
none_told (Some t) true same = absurd cc
none_told (Some t) false same = refl

pub returns-clause-fed : goal.returns-clause-fed
returns-clause-fed c = λ bytes front told h.
    let x = c.self.inside in
    let y = feeding_fed_text (x.gone + c.let_go_of_trace_begun.result) c.if-self.self c.let_go_of_trace_begun.new.begun c.clear.new.self x.unfinished.items x.passed in
    let head : c.if-self.self ≡ x.headed && is_none x.begun =
    elim c.if-self.branch [
      | then-self w ↦ w.self-is ∙ none_told x.begun _ w.is_none-self-inside.ensures ∙ sym (ap (λ b. b && is_none x.begun) w.if-self.true)
      | else-self w ↦ w.self-is ∙ w.if-self.false ∙ sym (ap (λ b. b && is_none x.begun) w.if-self.false)
    ] in
    subst (λ (z : FedText). IsFedTextOf bytes (front ++ z.events) (told ++ z.labels) y) c.self.view_is
    (feeding_let_go x.gone x.headed x.begun x.labels x.unfinished.items x.passed bytes front told y c.self.invariant.0
    (ap (λ n. x.gone + n) c.let_go_of_trace_begun.ensures.count) head c.let_go_of_trace_begun.ensures.sizes
    c.let_go_of_trace_begun.ensures.events c.clear.ensures refl refl (subst (IsFedTextOf bytes front told) (sym c.self.view_is) h))

pub returns-clause-read : goal.returns-clause-read
returns-clause-read c = λ bytes front h.
    let x = c.self.inside in
    let y = feeding_fed_text (x.gone + c.let_go_of_trace_begun.result) c.if-self.self c.let_go_of_trace_begun.new.begun c.clear.new.self x.unfinished.items x.passed in
    subst (λ (z : FedText). HasReadFedText bytes (front ++ z.events) y) c.self.view_is
    (feeding_read_let_go x.gone x.headed x.begun x.labels x.unfinished.items x.passed bytes front y
    (ap (λ n. x.gone + n) c.let_go_of_trace_begun.ensures.count) c.let_go_of_trace_begun.ensures.sizes
    c.let_go_of_trace_begun.ensures.events (subst (HasReadFedText bytes front) (sym c.self.view_is) h))
