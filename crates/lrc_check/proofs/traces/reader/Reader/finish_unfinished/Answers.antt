use Rattle.std.proofs.Common.{◌≡◌, [], ◌++◌, Option, Some, None, false, refl, ap, subst, sym}
use Rattle.std.specs.Prelude.{IfErr, Result, Ok, Err, is_some}
use Rattle.lrc_check.specs.declared.traces.trace.Trace.{Trace}
use Rattle.lrc_check.specs.Traces.Begun.{trace_begun_sizes, trace_begun_text}
use Rattle.lrc_check.specs.Traces.FedText.{IsFedTextOf}
use Rattle.lrc_check.specs.Traces.Labels.{without_trace_labels}
use Rattle.lrc_check.specs.Traces.Sizes.{trace_sizes_of}
use Rattle.lrc_check.proofs.traces.Feeding.{feeding_fed_text, feeding_unfinished}
use Rattle.lrc_check.proofs.traces.Unfinished.{unfinished_unread}
use Rattle.lrc_check.proofs.traces.reader.Reader.finish_unfinished.Goals as goal

pub returns-clause-found : goal.returns-clause-found
returns-clause-found c = λ bytes h.
    let t = c.unwrap.result in
    let fed = subst (IsFedTextOf bytes [] []) (sym c.self.view_is) h in
    feeding_unfinished (trace_sizes_of t.sizes) t.events.items c.self.inside.unfinished.items bytes c.self.invariant.1
    (subst (λ b. trace_begun_text [] b ++ without_trace_labels (c.self.inside.unfinished.items ++ []) ≡ without_trace_labels (bytes ++ []))
    c.unwrap.ensures (fed.text []))

-- of any error
if_err_any : {A E : Type 0} (r : Result A E) (Q : Type 0) → Q → IfErr r (λ _. Q)
if_err_any (Ok a) Q q = tt
if_err_any (Err e) Q q = q

-- where there is none, there is none
no_trace : (o : Option Trace) → is_some o ≡ false → o ≡ None
no_trace None is = refl
no_trace (Some t) is = absurd cc

pub returns-then-is_none-clause-never : goal.returns-then-is_none-clause-never
returns-then-is_none-clause-never c = if_err_any c.finish.result _ (λ bytes h.
    let x = c.self.inside in
    let none = no_trace x.begun c.if-is_none.ensures in
    unfinished_unread (feeding_fed_text x.gone x.headed x.begun x.labels x.unfinished.items x.passed) bytes [] [] (ap trace_begun_sizes none)
    c.self.invariant.1 (subst (IsFedTextOf bytes [] []) (sym c.self.view_is) h))
