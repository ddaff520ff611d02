use Rattle.std.proofs.Common.{◌≡◌, ℕ, Bool, false, true, List, [], inr, subst, sym}
use Rattle.std.specs.Prelude.{IfErr, IfOk, Result, Ok, Err}
use Rattle.lrc_check.specs.declared.traces.trace.LabelledTrace.{LabelledTrace}
use Rattle.lrc_check.specs.Traces.FedText.{FedText, IsFedTextOf, IsNoUnfinishedTrace}
use Rattle.lrc_check.specs.Traces.Labels.{without_trace_labels}
use Rattle.lrc_check.specs.Traces.LawfulTraces.{IsLawfulTrace, IsNoLawfulTrace}
use Rattle.lrc_check.specs.Traces.Sizes.{trace_sizes_of}
use Rattle.lrc_check.specs.Traces.TraceText.{trace_text}
use Rattle.lrc_commands.specs.TraceCommand.{IsTraceCommandNoText, IsTraceCommandText}
use Rattle.lrc_commands.proofs.checking.check_command_reader_ends.Goals as goal

-- of a trace that ends with a line its text
whole_text : {E : Type 0} (unfinished : Bool) (r : Result LabelledTrace E) (x : FedText) → unfinished ≡ false
    → IfOk r (λ t. IsLawfulTrace (trace_sizes_of t.trace.sizes) t.trace.events.items
    × ((bytes : List ℕ) → IsFedTextOf bytes [] [] x → without_trace_labels bytes ≡ trace_text (trace_sizes_of t.trace.sizes) t.trace.events.items))
    → IfOk r (λ t. (bytes : List ℕ) → IsFedTextOf bytes [] [] x → IsTraceCommandText unfinished bytes (trace_sizes_of t.trace.sizes) t.trace.events.items)
whole_text unfinished (Ok t) x is found = λ bytes fed.
    subst (λ u. IsTraceCommandText u bytes (trace_sizes_of t.trace.sizes) t.trace.events.items) (sym is) (found.1 bytes fed)
whole_text unfinished (Err e) x is found = tt

-- and it is a trace
lawful_whole : {E : Type 0} (r : Result LabelledTrace E) (x : FedText)
    → IfOk r (λ t. IsLawfulTrace (trace_sizes_of t.trace.sizes) t.trace.events.items
    × ((bytes : List ℕ) → IsFedTextOf bytes [] [] x → without_trace_labels bytes ≡ trace_text (trace_sizes_of t.trace.sizes) t.trace.events.items))
    → IfOk r (λ t. IsLawfulTrace (trace_sizes_of t.trace.sizes) t.trace.events.items)
lawful_whole (Ok t) x found = found.0
lawful_whole (Err e) x found = tt

pub returns-then-unfinished-clause-text : goal.returns-then-unfinished-clause-text
returns-then-unfinished-clause-text c =
    subst (λ u. IfOk c.finish_unfinished.result (λ t. (bytes : List ℕ) → IsFedTextOf bytes [] [] c.args.reader
    → IsTraceCommandText u bytes (trace_sizes_of t.trace.sizes) t.trace.events.items))
    (sym c.if-unfinished.true) c.finish_unfinished.ensures.found

pub returns-else-unfinished-clause-trace : goal.returns-else-unfinished-clause-trace
returns-else-unfinished-clause-trace c = lawful_whole c.finish.result c.args.reader c.finish.ensures.found

pub returns-else-unfinished-clause-text : goal.returns-else-unfinished-clause-text
returns-else-unfinished-clause-text c =
    whole_text c.args.unfinished c.finish.result c.args.reader c.if-unfinished.false c.finish.ensures.found

-- of what is no trace and no beginning of a line behind one
no_unfinished : {T E : Type 0} (unfinished : Bool) (r : Result T E) (x : FedText) → unfinished ≡ true
    → IfErr r (λ _. (bytes : List ℕ) → IsFedTextOf bytes [] [] x → IsNoUnfinishedTrace bytes)
    → IfErr r (λ _. (bytes : List ℕ) → IsFedTextOf bytes [] [] x → IsTraceCommandNoText unfinished bytes)
no_unfinished unfinished (Ok t) x is never = tt
no_unfinished unfinished (Err e) x is never = λ bytes fed. subst (λ u. IsTraceCommandNoText u bytes) (sym is) (inr (never bytes fed))

-- of what is no trace
no_whole : {T E : Type 0} (unfinished : Bool) (r : Result T E) (x : FedText) → unfinished ≡ false
    → IfErr r (λ _. (bytes : List ℕ) → IsFedTextOf bytes [] [] x → IsNoLawfulTrace (without_trace_labels bytes))
    → IfErr r (λ _. (bytes : List ℕ) → IsFedTextOf bytes [] [] x → IsTraceCommandNoText unfinished bytes)
no_whole unfinished (Ok t) x is only = tt
no_whole unfinished (Err e) x is only = λ bytes fed. subst (λ u. IsTraceCommandNoText u bytes) (sym is) (only bytes fed)

pub returns-then-unfinished-clause-only : goal.returns-then-unfinished-clause-only
returns-then-unfinished-clause-only c =
    no_unfinished c.args.unfinished c.finish_unfinished.result c.args.reader c.if-unfinished.true c.finish_unfinished.ensures.never

pub returns-else-unfinished-clause-only : goal.returns-else-unfinished-clause-only
returns-else-unfinished-clause-only c =
    no_whole c.args.unfinished c.finish.result c.args.reader c.if-unfinished.false c.finish.ensures.only
