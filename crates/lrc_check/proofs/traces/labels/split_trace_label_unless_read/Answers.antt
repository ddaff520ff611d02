use Rattle.std.proofs.Common.{subst, sym}
use Rattle.std.specs.Prelude.{IfSome}
use Rattle.lrc_check.specs.Traces.TraceLines.{IsTraceLineOfEvent}
use Rattle.lrc_check.proofs.traces.UnlabelledTexts.{unlabelled_text_event_bare, unlabelled_text_event_label}
use Rattle.lrc_check.proofs.traces.labels.split_trace_label_unless_read.Goals as goal

pub returns-in-Some-clause-bare : goal.returns-in-Some-clause-bare
returns-in-Some-clause-bare c =
    sym (unlabelled_text_event_bare c.args.line.now _ _ (subst (λ o. IfSome o (λ x. IsTraceLineOfEvent c.args.line.now x.0 x.1)) c.in-Some.is c.requires))

pub returns-in-Some-clause-label : goal.returns-in-Some-clause-label
returns-in-Some-clause-label c =
    sym (unlabelled_text_event_label c.args.line.now _ _ (subst (λ o. IfSome o (λ x. IsTraceLineOfEvent c.args.line.now x.0 x.1)) c.in-Some.is c.requires))
