use Rattle.std.proofs.Common.{◌++◌, List, [], ◌∷◌, map, append_assoc, ap, sym, ◌∙◌}
use Rattle.std.specs.Global.{Vec}
use Rattle.explore.specs.declared.outcomes.answer.ScriptOutcome.{ScriptOutcome}
use Rattle.explore.specs.declared.outcomes.answer.ShownOutcome.{ShownOutcome}
use Rattle.explore.specs.declared.state.wait_code.ProcessorNumber.{ProcessorNumber}
use Rattle.explore.specs.Trials.{trial_outcome}
use Rattle.explore.proofs.search.push_trial_outcomes.Goals as goal

pub loop-outcome-preserved : goal.loop-outcome-preserved
loop-outcome-preserved c =
    let rest = c.next.new.self in
    let shown = c.loop-outcome.shown.items in
    let new : ShownOutcome = record { outcome = c.in-Some.outcome; makers = c.in-Some.makers } in
    ap (λ (xs : List ShownOutcome). xs ++ map trial_outcome rest) c.in_ok-push.ensures.items
    ∙ append_assoc shown (new ∷ []) (map trial_outcome rest)
    ∙ ap (λ (es : List (ScriptOutcome × Vec ProcessorNumber)). shown ++ map trial_outcome es) (sym c.in-Some.ensures.steps)
    ∙ c.loop-outcome.invariant
