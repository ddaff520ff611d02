use Rattle.std.proofs.Common.{◌++◌, inl, inr, List, [], ◌∷◌, map, append_assoc, ap, refl, sym, subst, ◌∙◌}
use Rattle.std.specs.Global.{Vec}
use Rattle.std.proofs.lemmas.List.{map-append}
use Rattle.base.specs.InOrderOnce.{Has}
use Rattle.base.proofs.JoinedLists.{joined_list_has-append, joined_list_has-cons, joined_list_has-nil}
use Rattle.journal.specs.declared.event.Event.{Event}
use Rattle.explore.specs.declared.outcomes.answer.ScriptOutcome.{ScriptOutcome}
use Rattle.explore.specs.declared.outcomes.showing.ShownRun.{ShownRun}
use Rattle.explore.specs.AllowedRuns.{IsAllowedRunShowing, shown_run_outcome}
use Rattle.explore.specs.NotedOutcomes.{noted_outcomes}
use Rattle.explore.proofs.rules.search.outcomes_with_runs.Goals as goal

pub loop-outcome-preserved : goal.loop-outcome-preserved
loop-outcome-preserved c =
    let inv = c.loop-outcome.invariant in
    let shown = c.loop-outcome.shown.items in
    let rest = c.next.new.self in
    let e : ScriptOutcome × Vec Event = (c.in-Some.outcome, c.in-Some.events) in
    let new : ShownRun = record { events = c.in-Some.events; outcome = c.in-Some.outcome } in
    let steps = c.in-Some.ensures.steps in
    let pushed = c.in_ok-push.ensures.items in
    let next = subst (λ (es : List (ScriptOutcome × Vec Event)). Has es e) (sym steps) ((joined_list_has-cons e rest e).1 (inl refl)) in
    record {
      left = λ y has. inv.left y (subst (λ (es : List (ScriptOutcome × Vec Event)). Has es y) (sym steps) ((joined_list_has-cons e rest y).1 (inr has)));
      listed =
          ap (λ xs. map shown_run_outcome xs ++ noted_outcomes rest) pushed
          ∙ ap (λ xs. xs ++ noted_outcomes rest) (map-append shown_run_outcome shown (new ∷ []))
          ∙ append_assoc (map shown_run_outcome shown) (shown_run_outcome new ∷ []) (noted_outcomes rest)
          ∙ ap (λ (es : List (ScriptOutcome × Vec Event)). map shown_run_outcome shown ++ noted_outcomes es) (sym steps)
          ∙ inv.listed;
      runs = λ s d runs x has. elim ((joined_list_has-append shown (new ∷ []) x).0 (subst (λ xs. Has xs x) pushed has)) [
        | inl old ↦ inv.runs s d runs x old
        | inr last ↦ elim ((joined_list_has-cons new [] x).0 last) [
          | inl is ↦ subst (λ (r : ShownRun). IsAllowedRunShowing s d r.events.items (shown_run_outcome r)) is (runs e (inv.left e next))
          | inr none ↦ absurd (joined_list_has-nil x none)
        ]
      ];
    }
