use Rattle.std.proofs.Common.{ℕ, ◌++◌, inl, inr, List, [], ◌∷◌, map, append_assoc, ap, refl, sym, subst, ◌∙◌}
use Rattle.std.proofs.lemmas.List.{map-append}
use Rattle.base.specs.InOrderOnce.{Has}
use Rattle.base.proofs.JoinedLists.{joined_list_has-cons}
use Rattle.explore.specs.declared.outcomes.answer.ScriptOutcome.{ScriptOutcome}
use Rattle.explore.specs.declared.outcomes.answer.ShownOutcome.{ShownOutcome}
use Rattle.explore.specs.Explored.{shown_outcome}
use Rattle.explore.specs.NotedOutcomes.{noted_outcomes}
use Rattle.explore.proofs.ShownRuns.{shown_run_of, shown_run_pushed}
use Rattle.explore.proofs.search.search_outcomes_with_runs.Goals as goal

pub makers_to-requires-clause-place : goal.makers_to-requires-clause-place
makers_to-requires-clause-place c =
    let e : ScriptOutcome × ℕ = (c.in-Some.outcome, c.in-Some.place) in
    let next = subst (λ (es : List (ScriptOutcome × ℕ)). Has es e) (sym c.in-Some.ensures.steps) ((joined_list_has-cons e c.next.new.self e).1 (inl refl)) in
    (c.requires.3 e (c.loop-outcome.invariant.left e next)).within

pub loop-outcome-preserved : goal.loop-outcome-preserved
loop-outcome-preserved c =
    let inv = c.loop-outcome.invariant in
    let shown = c.loop-outcome.shown.items in
    let rest = c.next.new.self in
    let e : ScriptOutcome × ℕ = (c.in-Some.outcome, c.in-Some.place) in
    let new : ShownOutcome = record { outcome = c.in-Some.outcome; makers = c.in_ok-makers.makers } in
    let steps = c.in-Some.ensures.steps in
    let pushed = c.in_ok-push.ensures.items in
    let next = subst (λ (es : List (ScriptOutcome × ℕ)). Has es e) (sym steps) ((joined_list_has-cons e rest e).1 (inl refl)) in
    record {
      left = λ y has. inv.left y (subst (λ (es : List (ScriptOutcome × ℕ)). Has es y) (sym steps) ((joined_list_has-cons e rest y).1 (inr has)));
      listed =
          ap (λ xs. map shown_outcome xs ++ noted_outcomes rest) pushed
          ∙ ap (λ xs. xs ++ noted_outcomes rest) (map-append shown_outcome shown (new ∷ []))
          ∙ append_assoc (map shown_outcome shown) (shown_outcome new ∷ []) (noted_outcomes rest)
          ∙ ap (λ (es : List (ScriptOutcome × ℕ)). map shown_outcome shown ++ noted_outcomes es) (sym steps)
          ∙ inv.listed;
      runs = λ s d found places tells x has.
          shown_run_pushed s d shown new (inv.runs s d found places tells)
          (shown_run_of s d c.args.found.now new c.in-Some.place found tells (places e (inv.left e next)) (λ m here. c.in_ok-makers.ensures s found m here))
          x (subst (λ xs. Has xs x) pushed has);
    }
