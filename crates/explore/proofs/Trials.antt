-- What trials show: outcomes that are noted, each once, and put behind those of a search.
use Rattle.std.proofs.Common.{ℕ, ◌≡◌, ◌≢◌, inl, inr, List, [], ◌∷◌, ◌++◌, map, refl, sym, ap, subst, ◌∙◌}
use Rattle.std.specs.Global.{Vec}
use Rattle.std.proofs.lemmas.List.{map-append}
use Rattle.base.specs.InOrderOnce.{Has, IsOnce}
use Rattle.base.proofs.JoinedLists.{joined_list_has-append, joined_list_has-cons, joined_list_has-map, joined_list_has-nil, joined_list_in_order-append, joined_list_in_order_single}
use Rattle.lrc_script.specs.Plan.{Plan}
use Rattle.explore.specs.declared.outcomes.answer.ScriptOutcome.{ScriptOutcome}
use Rattle.explore.specs.declared.outcomes.answer.ShownOutcome.{ShownOutcome}
use Rattle.explore.specs.declared.outcomes.telling.Detail.{Detail}
use Rattle.explore.specs.declared.state.wait_code.ProcessorNumber.{ProcessorNumber}
use Rattle.explore.specs.Explored.{AreExploredOutcomes, IsRunOfShownOutcome, explored_outcome, shown_outcome}
use Rattle.explore.specs.FlatOutcomes.{IsFlatOutcome}
use Rattle.explore.specs.NotedOutcomes.{IsNotedOutcome, noted_outcomes}
use Rattle.explore.specs.OutcomeTelling.{AreOutcomeTellingReplies, outcome_telling_of_script}
use Rattle.explore.specs.Trials.{AreTrialOutcomes, trial_outcome}
use Rattle.explore.proofs.NotedOutcomes.{noted_outcome_among, noted_outcome_each}

trial_only : (a b : List (List ℕ)) → Has (a ∷ []) b → a ≡ b
trial_only a b has = elim ((joined_list_has-cons a [] b).0 has) [ inl is ↦ is | inr none ↦ absurd (joined_list_has-nil b none) ]

-- a run that shows an outcome shows an equal one
trial_run_like : (s : Plan) (d : Detail) (x y : ShownOutcome) → shown_outcome x ≡ shown_outcome y → x.makers ≡ y.makers
    → IsRunOfShownOutcome s d y → IsRunOfShownOutcome s d x
trial_run_like s d x y same by shows = record {
  events = shows.events;
  whole = shows.whole;
  told = subst (AreOutcomeTellingReplies s (outcome_telling_of_script s d) shows.events) (sym same) shows.told;
  makers = shows.makers ∙ ap (λ (v : Vec ProcessorNumber). map (λ (n : ProcessorNumber). n.0) v.items) (sym by);
}

trial_put_once : (rows : List (List (List ℕ))) (x : List (List ℕ)) → IsOnce rows → ¬ Has rows x → IsOnce (rows ++ x ∷ [])
trial_put_once rows x once missing =
    joined_list_in_order-append (λ (a b : List (List ℕ)). a ≢ b) rows (x ∷ []) once (joined_list_in_order_single (λ (a b : List (List ℕ)). a ≢ b) x)
    (λ a b has one same. missing (subst (Has rows) (same ∙ sym (trial_only x b one)) has))

-- an outcome that isn't known is noted
pub trial_outcome_noted : (s : Plan) (d : Detail) (known : List (List (List ℕ))) (old new : List (ScriptOutcome × Vec ProcessorNumber))
    (o : ScriptOutcome) (makers : Vec ProcessorNumber) → AreTrialOutcomes s d known old
    → IsNotedOutcome old new (explored_outcome o) (λ (v : Vec ProcessorNumber). v ≡ makers) → ¬ Has known (explored_outcome o)
    → IsRunOfShownOutcome s d (trial_outcome (o, makers)) → AreTrialOutcomes s d known new
trial_outcome_noted s d known old new o makers are noted fresh shows =
    let x = explored_outcome o in
    let P = λ (v : Vec ProcessorNumber). v ≡ makers in
    let among = noted_outcome_among P old new x noted in
    record {
      runs = noted_outcome_each (λ (e : ScriptOutcome × Vec ProcessorNumber). IsRunOfShownOutcome s d (trial_outcome e)) P old new x noted
          (λ e same by. trial_run_like s d (trial_outcome e) (trial_outcome (o, makers)) same by shows) are.runs;
      once = elim among [
        | inl was ↦ subst (λ (xs : List (List (List ℕ))). IsOnce xs) (sym was.1) are.once
        | inr put ↦ subst (λ (xs : List (List (List ℕ))). IsOnce xs) (sym put.1) (trial_put_once (noted_outcomes old) x are.once put.0)
      ];
      new = λ replies has. elim among [
        | inl was ↦ are.new replies (subst (λ (xs : List (List (List ℕ))). Has xs replies) was.1 has)
        | inr put ↦ elim ((joined_list_has-append (noted_outcomes old) (x ∷ []) replies).0 (subst (λ (xs : List (List (List ℕ))). Has xs replies) put.1 has)) [
          | inl before ↦ are.new replies before
          | inr last ↦ subst (λ (r : List (List ℕ)). ¬ Has known r) (trial_only x replies last) fresh
        ]
      ];
    }

trial_rows_of : (es : List (ScriptOutcome × Vec ProcessorNumber)) → map shown_outcome (map trial_outcome es) ≡ noted_outcomes es
trial_rows_of [] = refl
trial_rows_of (e ∷ es) = ap (λ (ys : List (List (List ℕ))). explored_outcome e.0 ∷ ys) (trial_rows_of es)

module _ (rows : List (List (List ℕ))) (shown : List ShownOutcome) (listed : map shown_outcome shown ≡ rows)
    (es : List (ScriptOutcome × Vec ProcessorNumber)) where
  trial_rows : map shown_outcome (shown ++ map trial_outcome es) ≡ rows ++ noted_outcomes es
  trial_rows =
      map-append shown_outcome shown (map trial_outcome es)
      ∙ ap (λ (xs : List (List (List ℕ))). xs ++ map shown_outcome (map trial_outcome es)) listed
      ∙ ap (λ (ys : List (List (List ℕ))). rows ++ ys) (trial_rows_of es)

  -- what was there is there
  pub trial_outcomes_all : (replies : List (List ℕ)) → Has rows replies → Has (map shown_outcome (shown ++ map trial_outcome es)) replies
  trial_outcomes_all replies has =
      subst (λ (xs : List (List (List ℕ))). Has xs replies) (sym trial_rows) ((joined_list_has-append rows (noted_outcomes es) replies).1 (inl has))

  -- and so is what trials show
  pub trial_outcomes_tried : (replies : List (List ℕ)) → Has (noted_outcomes es) replies → Has (map shown_outcome (shown ++ map trial_outcome es)) replies
  trial_outcomes_tried replies has =
      subst (λ (xs : List (List (List ℕ))). Has xs replies) (sym trial_rows) ((joined_list_has-append rows (noted_outcomes es) replies).1 (inr has))

  pub trial_outcomes_explored : (s : Plan) (d : Detail) → AreExploredOutcomes s d rows → AreTrialOutcomes s d rows es
      → AreExploredOutcomes s d (map shown_outcome (shown ++ map trial_outcome es))
  trial_outcomes_explored s d of tried =
      subst (AreExploredOutcomes s d) (sym trial_rows) (record {
        each = λ replies has. elim ((joined_list_has-append rows (noted_outcomes es) replies).0 has) [
          | inl before ↦ of.each replies before
          | inr now ↦
              let e = (joined_list_has-map (λ (x : ScriptOutcome × Vec ProcessorNumber). explored_outcome x.0) es replies).0 now in
              let shows = tried.runs e.0 e.1 in
              subst (IsFlatOutcome s d) e.2 (shows.events, shows.whole, shows.told)
        ];
        once =
            joined_list_in_order-append (λ (a b : List (List ℕ)). a ≢ b) rows (noted_outcomes es) of.once tried.once
            (λ a b has later same. tried.new b later (subst (Has rows) same has));
      })

  pub trial_outcomes_runs : (s : Plan) (d : Detail) → ((y : ShownOutcome) → Has shown y → IsRunOfShownOutcome s d y) → AreTrialOutcomes s d rows es
      → (y : ShownOutcome) → Has (shown ++ map trial_outcome es) y → IsRunOfShownOutcome s d y
  trial_outcomes_runs s d before tried y has = elim ((joined_list_has-append shown (map trial_outcome es) y).0 has) [
    | inl old ↦ before y old
    | inr now ↦
        let e = (joined_list_has-map trial_outcome es y).0 now in
        subst (IsRunOfShownOutcome s d) e.2 (tried.runs e.0 e.1)
  ]
