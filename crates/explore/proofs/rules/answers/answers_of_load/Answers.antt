use Rattle.std.proofs.Common.{ℕ, ◌≡◌, List, [], ◌∷◌, ◌++◌, length, vec_len, ap, refl, sym, subst, ◌∙◌, arith}
use Rattle.std.proofs.lemmas.Bool.{eq-eqb, eqb-true, false≢true}
use Rattle.base.specs.InOrderOnce.{Has}
use Rattle.journal.specs.declared.event.Kind.TheVariants.{Load}
use Rattle.journal.specs.DidEvent.{did}
use Rattle.judge.specs.PermittedStores.{AreLatestStores}
use Rattle.explore.specs.AllowedAnswers.{AreAllowedAnswersOf}
use Rattle.explore.proofs.AllowedRuns.Answers.{allowed_answers_none, allowed_answers_some}
use Rattle.explore.proofs.rules.answers.answers_of_load.Goals.{then-is_empty+in_ok-push, else-is_empty}
use Rattle.explore.proofs.rules.answers.answers_of_load.Goals as goal

empty_of : (xs : List ℕ) → length xs ≡ 0 → xs ≡ []
empty_of [] is = refl
empty_of (x ∷ xs) is = absurd (omega arith)

pub returns-clause-each : goal.returns-clause-each
returns-clause-each c = λ j tells x.
    let p = c.args.processor in
    let a = c.args.address in
    let stores = c.in_ok-latest.latest.items in
    let found = c.in_ok-answers.answers.items in
    let latest : (w : ℕ) → AreLatestStores (did j p (Load a w)) (length j) a stores = λ w. c.in_ok-latest.ensures j tells w in
    let of : AreAllowedAnswersOf stores found = subst (λ xs. AreAllowedAnswersOf xs found) c.deref.ensures.value c.in_ok-answers.ensures in
    elim c.if-is_empty.branch [
      | then-is_empty+in_ok-push w ↦
          (let zero_long : vec_len c.in_ok-answers.answers ≡ 0 =
          eqb-true (vec_len c.in_ok-answers.answers) 0 (sym c.is_empty.ensures ∙ w.if-is_empty.true) in
          let none : found ≡ [] = empty_of found (omega arith) in
          let is : c.if-is_empty.answers.items ≡ 0 ∷ [] =
          ap (λ v. v.items) w.answers-is ∙ w.in_ok-push.ensures.items ∙ ap (λ xs. xs ++ 0 ∷ []) none in
          let both = allowed_answers_none j p a stores found latest of none x in (
            (λ has. both.0 (subst (λ xs. Has xs x) is has)),
            (λ answer. subst (λ xs. Has xs x) (sym is) (both.1 answer)),
          ))
      | else-is_empty w ↦
          (let is = ap (λ v. v.items) w.answers-is in
          let both = allowed_answers_some j p a stores found latest of
          (λ none. let short = ap (λ (xs : List ℕ). length xs) none in
          let zero_long : vec_len c.in_ok-answers.answers ≡ 0 = omega arith in
          false≢true (sym w.if-is_empty.false ∙ c.is_empty.ensures ∙ eq-eqb (vec_len c.in_ok-answers.answers) 0 zero_long)) x in (
            (λ has. both.0 (subst (λ xs. Has xs x) is has)),
            (λ answer. subst (λ xs. Has xs x) (sym is) (both.1 answer)),
          ))
    ]
