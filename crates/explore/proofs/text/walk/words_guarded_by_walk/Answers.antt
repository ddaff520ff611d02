use Rattle.std.proofs.Common.{IsTrue, false, map, slice_index_or, subst, ap, ◌∙◌}
use Rattle.std.proofs.lemmas.Result.{IfOk-weaker}
use Rattle.explore.specs.declared.text.walked_words.WalkedWord.{WalkedWord}
use Rattle.explore.proofs.TextWalks.WordsPassed.{words_passed_flags_of, words_passed_guarded}
use Rattle.explore.proofs.text.walk.words_guarded_by_walk.Goals as goal

pub returns-clause-guarded : goal.returns-clause-guarded
returns-clause-guarded c =
    let walk = c.finish.new.self in
    let walks = c.in_ok-finish.ensures.walks in
    IfOk-weaker c.walked_words_guarded.result _ _
    (λ v is w yes.
    let told = subst (λ bs. IsTrue (slice_index_or bs w false)) (is ∙ ap (map (λ (x : WalkedWord). x.is_guarded)) c.deref.ensures.value) yes in
    words_passed_guarded c.args.steps.now walk.rows.items walk.flags walk.words.items walks.order walks.words c.in_ok-finish.ensures.through w
    (words_passed_flags_of walk.words.items w told))
    c.walked_words_guarded.ensures
