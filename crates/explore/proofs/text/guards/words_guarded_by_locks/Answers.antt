use Rattle.std.proofs.Common.{IsTrue, false, map, slice_index_or, subst, ap, ◌∙◌}
use Rattle.std.proofs.lemmas.Result.{IfOk-weaker}
use Rattle.explore.specs.declared.text.guards.GuardedWordUse.{GuardedWordUse}
use Rattle.lrc_script.specs.Plan.{plan_of}
use Rattle.explore.proofs.Locksets.Noted.{lockset_noted_flags_of, lockset_noted_each_few, lockset_noted_guarded_word, lockset_noted_rows_within}
use Rattle.explore.proofs.text.guards.words_guarded_by_locks.Goals as goal

pub guarded_word_uses-requires-clause-within : goal.guarded_word_uses-requires-clause-within
guarded_word_uses-requires-clause-within c = lockset_noted_rows_within (plan_of c.args.script.now) c.args.steps.now c.requires

pub guarded_word_uses-requires-clause-few : goal.guarded_word_uses-requires-clause-few
guarded_word_uses-requires-clause-few c = lockset_noted_each_few (plan_of c.args.script.now) c.args.steps.now c.requires

pub returns-clause-guarded : goal.returns-clause-guarded
returns-clause-guarded c =
    IfOk-weaker c.guarded_flags_of.result _ _
    (λ v is w yes.
    let words = c.in_ok-words.words.items in
    let told = subst (λ bs. IsTrue (slice_index_or bs w false)) (is ∙ ap (map (λ (x : GuardedWordUse). x.is_guarded)) c.deref.ensures.value) yes in
    let found = lockset_noted_flags_of words w told in
    lockset_noted_guarded_word words c.args.steps.now w found.0 c.in_ok-words.ensures.noted c.in_ok-words.ensures.sound found.1 found.2)
    c.guarded_flags_of.ensures
