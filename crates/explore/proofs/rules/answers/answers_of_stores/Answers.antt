use Rattle.std.proofs.Common.{◌≡◌, ◌+◌, suc, slice_index_or, take, subst, sym, ◌∙◌, ap, arith}
use Rattle.std.proofs.lemmas.Option.{slice_get-get_or}
use Rattle.base.proofs.SlicesAndCounts.{slice_take-suc_at}
use Rattle.judge.specs.declared.flat_memory.FlatStore.{FlatStore}
use Rattle.explore.specs.AllowedAnswers.{AreAllowedAnswersOf}
use Rattle.explore.proofs.AllowedRuns.Answers.{allowed_values_next}
use Rattle.explore.proofs.rules.answers.answers_of_stores.Goals as goal

-- no store
abbrev none : FlatStore
none = record { by = 0; place = 0; value = 0 }

pub loop-store-preserved : goal.loop-store-preserved
loop-store-preserved c =
    let stores = c.args.stores.now in
    let n = c.loop-store.store-index in
    let s = slice_index_or stores n none in
    let new = c.add_answer.new.answers.items in
    let one : suc n ≡ n + 1 = omega arith in
    let front = sym (ap (λ k. take k stores) one) ∙ slice_take-suc_at stores n s (slice_get-get_or stores n none c.loop-store-test.true) in
    subst (λ xs. AreAllowedAnswersOf xs new) (sym front)
    (allowed_values_next (take n stores) s c.loop-store.answers.items new c.loop-store.invariant c.in_ok-add_answer.ensures)
