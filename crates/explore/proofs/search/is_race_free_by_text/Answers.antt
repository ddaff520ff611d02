use Rattle.std.proofs.Common.{◌≡◌, ◌<◌, length, subst, sym, ap, ◌∙◌, arith}
use Rattle.std.proofs.lemmas.Result.{IfOk-weaker}
use Rattle.lrc_script.specs.Plan.{plan_of}
use Rattle.lrc_script.specs.Lawful.{plan_addresses}
use Rattle.explore.specs.TextGuards.{AreGuardedByText}
use Rattle.explore.proofs.UnguardedWords.{unguarded_words_none_race_free}
use Rattle.explore.proofs.search.is_race_free_by_text.Goals as goal

pub returns-then-are_all_guarded : goal.returns-then-are_all_guarded
returns-then-are_all_guarded c = λ _.
    let s = plan_of c.args.script.now in
    unguarded_words_none_race_free s c.args.steps.now c.requires.steps (λ w lt.
    c.requires.guarded w (c.are_all_guarded.ensures c.if-are_all_guarded.true w (subst (λ n. w < n) (sym c.requires.long) lt)))

pub are_all_kept_apart-requires-clause-guarded : goal.are_all_kept_apart-requires-clause-guarded
are_all_kept_apart-requires-clause-guarded c =
    subst (AreGuardedByText c.args.steps.now) (sym c.deref.ensures.value) c.in_ok-known.ensures.guarded

pub returns : goal.returns
returns c = IfOk-weaker c.are_all_kept_apart.result _ _ (λ apart shown yes.
    let s = plan_of c.args.script.now in
    let long : length c.deref.result.now ≡ plan_addresses s =
    ap length c.deref.ensures.value ∙ (let size = c.in_ok-known.known.ok.0 in let is = c.in_ok-known.ensures.long in omega arith) in
    unguarded_words_none_race_free s c.args.steps.now c.requires.steps (λ w lt. shown yes w (subst (λ n. w < n) (sym long) lt)))
    c.are_all_kept_apart.ensures
