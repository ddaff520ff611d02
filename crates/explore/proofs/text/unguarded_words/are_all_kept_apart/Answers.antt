use Rattle.std.proofs.Common.{inl, inr, subst, sym, arith}
use Rattle.std.proofs.lemmas.Bool.{cases_eq}
use Rattle.lrc_script.specs.Lawful.{plan_addresses}
use Rattle.explore.specs.TextGuards.{IsGuardedByText}
use Rattle.explore.specs.UnguardedWords.{AreKeptTextAccesses}
use Rattle.explore.proofs.Locksets.Noted.{lockset_noted_each_few, lockset_noted_rows_within}
use Rattle.explore.proofs.text.unguarded_words.are_all_kept_apart.Goals as goal

pub text_accesses_by_word-requires-clause-within : goal.text_accesses_by_word-requires-clause-within
text_accesses_by_word-requires-clause-within c =
    let s = c.requires.lawful.0 in
    (plan_addresses s, lockset_noted_rows_within s c.args.steps.now c.requires.lawful.1)

pub text_accesses_by_word-requires-clause-few : goal.text_accesses_by_word-requires-clause-few
text_accesses_by_word-requires-clause-few c = lockset_noted_each_few c.requires.lawful.0 c.args.steps.now c.requires.lawful.1

pub loop-word-preserved : goal.loop-word-preserved
loop-word-preserved c =
    let kept =
    subst (AreKeptTextAccesses c.args.steps.now c.args.guarded.now) (sym c.deref.ensures.value) c.in_ok-kept.ensures.are in
    λ w lt. elim (cases_eq w c.loop-word.word) [
      | inl is ↦
          subst (IsGuardedByText c.args.steps.now) (sym is)
          (c.is_kept_apart.ensures c.if-not-is_kept_apart.false c.args.steps.now c.requires.guarded kept)
      | inr isnt ↦ c.loop-word.invariant w (omega arith)
    ]

pub returns : goal.returns
returns c =
    let over = c.loop-word-test.false in
    let end = c.loop-word.auto.word-end in
    λ _ w lt. c.loop-word.invariant w (omega arith)
