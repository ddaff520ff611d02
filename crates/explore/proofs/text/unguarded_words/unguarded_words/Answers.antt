use Rattle.std.proofs.Common.{◌+◌, sym, subst, arith}
use Rattle.std.specs.Global.{Vec}
use Rattle.explore.specs.declared.text.unguarded_words.UnguardedWord.{UnguardedWord}
use Rattle.lrc_script.specs.Lawful.{plan_addresses}
use Rattle.explore.specs.UnguardedWords.{AreKeptTextAccesses}
use Rattle.explore.proofs.Locksets.Noted.{lockset_noted_each_few, lockset_noted_rows_within}
use Rattle.explore.proofs.UnguardedWords.{AreUnguardedWordsSoFar, unguarded_words_all_told, unguarded_words_none_told, unguarded_words_one_more, unguarded_words_passed}
use Rattle.explore.proofs.text.unguarded_words.unguarded_words.Goals as goal
use Rattle.explore.proofs.text.unguarded_words.unguarded_words.Goals.{in-Some+in_ok-push, in_default}

pub text_accesses_by_word-requires-clause-within : goal.text_accesses_by_word-requires-clause-within
text_accesses_by_word-requires-clause-within c =
    let s = c.requires.lawful.0 in
    (plan_addresses s, lockset_noted_rows_within s c.args.steps.now c.requires.lawful.1)

pub text_accesses_by_word-requires-clause-few : goal.text_accesses_by_word-requires-clause-few
text_accesses_by_word-requires-clause-few c = lockset_noted_each_few c.requires.lawful.0 c.args.steps.now c.requires.lawful.1

pub loop-word-init : goal.loop-word-init
loop-word-init c = subst (λ ws. AreUnguardedWordsSoFar c.args.steps.now c.args.guarded.now ws 0) (sym c.new-words.ensures.items)
    (unguarded_words_none_told c.args.steps.now c.args.guarded.now)

pub loop-word-preserved : goal.loop-word-preserved
loop-word-preserved c =
    let steps = c.args.steps.now in
    let guarded = c.args.guarded.now in
    let n = c.loop-word.word in
    let old = c.loop-word.invariant in
    let kept = subst (AreKeptTextAccesses steps guarded) (sym c.deref.ensures.value) c.in_ok-kept.ensures.are in
    let found = c.unguarded_word.ensures steps c.requires.guarded kept in
    elim c.match-unguarded_word.branch [
      | in-Some+in_ok-push w ↦
          (let told = rw w.in-Some.is at found in
          subst (λ (v : Vec UnguardedWord). AreUnguardedWordsSoFar steps guarded v.items (n + 1)) (sym w.words-is)
          (subst (λ ws. AreUnguardedWordsSoFar steps guarded ws (n + 1)) (sym w.in_ok-push.ensures.items)
          (unguarded_words_one_more steps guarded c.loop-word.words.items n w.in-Some.found old told.0 told.1)))
      | in_default w ↦
          subst (λ (v : Vec UnguardedWord). AreUnguardedWordsSoFar steps guarded v.items (n + 1)) (sym w.words-is)
          (unguarded_words_passed steps guarded c.loop-word.words.items n old (rw w.in_default.is at found))
    ]

pub returns : goal.returns
returns c =
    let over = c.loop-word-test.false in
    let end = c.loop-word.auto.word-end in
    unguarded_words_all_told c.args.steps.now c.args.guarded.now c.loop-word.words.items c.loop-word.word c.loop-word.invariant (omega arith)
