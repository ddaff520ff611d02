use Rattle.std.proofs.Common.{◌+◌, subst, sym, true≢false, ◌∙◌}
use Rattle.judge.specs.Locksets.Pairs.{PairsTellUnprotected}
use Rattle.judge.proofs.locksets.TellingLocksets.{telling_locksets_next_none, telling_locksets_next_told, telling_locksets_next_unasked}
use Rattle.judge.proofs.locksets.lockset_finder.add_finder_answer.Goals as goal

pub returns-in_ok-push : goal.returns-in_ok-push
returns-in_ok-push c = λ j tells told.
    let answer = c.in-Some.ensures j tells in
    subst (PairsTellUnprotected c.args.asked j (c.args.address + 1)) (sym c.in_ok-push.ensures.items)
    (telling_locksets_next_told c.in-Some.answer answer.0 (c.is_unprotected_asked.ensures.0 c.if-is_unprotected_asked.true) answer.1 told)

pub returns-else-is_unprotected_asked : goal.returns-else-is_unprotected_asked
returns-else-is_unprotected_asked c = λ j tells told.
    let answer = c.in-Some.ensures j tells in
    telling_locksets_next_unasked c.in-Some.answer answer.0
    (λ is. true≢false (sym (c.is_unprotected_asked.ensures.1 is) ∙ c.if-is_unprotected_asked.false)) answer.1 told

pub returns-in_default : goal.returns-in_default
returns-in_default c = λ j tells told. telling_locksets_next_none (c.in_default.ensures j tells) told
