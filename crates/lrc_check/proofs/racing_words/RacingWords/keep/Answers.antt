use Rattle.std.proofs.Common.{refl}
use Rattle.lrc_check.proofs.RacingWords.{racing_words_kept_new, racing_words_kept_old}
use Rattle.lrc_check.proofs.racing_words.RacingWords.keep.Goals as goal

pub returns-in_ok-push : goal.returns-in_ok-push
returns-in_ok-push c = λ j e next is.
    racing_words_kept_new j e c.args.self.now _ c.args.word _ is next c.in_ok-insert.ensures.added c.if-branch.true c.in_ok-insert.ensures.keys
    c.in_ok-push.ensures.items

pub returns-else-branch : goal.returns-else-branch
returns-else-branch c = λ j e next is.
    racing_words_kept_old j e c.args.self.now _ c.args.word _ is next c.in_ok-insert.ensures.added c.if-branch.false c.in_ok-insert.ensures.keys refl
