use Rattle.std.proofs.Common.{subst}
use Rattle.lrc_script.specs.Prelude.{plan_of}
use Rattle.lrc_tester.specs.Following.{IsFollowing}
use Rattle.lrc_tester.proofs.Followed.{followed_exactly}
use Rattle.lrc_tester.proofs.follows_command.answer_of.Goals as goal

pub returns : goal.returns
returns c =
    followed_exactly _ _ _ _ (c.has_sizes.ensures.0 c.if-not-has_sizes.false)
    (subst (λ es. IsFollowing (plan_of c.args.script.now) es c.in_ok-follow.field-0) c.deref.ensures.value c.in_ok-follow.ensures)
