use Rattle.std.proofs.Common.{subst, sym}
use Rattle.causes.specs.News.{AreIncomingNews}
use Rattle.causes.proofs.hand_over_lists.hand_overs_by.Goals as goal

pub all_hand_overs-requires-clause-news : goal.all_hand_overs-requires-clause-news
all_hand_overs-requires-clause-news c =
    subst (λ j. AreIncomingNews j c.deref.result.now) (sym c.events.ensures.value)
    (subst (AreIncomingNews c.args.history.now.events) (sym c.deref.ensures.value) c.in_ok-rows.ensures.news)
