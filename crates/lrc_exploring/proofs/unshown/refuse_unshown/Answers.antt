use Rattle.std.proofs.Common.{subst}
use Rattle.lrc_explore.specs.Showings.{AreShowingWords}
use Rattle.lrc_exploring.proofs.unshown.refuse_unshown.Goals as goal

pub returns-in-None-clause-shown : goal.returns-in-None-clause-shown
returns-in-None-clause-shown c =
    subst (λ shown. AreShowingWords shown c.args.words.now) c.deref.ensures.value c.in-None.ensures
