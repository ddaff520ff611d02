use Rattle.std.proofs.Common.{◌∙◌, arith}
use Rattle.turn.proofs.lock.tests.enters_once.Goals as goal

pub leave-requires : goal.leave-requires
leave-requires g c = let entered = c.in_ok-held.ensures.entered in
    (omega arith, (entered.2.0 ∙ c.requires.own, (c.in_ok-held.book, entered.4, λ views at fact. (tt, tt, tt))))
