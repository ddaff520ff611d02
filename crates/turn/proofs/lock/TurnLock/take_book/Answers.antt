use Rattle.std.proofs.Common.{Some}
use Rattle.turn.proofs.AllowedSteps.{allowed_step_taken_last}
use Rattle.turn.proofs.lock.TurnLock.take_book.Goals as goal

pub exchange-taken-requires : goal.exchange-taken-requires
exchange-taken-requires g c = let full = c.requires.full in
    (c.requires.own, (Some full.0, allowed_step_taken_last c.args.seat.now.me.1 (Some full.0) full.1))
