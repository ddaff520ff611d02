use Rattle.turn.proofs.TakingTurns.{take_turns}
use Rattle.turn.proofs.lock.TurnLock.turns_law.Goals as goal

pub returns : goal.returns
returns g c s dealt = take_turns c.lawful.ensures dealt.keeps
