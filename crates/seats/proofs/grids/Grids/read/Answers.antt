use Rattle.std.proofs.Common.{refl}
use Rattle.seats.proofs.Rounds.EvenRounds.{even_round_is, even_round_is_not}
use Rattle.seats.proofs.grids.Grids.read.Goals as goal

pub returns-then-round-eq0 : goal.returns-then-round-eq0
returns-then-round-eq0 c = let even = even_round_is c.args.round c.if-round-eq0.true in rw even refl

pub returns-else-round-eq0 : goal.returns-else-round-eq0
returns-else-round-eq0 c = let odd = even_round_is_not c.args.round c.if-round-eq0.false in rw odd refl
