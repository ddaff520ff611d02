use Rattle.seats.proofs.Rounds.StencilRounds.{stencil_round_first, stencil_round_later}
use Rattle.seats.proofs.stencil.made_stencil_word.Goals as goal

pub returns-then-round-eq0 : goal.returns-then-round-eq0
returns-then-round-eq0 g c =
    stencil_round_first g.T.Stencil.steps c.args.round c.args.cell c.first.result c.args.seat.now c.if-round-eq0.true c.first.ensures

pub returns-else-round-eq0 : goal.returns-else-round-eq0
returns-else-round-eq0 g c = stencil_round_later g.T.Stencil.steps c.args.round c.args.cell c.args.seat.now _ c.next.result c.if-round-eq0.false c.next.ensures
