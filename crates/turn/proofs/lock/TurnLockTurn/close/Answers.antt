use Rattle.std.proofs.Common.{◌≡◌, length, map, Some, sym, ◌∙◌, subst}
use Rattle.turn.specs.Chairs.{chair_view}
use Rattle.turn.proofs.DealingAndGatheringChairs.{gathering_chairs_ends}
use Rattle.turn.proofs.lock.TurnLockTurn.close.Goals as goal

pub unreachable-requires : goal.unreachable-requires
unreachable-requires g c =
    let key = c.args.self.table.shared.key in
    let long : length c.args.chairs.items ≡ key.seats = c.requires.0 ∙ sym c.args.self.sized.0 in
    let last = gathering_chairs_ends g.row.B.Denot g.row.K-View.Denot g.K.Keeper.fact (g.W.Board.shows key.seats) key.entries
    key.seats c.gather-whole.result.id c.gather-whole.result.me.0 c.args.chairs.items _ _ c.take-slot.result
    c.gather-whole.ensures.whole long (λ k x e. (c.requires.1 k x e).2) c.close_with-closed.ensures.values.2
    c.take-slot.ensures.value in
    c.in_default.not-Some last.0 last.1

pub returns : goal.returns
returns g c =
    let key = c.args.self.table.shared.key in
    let long : length c.args.chairs.items ≡ key.seats = c.requires.0 ∙ sym c.args.self.sized.0 in
    let last = gathering_chairs_ends g.row.B.Denot g.row.K-View.Denot g.K.Keeper.fact (g.W.Board.shows key.seats) key.entries
    key.seats c.gather-whole.result.id c.gather-whole.result.me.0 c.args.chairs.items _ _ c.take-slot.result
    c.gather-whole.ensures.whole long (λ k x e. (c.requires.1 k x e).2) c.close_with-closed.ensures.values.2
    c.take-slot.ensures.value in
    let is : Some last.0 ≡ Some c.in-Some.book = sym last.1 ∙ c.in-Some.is in
    let same : last.0 ≡ c.in-Some.book = cc in
    subst (λ (b : g.row.B.Denot). g.K.Keeper.fact b (map chair_view c.args.chairs.items)) same last.2
