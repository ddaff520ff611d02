use Rattle.std.proofs.Common.{◌≡◌, ◌≤◌, vec_len, vec_capacity}
use Rattle.turn.proofs.DealingAndGatheringChairs.{DealingChairs}
use Rattle.turn.proofs.lock.TurnLock.deal.Given as goal

abbrev pub invariant-loop : goal.invariant-loop
invariant-loop g l =
    DealingChairs (g.K.Keeper.first l.self.table.shared.key.book.value) l.self.table.shared.table_id g.row.ENTRIES
    l.self.layout.seats l.counter l.rest l.chairs.items
    × (l.self.layout.seats ≤ vec_capacity l.chairs) × (vec_len l.chairs ≡ l.counter)
