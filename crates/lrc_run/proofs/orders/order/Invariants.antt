use Rattle.std.proofs.Common.{◌≡◌, ◌-◌}
use Rattle.std.specs.List.Sorted.{IsPermutation}
use Rattle.conformance.specs.RoundOrders.{round_order_exchanged, round_ordered}
use Rattle.lrc_run.proofs.orders.order.Given as goal

abbrev pub invariant-loop-i : goal.invariant-loop-i
invariant-loop-i l = record {
  drawn : round_order_exchanged (l.i - 1) l.rng l.list ≡ round_ordered l.fn.rng l.fn.list;
  same : IsPermutation l.fn.list l.list;
}
