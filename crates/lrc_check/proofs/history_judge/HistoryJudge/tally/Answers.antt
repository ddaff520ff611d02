use Rattle.std.proofs.Common.{arith}
use Rattle.lrc_check.proofs.history_judge.HistoryJudge.tally.Goals as goal

pub overflow_add-self-2 : goal.overflow_add-self-2
overflow_add-self-2 c =
    let few = c.requires.next.1.few in
    let costs = c.requires.next.1.tallied.costs in
    let one = c.traffic_of_next-cost.ensures.few in
    omega (arith, few, costs.0, one.0)

pub overflow_add-self-3 : goal.overflow_add-self-3
overflow_add-self-3 c =
    let few = c.requires.next.1.few in
    let costs = c.requires.next.1.tallied.costs in
    let one = c.traffic_of_next-cost.ensures.few in
    omega (arith, few, costs.1, one.1)

pub overflow_add-self-4 : goal.overflow_add-self-4
overflow_add-self-4 c =
    let few = c.requires.next.1.few in
    let costs = c.requires.next.1.tallied.costs in
    let one = c.traffic_of_next-cost.ensures.few in
    omega (arith, few, costs.2, one.2)
