use Rattle.test_crews.proofs.counters.Sums.{two_new}
use Rattle.test_crews.proofs.counters.counting.open_two.Goals as goal

pub returns-clause-first : goal.returns-clause-first
returns-clause-first g c =
    let made = c.in_ok-turn.ensures in
    (two_new (g.T.Turn.id c.in_ok-turn.turn) c.in_ok-turn.chairs.items c.pop.new.self.items c.pop-2.new.self.items
    c.in-Some-pop.first c.in-Some.second made.1 made.2 c.in-Some.ensures.items c.in-Some-pop.ensures.items).0

pub returns-clause-second : goal.returns-clause-second
returns-clause-second g c =
    let made = c.in_ok-turn.ensures in
    (two_new (g.T.Turn.id c.in_ok-turn.turn) c.in_ok-turn.chairs.items c.pop.new.self.items c.pop-2.new.self.items
    c.in-Some-pop.first c.in-Some.second made.1 made.2 c.in-Some.ensures.items c.in-Some-pop.ensures.items).1
