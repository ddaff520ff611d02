use Rattle.std.proofs.Common.{refl, ap}
use Rattle.journal.specs.ClockEntry.{entry}
use Rattle.journal.proofs.Passes.ClockZeros.{clock_zeros_at}
use Rattle.journal.proofs.Passes.FirstClocks.{first_clocks}
use Rattle.journal.proofs.event_clocks.EventClocks.new.Goals as goal

pub returns-clause-clocks : goal.returns-clause-clocks
returns-clause-clocks c =
    first_clocks c.in_ok-zero_clocks.ensures.long c.requires (record {
      gone = refl;
      processors = c.in_ok-zero_clocks.ensures.zeros;
      locks = c.new.ensures;
      flags = c.new-2.ensures;
      episodes = λ n q. ap (λ xs. entry xs n q) c.new-3.ensures.items;
      arrivals = clock_zeros_at 16;
      departures = clock_zeros_at 16;
    })
