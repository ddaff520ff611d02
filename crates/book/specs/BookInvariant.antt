-- How the book holds its value.
use Rattle.std.specs.Prelude.{◌+◌, ◌^◌, ◌≤◌, length, map}
use Rattle.std.specs.Option.{option_map}
use Rattle.base.specs.Limits.{most_events}
use Rattle.journal.specs.ClosingKinds.{closing_awaits_kind}
use Rattle.book.specs.declared.protocol.Protocol.TheInside.{Inside}
use Rattle.book.specs.BookState.{BookState}

-- the journal's room, as contracts see it, is that for what is owing to `finish`
abbrev pub book_invariant_state : Inside → BookState
book_invariant_state b = record {
  words = b.words;
  journal = record b.journal { room = b.owing };
  closed = b.closed;
  times = b.times.items;
  locks = b.locks;
  barrier = b.barrier;
  flags = b.flags.items;
  awaits = map (option_map closing_awaits_kind) b.awaits.items;
  transit = b.transit;
}

-- what is owing has room
pub record BookInvariant (b : Inside) : Type 0 where
  pub room : b.owing ≤ b.journal.room
  pub owing : b.owing ≤ 2 ^ 12
  pub few : length b.journal.events + b.owing ≤ most_events + 2 ^ 12
