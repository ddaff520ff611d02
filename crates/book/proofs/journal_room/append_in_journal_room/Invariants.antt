use Rattle.std.proofs.Common.{◌≡◌, ◌-◌, ◌++◌, take}
use Rattle.book.proofs.journal_room.append_in_journal_room.Given as goal

abbrev pub invariant-loop-event : goal.invariant-loop-event
invariant-loop-event l =
    l.journal ≡ record l.fn.journal
    { events = l.fn.journal.events ++ take l.event-index l.events; room = l.fn.journal.room - l.event-index }
