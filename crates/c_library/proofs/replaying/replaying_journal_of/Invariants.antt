use Rattle.std.proofs.Common.{◌≡◌, ◌+◌, length, take}
use Rattle.journal.specs.Base.{no_base}
use Rattle.c_library.proofs.replaying.replaying_journal_of.Given as goal

abbrev pub invariant-loop-event : goal.invariant-loop-event
invariant-loop-event l = record {
  processors : l.journal.processors ≡ l.processors;
  addresses : l.journal.addresses ≡ l.addresses;
  events : l.journal.events ≡ take l.event-index l.events;
  room : l.event-index + l.journal.room ≡ length l.events;
  base : l.journal.base ≡ no_base l.addresses;
}
