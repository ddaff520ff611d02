use Rattle.std.proofs.Common.{◌≡◌, ◌∙◌, refl, arith}
use Rattle.std.proofs.lemmas.Grind.{elements}
use Rattle.book.specs.BookInvariant.{book_invariant_state}
use Rattle.book.proofs.Calling.IdleCalls.{idle_call_block_fits}
use Rattle.book.proofs.book.Book.last.Goals.{After-parts}
use Rattle.book.proofs.book.Book.last.Goals as goal

-- the parts hold the book as it is found
same : (c : After-parts) → book_invariant_state c.parts.inside ≡ c.args.self.now
same c = c.parts.view_is ∙ c.deref_mut-parts.ensures.value ∙ c.self.view_is

pub append_in_journal_room-requires-clause-processor : goal.append_in_journal_room-requires-clause-processor
append_in_journal_room-requires-clause-processor c =
    (idle_call_block_fits {room = c.parts.inside.journal.room} c.parts.inside
    (same (goal.at.append_in_journal_room-requires-clause-processor c).After-parts) refl c.requires.call).0

pub append_in_journal_room-requires-clause-address : goal.append_in_journal_room-requires-clause-address
append_in_journal_room-requires-clause-address c =
    (idle_call_block_fits {room = c.parts.inside.journal.room} c.parts.inside
    (same (goal.at.append_in_journal_room-requires-clause-address c).After-parts) refl c.requires.call).1

pub invariant_of-parts : goal.invariant_of-parts
invariant_of-parts c = grind (arith, elements)
