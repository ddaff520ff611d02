use Rattle.std.proofs.Common.{◌≡◌, length, ap, ◌∙◌, arith}
use Rattle.std.proofs.lemmas.Grind.{elements}
use Rattle.book.specs.BookInvariant.{book_invariant_state}
use Rattle.journal.specs.Log.{Log}
use Rattle.book.proofs.Calling.IdleCalls.{idle_call_block_fits}
use Rattle.book.proofs.book.Book.audit.Goals.{In_ok-copy}
use Rattle.book.proofs.book.Book.audit.Goals.{After-parts}
use Rattle.book.proofs.book.Book.audit.Goals as goal

-- the parts hold the book as it is found
same : (c : After-parts) → book_invariant_state c.parts.inside ≡ c.args.self.now
same c = c.parts.view_is ∙ c.deref_mut-parts.ensures.value ∙ c.self.view_is

pub append_in_journal_room-requires-clause-processor : goal.append_in_journal_room-requires-clause-processor
append_in_journal_room-requires-clause-processor c =
    (idle_call_block_fits c.parts.inside (same (goal.at.append_in_journal_room-requires-clause-processor c).After-parts)
    c.in_ok-make_journal_room.ensures.same c.requires.call).0

pub append_in_journal_room-requires-clause-address : goal.append_in_journal_room-requires-clause-address
append_in_journal_room-requires-clause-address c =
    (idle_call_block_fits c.parts.inside (same (goal.at.append_in_journal_room-requires-clause-address c).After-parts)
    c.in_ok-make_journal_room.ensures.same c.requires.call).1

-- the copy is of the journal before the block
copied : (c : In_ok-copy) → c.in_ok-copy.copy ≡ record c.parts.inside.journal { room = length c.args.block.now }
copied c =
    c.in_ok-copy.ensures ∙ ap (λ (l : Log). record l { room = length c.args.block.now })
    c.in_ok-make_journal_room.ensures.same

pub append_in_journal_room-requires-2-clause-processor : goal.append_in_journal_room-requires-2-clause-processor
append_in_journal_room-requires-2-clause-processor c =
    (idle_call_block_fits c.parts.inside (same (goal.at.append_in_journal_room-requires-2-clause-processor c).After-parts)
    (copied (goal.at.append_in_journal_room-requires-2-clause-processor c).In_ok-copy) c.requires.call).0

pub append_in_journal_room-requires-2-clause-address : goal.append_in_journal_room-requires-2-clause-address
append_in_journal_room-requires-2-clause-address c =
    (idle_call_block_fits c.parts.inside (same (goal.at.append_in_journal_room-requires-2-clause-address c).After-parts)
    (copied (goal.at.append_in_journal_room-requires-2-clause-address c).In_ok-copy) c.requires.call).1

pub invariant_of-parts-2 : goal.invariant_of-parts-2
invariant_of-parts-2 c = grind (arith, elements)
