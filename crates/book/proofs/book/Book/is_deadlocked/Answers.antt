use Rattle.std.proofs.Common.{◌≡◌, ◌<◌, ◌∙◌, Option, Some, List, length, map, slice_get, ap, sym, subst}
use Rattle.std.specs.Option.{option_map}
use Rattle.journal.specs.declared.closing_and_awaited.Awaited.{Awaited}
use Rattle.journal.specs.declared.closing_and_awaited.Awaited.TheVariants.{Signal}
use Rattle.journal.specs.ClosingKinds.{closing_awaits_kind}
use Rattle.book.specs.BookInvariant.{book_invariant_state}
use Rattle.book.proofs.Calling.WaitingPlaces.{waiting_place_map}
use Rattle.book.proofs.Calling.NamedWaiting.{IsNamedWaitingRead, StandsForNamedWaiting, stands_for_named_waiting, named_waiting_deadlocked}
use Rattle.book.proofs.book.Book.is_deadlocked.Goals.{After-parts}
use Rattle.book.proofs.book.Book.is_deadlocked.Goals as goal

-- the parts hold the book as it is found
same : (c : After-parts) → book_invariant_state c.parts.inside ≡ c.args.self.now
same c = c.parts.view_is ∙ c.deref-parts.ensures ∙ c.self.view_is

pub all_wait_in_vain-requires-clause-flags : goal.all_wait_in_vain-requires-clause-flags
all_wait_in_vain-requires-clause-flags c p f at =
    let stands = subst StandsForNamedWaiting (sym (same (goal.at.all_wait_in_vain-requires-clause-flags c).After-parts))
    (stands_for_named_waiting c.args.self.now c.requires.told) in
    subst (λ fs. f < length fs) (sym c.deref-2.ensures.value)
    (stands.flags p f ((waiting_place_map c.parts.inside.awaits.items p (Signal f)).1
    (subst (λ (xs : List (Option Awaited)). slice_get xs p ≡ Some (Some (Signal f))) c.deref.ensures.value at)))

pub returns : goal.returns
returns c s h told =
    let read : IsNamedWaitingRead (book_invariant_state c.parts.inside) c.args.self.now c.deref.result.now c.deref-2.result.now = record {
      same = same (goal.at.returns c).After-parts;
      awaits_are = ap (map (option_map closing_awaits_kind)) (sym c.deref.ensures.value);
      flags_are = c.deref-2.ensures.value;
    } in
    named_waiting_deadlocked read c.all_wait_in_vain.result c.all_wait_in_vain.ensures s h told
