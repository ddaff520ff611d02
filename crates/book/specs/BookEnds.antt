-- How a call of the book ends.
use Rattle.std.specs.Prelude.{ℕ, ◌≡◌, ◌+◌, List, length, Result, OnOk, OnErr, IfErr}
use Rattle.journal.specs.declared.event.Event.{Event}
use Rattle.book.specs.declared.refused.Refused.{Refused}
use Rattle.book.specs.BookState.{BookState}
use Rattle.book.specs.Transitions.{transition_handed_in}
use Rattle.book.specs.Refusals.{IsFullRefusal, IsRoomRefusal}

-- the call makes the book `after` of the old one, with this many events in its journal; or it is refused, if the
-- journal or memory has no room, and leaves the book as it was
pub record BookEndsIn {A : Type 0} (events : ℕ) (after old new : BookState) (result : Result A Refused) : Type 0 where
  pub ok : OnOk result (new ≡ after)
  pub err : OnErr result (new ≡ old)
  pub full : IsFullRefusal events result
  pub only : IfErr result IsRoomRefusal

-- the call hands the block in
abbrev pub BookEndsHandedIn : {A : Type 0} → List Event → BookState → BookState → Result A Refused → Type 0
BookEndsHandedIn block old new result = BookEndsIn (length old.journal.events + length block) (transition_handed_in old block) old new result

-- the call hands the block in, and closes the interval by an event, which makes this of the book
abbrev pub BookEndsClosed : {A : Type 0} → List Event → (BookState → BookState) → BookState → BookState → Result A Refused → Type 0
BookEndsClosed block f old new result =
    BookEndsIn (length old.journal.events + length block + 1) (f (transition_handed_in old block)) old new result
