-- The message for a processor that waits, and what it brings.
use Rattle.std.specs.Prelude.{ℕ, Bool, Option, Some, None, List, [], slice_index_or}
use Rattle.std.specs.Option.{option_map, option_and_then, is_some}
use Rattle.journal.specs.declared.event.Kind.{Kind}
use Rattle.journal.specs.declared.event.Kind.TheVariants.{Await}
use Rattle.interval.specs.SentIntervals.{SentRecord}
use Rattle.interval.specs.KeptClosings.{KeptClosings, kept_closings_between}
use Rattle.transit.specs.Letters.{Letter}
use Rattle.transit.specs.Letters.LetterKind.{signal}
use Rattle.book.specs.BookState.{BookState, book_state_time_of}

-- the signal of a flag with this time, to one with that timestamp
abbrev pub signal_message : KeptClosings → List ℕ → List ℕ → Letter
signal_message c t own = record { kind = signal; time = t; notices = kept_closings_between c own t }

-- what has come for p, with the timestamp `own`, if it waits for this: the flag's signal as the flag stands now,
-- else its mail
abbrev pub message_among : KeptClosings → List (Option (List ℕ)) → List (Option Letter) → List ℕ → ℕ → Kind → Option Letter
message_among c flags mail own p (Await f) =
    option_map (λ (t : List ℕ). signal_message c t own) (slice_index_or flags f None)
message_among c flags mail own p _ = slice_index_or mail p None

-- p's message if it waits for this
abbrev pub message_for : BookState → ℕ → Kind → Option Letter
message_for b p k = message_among b.closed b.flags b.transit (book_state_time_of b p) p k

-- whether it has come
abbrev pub message_has_come : List (Option (List ℕ)) → List (Option Letter) → ℕ → Kind → Bool
message_has_come flags mail p (Await f) = is_some (slice_index_or flags f None)
message_has_come flags mail p _ = is_some (slice_index_or mail p None)

-- what is sent with a message, if there is one
abbrev pub sent_with_message : Option Letter → List SentRecord
sent_with_message None = []
sent_with_message (Some m) = m.notices

-- what a take by p would bring: nothing if p waits for nothing, or if that hasn't come
abbrev pub brought_by_message : BookState → ℕ → List SentRecord
brought_by_message b p = sent_with_message (option_and_then (message_for b p) (slice_index_or b.awaits p None))
