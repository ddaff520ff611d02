-- What a take would bring, before it is taken.
use Rattle.std.proofs.Common.{ℕ, ◌≡◌, Some, Result, Ok, Err, IfErr, IfOk, OnOk, ◌≢◌, ◌⊎◌, ◌↔◌, inl, inr, EachIndex, List, count_by, length, slice_index, ap, arith}
use Rattle.std.proofs.lemmas.Option.{slice_get_within}
use Rattle.journal.specs.declared.event.Event.{Event}
use Rattle.journal.specs.Sizes.{Sizes}
use Rattle.journal.specs.WellFormed.{Ready}
use Rattle.interval.specs.KeptClosings.{is_kept_closing_of_page}
use Rattle.interval.specs.SentIntervals.{SentRecord}
use Rattle.transit.specs.Letters.{letter}
use Rattle.transit.specs.declared.message.Message.{Message}
use Rattle.book.specs.Messages.{brought_by_message}
use Rattle.book.specs.AllowedCalls.{IsProcessorOfAllowedCall, AllowsSomeTakeCall}
use Rattle.book.proofs.Parts.ProcessorTimes.{processor_times_index_in_range}
use Rattle.book.specs.BookState.{BookState}
use Rattle.book.specs.RepresentedHistory.{Represents}
use Rattle.book.specs.Refusals.{IsRoomRefusal}
use Rattle.book.specs.declared.refused.Refused.{Refused}
use Rattle.book.specs.declared.refused.Refused.TheVariants.{NotYet}
use Rattle.cluster.specs.Copies.PageReplica.{PageReplica}
use Rattle.cluster.specs.Copies.AfterNews.{CopiesHaveRoomForNews}
use Rattle.cluster.specs.TakingCalls.{HasRoomForTakingCall}

-- room by counts of these records is room for them
pub prepared_room_for : (counts : List ℕ) (sent : List SentRecord) (copies : List PageReplica) → length counts ≡ length copies
    → EachIndex counts (λ n. slice_index counts n ≡ count_by (is_kept_closing_of_page n) sent) → CopiesHaveRoomForNews counts copies
    → HasRoomForTakingCall sent copies
prepared_room_for counts sent copies long are room n c at =
    let inside = slice_get_within copies n c at in
    let enough = room n c at in
    let is = are n (omega arith) in
    omega arith

pub prepared_room_ok : {A E : Type 0} (r : Result A E) (counts : List ℕ) (sent : List SentRecord) (copies : List PageReplica)
    → length counts ≡ length copies → EachIndex counts (λ n. slice_index counts n ≡ count_by (is_kept_closing_of_page n) sent)
    → OnOk r (CopiesHaveRoomForNews counts copies) → OnOk r (HasRoomForTakingCall sent copies)
prepared_room_ok (Ok a) counts sent copies long are room = prepared_room_for counts sent copies long are room
prepared_room_ok (Err e) counts sent copies long are room = tt

-- what is taken is what would have been
pub prepared_room_brought : {E : Type 0} (r : Result Message E) (b : BookState) (p : ℕ) (copies : List PageReplica)
    → IfOk r (λ m. (letter m).notices ≡ brought_by_message b p) → HasRoomForTakingCall (brought_by_message b p) copies
    → IfOk r (λ m. HasRoomForTakingCall (letter m).notices copies)
prepared_room_brought (Ok m) b p copies same room = rw same room
prepared_room_brought (Err e) b p copies same room = tt

-- one who is ready isn't told that it is early
pub prepared_room_never_absent : {A : Type 0} (r : Result A Refused) (b : BookState) (p : ℕ) → AllowsSomeTakeCall b p
    → ((s : Sizes) (h : List Event) → Represents s h b → Ready s h p)
    → ((s : Sizes) (h : List Event) → Represents s h b → r ≡ Err NotYet ↔ (¬ Ready s h p)) → r ≢ Err NotYet
prepared_room_never_absent r b p may ready absent is =
    let by = may.take.by in
    (absent by.sizes by.history by.told).0 is (ready by.sizes by.history by.told)

-- so the book's answer is one of the others
pub room_prepared_in_time : {A : Type 0} (r : Result A Refused) → r ≢ Err NotYet → IfErr r (λ e. (e ≡ NotYet) ⊎ IsRoomRefusal e)
    → IfErr r IsRoomRefusal
room_prepared_in_time (Ok a) never only = tt
room_prepared_in_time (Err e) never only =
    elim only [ inl late ↦ absurd (never (ap (λ (x : Refused). Err x) late)) | inr want ↦ want ]

-- and these are no NotYet
pub prepared_room_never_late : {A : Type 0} (r : Result A Refused) → IfErr r IsRoomRefusal → r ≢ Err NotYet
prepared_room_never_late (Ok a) only is = absurd cc
prepared_room_never_late (Err e) only is =
    let same : e ≡ NotYet = cc is in
    elim only [ inl full ↦ absurd (cc (full, same)) | inr none ↦ absurd (cc (none, same)) ]

-- who waits for something is a processor
pub room_preparing_may_look : (b : BookState) (p : ℕ) → AllowsSomeTakeCall b p → IsProcessorOfAllowedCall b p
room_preparing_may_look b p may =
    let by = may.take.by in
    record { by = by; processor = processor_times_index_in_range by.sizes by.history b p (Some may.kind) by.told may.take.waits }
