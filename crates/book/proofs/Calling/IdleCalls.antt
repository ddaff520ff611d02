-- What the calls of an idle processor rest on, read off the book.
use Rattle.std.proofs.Common.{◌≡◌, ℕ, ◌-◌, ◌<◌, ◌≤◌, List, [], ◌∷◌, ◌++◌, slice_set, length, None, slice_index, slice_index_or, ◌==◌, ◌&&◌, true, subst, sym, refl, ap, ◌∙◌, arith}
use Rattle.std.proofs.lemmas.Option.{slice_get-get_or, get_or_from_slice_get}
use Rattle.std.proofs.lemmas.List.Sums.{count_by-le-length}
use Rattle.journal.specs.declared.event.Event.{Event}
use Rattle.journal.specs.declared.event.Kind.{Kind}
use Rattle.journal.specs.declared.event.Kind.TheVariants.{Load, Store}
use Rattle.journal.specs.Sizes.{Sizes, addresses}
use Rattle.journal.specs.Events.{event_count, event_closes}
use Rattle.journal.specs.EventsInRange.{EventAddressInRange}
use Rattle.journal.specs.WellFormed.{WellFormedKindInRange}
use Rattle.journal.specs.Log.{Log}
use Rattle.journal.specs.AwaitedNext.{awaited_next}
use Rattle.page.specs.PageChanges.{PageChanges}
use Rattle.vtime.specs.TicksAndJoins.{tick}
use Rattle.interval.specs.SentIntervals.{ClosedInterval}
use Rattle.interval.specs.KeptClosings.{kept_closings_pushed}
use Rattle.journal.specs.DidEvent.{event}
use Rattle.book.specs.Transitions.{transition_handed_in, transition_open_interval, transition_closed_by}
use Rattle.book.specs.declared.protocol.Protocol.TheInside.{Inside}
use Rattle.book.specs.BookInvariant.{book_invariant_state}
use Rattle.book.specs.BookState.{BookState, book_state_time_of}
use Rattle.book.specs.AllowedCalls.{IsAllowedInnerCall, AllowsFlushCall, AllowsClosingCall, IsOpenForAllowedCall}
use Rattle.book.proofs.Parts.HeldHistory.{held_history_happened, held_history_long}
use Rattle.book.proofs.Parts.ProcessorTimes.{processor_times_index_in_range, processor_time_stamp, processor_time_number}

-- numbers of the book that a call of p needs
pub record StandsForIdleCall (b : BookState) (p : ℕ) : Type 0 where
  pub journal : p < b.journal.processors
  pub times : p < length b.times
  pub awaits : p < length b.awaits
  pub next : p < length b.closed.next
  pub own : p < length (book_state_time_of b p)
  pub number : slice_index (book_state_time_of b p) p ≡ slice_index b.closed.next p
  pub few : slice_index (book_state_time_of b p) p ≤ held_history_happened b.journal
  pub pushed : b.closed.pushed ≤ held_history_happened b.journal

pub stands_for_idle_call : (b : BookState) (p : ℕ) (block : List Event) → AllowsClosingCall b p block → StandsForIdleCall b p
stands_for_idle_call b p block may =
    let s = may.by.sizes in
    let h = may.by.history in
    let told = may.by.told in
    let lt = processor_times_index_in_range s h b p None told may.hands_in.idle in
    let processors = told.sizes.processors in
    let times = told.times.long in
    let awaits = told.awaits.long in
    let next = told.closed.next_long in
    let stamp = (processor_time_stamp s h b p told lt).long in
    let number = processor_time_number s h b p told lt in
    let next_is = told.closed.next p lt in
    let long = held_history_long b.journal h told.holds in
    let counted = own_at_most h p in
    let closings = count_by-le-length (λ (e : Event). event_closes e.kind) h in
    let count = told.closed.count in
    record {
      journal = omega arith;
      times = omega arith;
      awaits = omega arith;
      next = omega arith;
      own = omega arith;
      number = number ∙ sym next_is;
      few = omega arith;
      pushed = omega arith;
    }
  where
    own_at_most : (es : List Event) (q : ℕ) → event_count event_closes es q ≤ length es
    own_at_most es q = count_by-le-length (λ (e : Event). (e.processor == q) && event_closes e.kind) es

idle_call_address_within : (s : Sizes) (k : Kind) → WellFormedKindInRange s k → EventAddressInRange (addresses s) k
idle_call_address_within s (Load a v) range = range
idle_call_address_within s (Store a v) range = range
idle_call_address_within s _ range = tt

-- who may call may flush
pub idle_call_flushes : (b : BookState) (p : ℕ) (block : List Event) → AllowsClosingCall b p block → AllowsFlushCall b p block
idle_call_flushes b p block may = let hands_in = may.hands_in in record {
  by = may.by;
  gives = record { waits = (None, hands_in.idle, λ some. absurd (some refl)); inner = hands_in.inner };
}

-- the block's events may be appended to the journal
pub idle_call_block_fits : {now : BookState} {log : Log} {p room : ℕ} {block : List Event} (b : Inside) → book_invariant_state b ≡ now
    → log ≡ record b.journal { room = room } → AllowsFlushCall now p block
    → ((k : ℕ) (d : Event) → k < length block → (slice_index_or block k d).processor < log.processors)
    × ((k : ℕ) (d : Event) → k < length block → EventAddressInRange log.addresses (slice_index_or block k d).kind)
idle_call_block_fits {now} {log} {p} {room} {block} b same made may = (processor, address)
  where
    inner : (k : ℕ) (d : Event) → k < length block → IsAllowedInnerCall may.by.sizes p (slice_index_or block k d)
    inner k d lt = may.gives.inner k (slice_index_or block k d) (slice_get-get_or block k d lt)

    processor : (k : ℕ) (d : Event) → k < length block → (slice_index_or block k d).processor < log.processors
    processor k d lt =
        let mine = (inner k d lt).mine in
        let within = processor_times_index_in_range may.by.sizes may.by.history now p may.gives.waits.0 may.by.told may.gives.waits.1 in
        let processors = may.by.told.sizes.processors in
        let is = ap (λ (l : Log). l.processors) made ∙ ap (λ (x : BookState). x.journal.processors) same in
        omega arith

    address : (k : ℕ) (d : Event) → k < length block → EventAddressInRange log.addresses (slice_index_or block k d).kind
    address k d lt =
        subst (λ m. EventAddressInRange m (slice_index_or block k d).kind)
        (sym (ap (λ (l : Log). l.addresses) made ∙ ap (λ (x : BookState). x.journal.addresses) same
        ∙ may.by.told.sizes.addresses))
        (idle_call_address_within may.by.sizes (slice_index_or block k d).kind (inner k d lt).in_range)

-- an event that closes an interval has no address
pub idle_call_closing_address : (n : ℕ) (k : Kind) → event_closes k ≡ true → EventAddressInRange n k
idle_call_closing_address n (Load a v) closes = absurd cc
idle_call_closing_address n (Store a v) closes = absurd cc
idle_call_closing_address n _ closes = tt

-- an item within a list, read with another default
pub idle_call_default_same : {A : Type 0} (xs : List A) (i : ℕ) (d e : A) → i < length xs
    → slice_index_or xs i d ≡ slice_index_or xs i e
idle_call_default_same xs i d e lt = get_or_from_slice_get xs i (slice_index_or xs i e) d (slice_get-get_or xs i e lt)

-- the journal after a block and an event
pub idle_call_logs_are : {b c d : Log} → (a : Log) (owing : ℕ) (block : List Event) (e : Event) → b ≡ record a { room = b.room }
    → c ≡ record b { events = b.events ++ block; room = b.room - length block }
    → d ≡ record c { events = c.events ++ e ∷ []; room = c.room - 1 }
    → record d { room = owing } ≡ record a { events = (a.events ++ block) ++ e ∷ []; room = owing }
idle_call_logs_are a owing block e first second third = cc

-- the book after p handed in a block and closed its interval: each part that changes, and the others as they were
pub record IsClosedByIdleCall (b : BookState) (p : ℕ) (k : Kind) (block : List Event) (records : List PageChanges) (new : BookState)
    : Type 0 where
  pub journal : new.journal ≡ record b.journal { events = (b.journal.events ++ block) ++ event p k ∷ [] }
  pub closed : new.closed ≡ kept_closings_pushed b.closed (transition_open_interval b p records)
  pub times : new.times ≡ slice_set b.times p (tick (book_state_time_of b p) p)
  pub awaits : new.awaits ≡ slice_set b.awaits p (awaited_next k)
  pub others : new ≡ record b { journal = new.journal; closed = new.closed; times = new.times; awaits = new.awaits }

pub idle_call_closed_is : (b : BookState) (p : ℕ) (k : Kind) (block : List Event) (records : List PageChanges) (new : BookState)
    → IsClosedByIdleCall b p k block records new → new ≡ transition_closed_by (transition_handed_in b block) p k records
idle_call_closed_is b p k block records new is =
    let journal = is.journal in
    let closed = is.closed in
    let times = is.times in
    let awaits = is.awaits in
    is.others ∙ cc

pub idle_call_stands : (b now : BookState) (p : ℕ) (block : List Event) → b ≡ now → AllowsClosingCall now p block → StandsForIdleCall b p
idle_call_stands b now p block same may = subst (λ x. StandsForIdleCall x p) (sym same) (stands_for_idle_call now p block may)

-- what was read at p's place
pub idle_call_own_time_read : (times : List (List ℕ)) (p : ℕ) (t : List ℕ) → p < length times → t ≡ slice_index_or times p t
    → t ≡ slice_index_or times p []
idle_call_own_time_read times p t lt is = is ∙ idle_call_default_same times p t [] lt

-- p's interval is open
pub idle_call_interval_open : (b now : BookState) (p : ℕ) (block : List Event) → b ≡ now → AllowsClosingCall now p block → IsOpenForAllowedCall b p
idle_call_interval_open b now p block same may = let st = idle_call_stands b now p block same may in record { within = st.times; own = st.own }

-- and closes with its records
pub idle_call_closed_records : (b : BookState) (block : List Event) (p : ℕ) (k : Kind) (i : ClosedInterval)
    (records : List PageChanges) → i ≡ transition_open_interval b p records
    → transition_closed_by (transition_handed_in b block) p k i.records ≡ transition_closed_by (transition_handed_in b block) p k records
idle_call_closed_records b block p k i records is = ap (λ (x : ClosedInterval). transition_closed_by (transition_handed_in b block) p k x.records) is

-- room that is made in the journal leaves the book
pub idle_call_room_made : (b : Inside) (now : BookState) (log : Log) → log ≡ record b.journal { room = log.room } → book_invariant_state b ≡ now
    → record (book_invariant_state b) { journal = record log { room = b.owing } } ≡ now
idle_call_room_made b now log made same = ap (λ (l : Log). record (book_invariant_state b) { journal = record l { room = b.owing } }) made ∙ same

-- p's interval i is closed with these records: b is the book before that, as it is now, and c after it
pub record IsClosedSinceIdleCall (b now c : BookState) (block : List Event) (p : ℕ) (k : Kind) (records : List PageChanges)
    : Type 0 where
  pub i : ClosedInterval
  pub same : b ≡ now
  pub opened : i ≡ transition_open_interval b p records
  pub closed : c ≡ transition_closed_by (transition_handed_in b block) p k i.records

-- the book after a closing event, as of the book before the call
pub idle_call_closed_since : {b now c : BookState} {block : List Event} {p : ℕ} {k : Kind} {records : List PageChanges}
    → IsClosedSinceIdleCall b now c block p k records → c ≡ transition_closed_by (transition_handed_in now block) p k records
idle_call_closed_since {b} {now} {c} {block} {p} {k} {records} is =
    is.closed ∙ idle_call_closed_records b block p k is.i records is.opened
    ∙ ap (λ (x : BookState). transition_closed_by (transition_handed_in x block) p k records) is.same

-- and where room was made in the journal first
pub record IsClosedByIdleCallWithRoom (b : Inside) (now c : BookState) (block : List Event) (p : ℕ) (k : Kind) (records : List PageChanges)
    : Type 0 where
  pub log : Log
  pub i : ClosedInterval
  pub made : log ≡ record b.journal { room = log.room }
  pub same : book_invariant_state b ≡ now
  pub opened : i ≡ transition_open_interval (book_invariant_state b) p records
  pub closed : c
      ≡ transition_closed_by (transition_handed_in (record (book_invariant_state b) { journal = record log { room = b.owing } }) block) p k i.records

pub idle_call_closed_with_room : {b : Inside} {now c : BookState} {block : List Event} {p : ℕ} {k : Kind} {records : List PageChanges}
    → IsClosedByIdleCallWithRoom b now c block p k records → c ≡ transition_closed_by (transition_handed_in now block) p k records
idle_call_closed_with_room {b} {now} {c} {block} {p} {k} {records} is =
    let since : IsClosedSinceIdleCall (record (book_invariant_state b) { journal = record is.log { room = b.owing } }) now c block p k
    records =
    record { i = is.i; same = idle_call_room_made b now is.log is.made is.same; opened = is.opened; closed = is.closed } in
    idle_call_closed_since since

-- so p's interval is open then
pub idle_call_open_with_room : (b : Inside) (now : BookState) (log : Log) (block : List Event) (p : ℕ)
    → log ≡ record b.journal { room = log.room } → book_invariant_state b ≡ now → AllowsClosingCall now p block
    → IsOpenForAllowedCall (record (book_invariant_state b) { journal = record log { room = b.owing } }) p
idle_call_open_with_room b now log block p made same may =
    idle_call_interval_open (record (book_invariant_state b) { journal = record log { room = b.owing } }) now p block (idle_call_room_made b now log made same) may

pub idle_call_still_open : (b : BookState) (p : ℕ) (i : ClosedInterval) (records : List PageChanges) → i ≡ transition_open_interval b p records
    → i ≡ transition_open_interval b p i.records
idle_call_still_open b p i records is = is ∙ sym (ap (λ (x : ClosedInterval). transition_open_interval b p x.records) is)
