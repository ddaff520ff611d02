-- What a take rests on, and what it makes, read off the book.
use Rattle.std.proofs.Common.{Bool, ◌≡◌, ◌↔◌, ◌-◌, ℕ, ◌<◌, inl, inr, true, IsTrue, List, [], ◌∷◌, ◌++◌, length, map, Option, Some, None, slice_get, slice_set, slice_index_or, subst, subst₂, sym, refl, ap, ◌∙◌, arith}
use Rattle.std.proofs.lemmas.Bool.{cases_eq}
use Rattle.std.proofs.lemmas.Option.{get_or_from_slice_get, slice_get-get_or, same_Some}
use Rattle.std.proofs.Math.ListN.{get_or-map}
use Rattle.std.proofs.lemmas.List.{length-set, set-set, set-get_or}
use Rattle.base.proofs.SliceSets.{slice_get-set_found, slice_get-set_other}
use Rattle.std.specs.Option.{option_map, option_and_then}
use Rattle.journal.specs.declared.event.Event.{Event}
use Rattle.journal.specs.declared.event.Kind.{Kind}
use Rattle.journal.specs.declared.event.Kind.TheVariants.{Acquire, Depart, Watch, Await, Load, Store}
use Rattle.journal.specs.Log.{Log}
use Rattle.journal.specs.Sizes.{Sizes}
use Rattle.journal.specs.Events.{event_takes}
use Rattle.journal.specs.EventsInRange.{EventAddressInRange}
use Rattle.journal.specs.WellFormed.{WellFormedAllows, Ready}
use Rattle.journal.specs.AwaitedNext.{awaited_next}
use Rattle.journal.proofs.Journals.ArrivalBalance.{arrivals_balanced}
use Rattle.vtime.specs.TicksAndJoins.{join}
use Rattle.interval.specs.KeptClosings.{HasKeptClosingsBetween, kept_closings_between}
use Rattle.barrier.specs.declared.barrier.Stage.{Stage}
use Rattle.barrier.specs.declared.barrier.Stage.TheVariants.{Away, Free}
use Rattle.transit.specs.Letters.{Letter}
use Rattle.journal.specs.DidEvent.{event}
use Rattle.journal.specs.declared.closing_and_awaited.Awaited.{Awaited}
use Rattle.journal.specs.ClosingKinds.{closing_awaits_kind}
use Rattle.book.specs.BookFlags.{IsBookFlag}
use Rattle.book.specs.KeptIntervals.{AreKeptIntervalsFromFirst, AreKeptIntervalsTight}
use Rattle.book.specs.BookBarrier.{IsAtBookBarrierStage}
use Rattle.book.specs.BookState.{BookState, book_state_time_of}
use Rattle.book.specs.Messages.{signal_message, message_among, message_for, message_has_come, sent_with_message, brought_by_message}
use Rattle.book.specs.Transitions.{transition_trimmed_by, transition_barrier_left, transition_taken}
use Rattle.book.specs.RepresentedHistory.{Represents}
use Rattle.book.specs.AllowedCalls.{IsSignalledForAllowedCall, AllowsSignalOfCall, AllowsTakeCall, AllowsSomeTakeCall, AllowsTrimOfCall}
use Rattle.book.proofs.Parts.Each.{each_is_at, each_item_at}
use Rattle.book.proofs.Parts.BarrierStages.{barrier_stage_free}
use Rattle.book.proofs.Told.Flags.{told_flag_last_watch}
use Rattle.book.proofs.Told.TakingMessages.{taking_message_waits, taking_message_is, taking_message_come, taking_message_no_mail_waits}
use Rattle.book.proofs.Calling.IdleCalls.{idle_call_own_time_read, idle_call_default_same}
use Rattle.book.proofs.Parts.ProcessorTimes.{processor_times_index_in_range, processor_time_stamp}

-- p waits for this
pub record IsReceiving (b : BookState) (p : ℕ) (k : Kind) : Type 0 where
  pub waits : slice_get b.awaits p ≡ Some (Some k)
  pub transit : p < length b.transit
  pub times : p < length b.times
  pub awaits : p < length b.awaits
  pub journal : p < b.journal.processors
  pub own_long : length (book_state_time_of b p) ≡ length b.times
  pub flag : (f : ℕ) → k ≡ Await f → AllowsSignalOfCall b.closed b.flags (book_state_time_of b p) f
  pub none : (f : ℕ) → k ≡ Await f → b.transit ≡ slice_set b.transit p None
  pub long : (m : Letter) → message_for b p k ≡ Some m → length m.time ≡ length b.times
  pub free : (m : Letter) → message_for b p k ≡ Some m → k ≡ Depart → slice_get b.barrier.stages p ≡ Some Free
  pub come : (s : Sizes) (h : List Event) → Represents s h b → (message_has_come b.flags b.transit p k ≡ true) ↔ Ready s h p
  pub takes : IsTrue (event_takes k)
  pub all_long : (i : ℕ) (t : List ℕ) → slice_get b.times i ≡ Some t → length t ≡ length b.times
  pub owners : length b.closed.first ≡ length b.times
  pub from : AreKeptIntervalsFromFirst b.closed
  pub tight : 1 < length b.times → AreKeptIntervalsTight b.closed.first b.times

receiving_by : (s : Sizes) (h : List Event) (b : BookState) (p : ℕ) (k : Kind) → Represents s h b
    → slice_get b.awaits p ≡ Some (Some k) → IsReceiving b p k
receiving_by s h b p k told waits =
    let lt = processor_times_index_in_range s h b p (Some k) told waits in
    let transit_long = told.transit.long in
    let times_long = told.times.long in
    let awaits_long = told.awaits.long in
    let first_long = told.closed.first_long in
    let processors = told.sizes.processors in
    let own_long = (processor_time_stamp s h b p told lt).long in
    record {
      waits = waits;
      transit = omega arith;
      times = omega arith;
      awaits = omega arith;
      journal = omega arith;
      own_long = omega arith;
      flag = λ f is. signals f (subst (λ a. slice_get b.awaits p ≡ Some (Some a)) is waits);
      none = λ f is. taking_message_no_mail_waits s h b p told f (subst (λ a. slice_get b.awaits p ≡ Some (Some a)) is waits);
      long = λ m is. (let long = (taking_message_is s h b p told k m waits is).time.long in omega arith);
      free = λ m is departs. departing
          (subst (λ a. WellFormedAllows s h p a) departs (taking_message_is s h b p told k m waits is).allowed) lt;
      come = λ t j also. taking_message_come t j b p also k waits;
      takes = taking_message_waits h p k (told.awaits.each p (Some k) waits);
      all_long = λ i t at. (let stamp = told.times.each i t at in let long = stamp.long in omega arith);
      owners = omega arith;
      from = told.closed.from;
      tight = λ more. told.tight (omega arith);
    }
  where
    departing : WellFormedAllows s h p Depart → p < s.processors → slice_get b.barrier.stages p ≡ Some Free
    departing (i, last, all) less =
        let x = told.barrier in
        let more = (arrivals_balanced s h p told.well_formed).waiting i last in
        let one = all x.lacks.0 x.lacks.1 in
        let lacks = x.lacks.2 in
        let stage = each_is_at s.processors (IsAtBookBarrierStage h x.complete) b.barrier.stages p Away x.stages less in
        each_item_at s.processors (IsAtBookBarrierStage h x.complete) b.barrier.stages p Away x.stages less
        ∙ ap (λ (y : Stage). Some y)
        (sym (barrier_stage_free h x.complete p (slice_index_or b.barrier.stages p Away) more (omega arith) stage))

    signals : (f : ℕ) → slice_get b.awaits p ≡ Some (Some (Await f)) → AllowsSignalOfCall b.closed b.flags (book_state_time_of b p) f
    signals f waits_f =
        let lt = processor_times_index_in_range s h b p (Some k) told waits in
        let last = told_flag_last_watch h p f (told.awaits.each p (Some (Await f)) waits_f) in
        let range : f < s.flags = (told.well_formed last.0 (event p (Watch f)) last.1.does).in_range in
        let flags_long = told.flags.long in
        let first_long = told.closed.first_long in
        let times_long = told.times.long in
        let own_long = (processor_time_stamp s h b p told lt).long in
        record {
          within = omega arith;
          keeps = λ t is.
              let flag : IsBookFlag s.processors h f (Some t) = subst (λ o. IsBookFlag s.processors h f o) is
              (each_is_at s.flags (IsBookFlag s.processors h) b.flags f None told.flags range) in
              let long = flag.1.long in
              record {
                old_long = omega arith;
                new_long = omega arith;
                none_trimmed = λ q. told.within p q (book_state_time_of b p) (slice_get-get_or b.times p [] (omega arith));
              };
        }

pub receiving : (b : BookState) (p : ℕ) (k : Kind) → AllowsTakeCall b p k → IsReceiving b p k
receiving b p k may = receiving_by may.by.sizes may.by.history b p k may.by.told may.waits

-- p may take something, and o is read of what the book keeps of whom waits for what
pub record IsReceivingAwaitedRead (b now : BookState) (p : ℕ) (o : Option Awaited) : Type 0 where
  pub all : List (Option Awaited)
  pub kept : b.awaits ≡ map (option_map closing_awaits_kind) all
  pub same : b ≡ now
  pub may : AllowsSomeTakeCall now p
  pub is : o ≡ slice_index_or all p o

-- what was read is the kind that p waits for
receiving_waits_read : {b now : BookState} {p : ℕ} {o : Option Awaited} → (read : IsReceivingAwaitedRead b now p o)
    → option_map closing_awaits_kind o ≡ Some read.may.kind
receiving_waits_read {b} {now} {p} {o} read =
    let kind = read.may.kind in
    ap (option_map closing_awaits_kind) read.is ∙ sym (get_or-map (option_map closing_awaits_kind) read.all p o)
    ∙ ap (λ (ks : List (Option Kind)). slice_index_or ks p (option_map closing_awaits_kind o)) (sym read.kept)
    ∙ get_or_from_slice_get b.awaits p (Some kind) (option_map closing_awaits_kind o)
    (ap (λ (x : BookState). slice_get x.awaits p) read.same ∙ (receiving now p kind read.may.take).waits)

-- so there was something to read
pub receiving_not_idle : {b now : BookState} {p : ℕ} {o : Option Awaited} → IsReceivingAwaitedRead b now p o → o ≡ None → ⊥
receiving_not_idle {o = o} read none =
    let waits = receiving_waits_read read in
    let idle : option_map closing_awaits_kind o ≡ None = ap (option_map closing_awaits_kind) none in
    absurd cc

-- and p receives it
pub reads_receiving : {b now : BookState} {p : ℕ} {o : Option Awaited} → IsReceivingAwaitedRead b now p o → (a : Awaited) → o ≡ Some a
    → IsReceiving b p (closing_awaits_kind a)
reads_receiving {b} {now} {p} {o} read a some =
    let kind = read.may.kind in
    let r = receiving now p kind read.may.take in
    let P : Kind → Type 0 = λ k. IsReceiving b p k in
    subst P (same_Some kind (closing_awaits_kind a) (sym (receiving_waits_read read) ∙ ap (option_map closing_awaits_kind) some))
    (subst (λ x. IsReceiving x p kind) (sym read.same) r)

-- a list of timestamps with another one of the same length
pub receiving_all_long_set : (times : List (List ℕ)) (p : ℕ) (u : List ℕ) (n : ℕ) → length u ≡ n
    → ((i : ℕ) (t : List ℕ) → slice_get times i ≡ Some t → length t ≡ n) → (i : ℕ) (t : List ℕ)
    → slice_get (slice_set times p u) i ≡ Some t → length t ≡ n
receiving_all_long_set times p u n long all i t at = elim (cases_eq i p) [
  | inl is ↦ (let P : ℕ → Type 0 = λ x. slice_get (slice_set times p u) x ≡ Some t in
      subst (λ (v : List ℕ). length v ≡ n) (slice_get-set_found times p u t (subst P is at)) long)
  | inr isnt ↦ all i t (sym (slice_get-set_other times p i u isnt) ∙ at)
]

-- what may be trimmed once p's timestamp has risen
pub receiving_allows_trim : {b : BookState} {p : ℕ} {k : Kind} {times : List (List ℕ)} {before : List ℕ} → IsReceiving b p k
    → (u : List ℕ) → times ≡ slice_set b.times p u → length u ≡ length b.times → before ≡ book_state_time_of b p
    → AllowsTrimOfCall b.closed times p before
receiving_allows_trim {b} {p} w u is long old =
    let same = length-set b.times p u in
    let owners = w.owners in
    let within = w.times in
    let own_long = w.own_long in
    let back = set-set b.times p u (book_state_time_of b p) ∙ set-get_or b.times p [] in
    subst₂ (λ ts t. AllowsTrimOfCall b.closed ts p t) (sym is) (sym old) (record {
      within = omega arith;
      owners = omega arith;
      long = receiving_all_long_set b.times p u (length (slice_set b.times p u)) (long ∙ sym same)
          (λ i t at. w.all_long i t at ∙ sym same);
      old_long = omega arith;
      from = w.from;
      tight = λ more. subst (λ ts. AreKeptIntervalsTight b.closed.first ts) (sym back) (w.tight (omega arith));
    })

-- the journal after one event
pub receiving_log_is : (a b c : Log) (owing : ℕ) (e : Event) → b ≡ record a { room = b.room }
    → c ≡ record b { events = b.events ++ e ∷ []; room = b.room - 1 }
    → record c { room = owing } ≡ record a { events = a.events ++ e ∷ []; room = owing }
receiving_log_is a b c owing e first second = cc

-- an event that takes has no address
pub receiving_address : (n : ℕ) (k : Kind) → IsTrue (event_takes k) → EventAddressInRange n k
receiving_address n (Load a v) takes = absurd cc
receiving_address n (Store a v) takes = absurd cc
receiving_address n _ takes = tt

-- the book after p took a message, for which it waited: each part that changes, and the others as they were
pub record HasReceived (b : BookState) (p : ℕ) (k : Kind) (m : Letter) (new : BookState) : Type 0 where
  pub takes : IsTrue (event_takes k)
  pub journal : new.journal ≡ record b.journal { events = b.journal.events ++ event p k ∷ [] }
  pub times : new.times ≡ slice_set b.times p (join (book_state_time_of b p) m.time)
  pub closed : new.closed ≡ transition_trimmed_by b.closed new.times (length new.times)
  pub awaits : new.awaits ≡ slice_set b.awaits p None
  pub transit : new.transit ≡ slice_set b.transit p None
  pub barrier : new.barrier ≡ transition_barrier_left k b.barrier p
  pub others : new ≡ record b {
    journal = new.journal;
    closed = new.closed;
    times = new.times;
    awaits = new.awaits;
    transit = new.transit;
    barrier = new.barrier;
  }

pub received_book_is : (b : BookState) (p : ℕ) (k : Kind) (m : Letter) (new : BookState) → HasReceived b p k m new
    → new ≡ transition_taken b p k m
received_book_is b p k m new is =
    let none = takes_on k is.takes in
    let journal = is.journal in
    let times = is.times in
    let closed = is.closed in
    let awaits = is.awaits in
    let transit = is.transit in
    let barrier = is.barrier in
    is.others ∙ cc
  where
    takes_on : (a : Kind) → IsTrue (event_takes a) → awaited_next a ≡ None
    takes_on (Acquire l) takes = refl
    takes_on Depart takes = refl
    takes_on (Await f) takes = refl
    takes_on _ takes = absurd cc

-- r is read of the book: whether what p waits for has come
pub record IsReceivedComeRead (b now : BookState) (p : ℕ) (k : Kind) (r : Bool) : Type 0 where
  pub flags : List (Option (List ℕ))
  pub same : b ≡ now
  pub waits : IsReceiving b p k
  pub flags_are : flags ≡ b.flags
  pub is : r ≡ message_has_come flags b.transit p k

-- what was read of what has come tells whether p is ready
pub receiving_comes : {b now : BookState} {p : ℕ} {k : Kind} {r : Bool} → IsReceivedComeRead b now p k r → (s : Sizes) (h : List Event)
    → Represents s h now → (r ≡ true) ↔ Ready s h p
receiving_comes {b} {now} {p} {k} {r} read s h told =
    let come = read.waits.come s h (subst (λ x. Represents s h x) (sym read.same) told) in
    let all : r ≡ message_has_come b.flags b.transit p k =
    read.is ∙ ap (λ (fs : List (Option (List ℕ))). message_has_come fs b.transit p k) read.flags_are in
    ((λ e. come.0 (sym all ∙ e)), (λ ready. all ∙ come.1 ready))

-- the message m is found for p, by the flags and p's timestamp as they are read of the book
pub record IsFoundToReceive (b : BookState) (p : ℕ) (k : Kind) (m : Letter) : Type 0 where
  pub flags : List (Option (List ℕ))
  pub own : List ℕ
  pub flags_are : flags ≡ b.flags
  pub own_is : own ≡ book_state_time_of b p
  pub is : message_among b.closed flags b.transit own p k ≡ Some m

-- the message that was received
pub received_is : {b : BookState} {p : ℕ} {k : Kind} {m : Letter} → IsFoundToReceive b p k m → message_for b p k ≡ Some m
received_is {b} {p} {k} {m} found =
    let flags_are = found.flags_are in
    let own_is = found.own_is in
    let is = found.is in
    cc

-- what a message brings is what was due
pub received_brings : (b : BookState) (p : ℕ) (k : Kind) (m : Letter) → slice_get b.awaits p ≡ Some (Some k)
    → message_for b p k ≡ Some m → m.notices ≡ brought_by_message b p
received_brings b p k m waits is =
    sym (ap (λ (w : Option Kind). sent_with_message (option_and_then (message_for b p) w))
    (get_or_from_slice_get b.awaits p (Some k) None waits) ∙ ap sent_with_message is)

-- what stands in the book of one who waits for a flag
pub receiving_flag : (b now : BookState) (p f : ℕ) → b ≡ now → AllowsTakeCall now p (Await f) → IsReceiving b p (Await f)
receiving_flag b now p f same may = subst (λ x. IsReceiving x p (Await f)) (sym same) (receiving now p (Await f) may)

-- of p, which waits for f, its timestamp own is read, and of f, which is set, its timestamp
pub record IsReceivedSignalRead (b now : BookState) (p f : ℕ) (own time : List ℕ) : Type 0 where
  pub o : Option (List ℕ)
  pub same : b ≡ now
  pub may : AllowsTakeCall now p (Await f)
  pub own_is : own ≡ slice_index_or b.times p own
  pub flag_is : o ≡ slice_index_or b.flags f o
  pub set : o ≡ Some time

-- what was read of one who waits for a flag that is set
pub receiving_signalled : {b now : BookState} {p f : ℕ} {own time : List ℕ} → IsReceivedSignalRead b now p f own time
    → IsSignalledForAllowedCall now p f own time
receiving_signalled {b} {now} {p} {f} {own} {time} reads =
    let w = receiving_flag b now p f reads.same reads.may in
    let flag = w.flag f refl in
    let read = idle_call_own_time_read b.times p own w.times reads.own_is in
    let at : slice_index_or b.flags f None ≡ Some time =
    sym (idle_call_default_same b.flags f reads.o None flag.within) ∙ sym reads.flag_is ∙ reads.set in
    subst (λ (x : BookState). IsSignalledForAllowedCall x p f own time) reads.same (record {
      keeps = subst (λ (t : List ℕ). HasKeptClosingsBetween b.closed t time) (sym read) (flag.keeps time at);
      brings = ap (λ (t : List ℕ). kept_closings_between b.closed t time) read
          ∙ ap (λ (x : Option (List ℕ)). sent_with_message
          (option_map (λ (t : List ℕ). signal_message b.closed t (book_state_time_of b p)) x)) (sym at);
    })
