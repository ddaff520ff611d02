-- Takes of grants and departures: what the book is told by the history before, it is told by the history with the
-- event after.
use Rattle.std.proofs.Common.{◌⊎◌, true, slice_index_or, ◌≡◌, ◌≢◌, ℕ, ◌<◌, inl, inr, ◌↔◌, List, [], false, Option, Some, None, IsTrue, slice_get, slice_set, subst, sym, refl, ap, ◌∙◌}
use Rattle.std.proofs.lemmas.Bool.{cases_eq, true≢false}
use Rattle.std.proofs.lemmas.Option.{same_Some, none-some}
use Rattle.std.proofs.lemmas.List.{set-get_or}
use Rattle.std.specs.Option.{option_map, is_some}
use Rattle.base.proofs.SliceSets.{slice_get-set_found, slice_get-set_other}
use Rattle.journal.specs.declared.event.Event.{Event}
use Rattle.journal.specs.declared.event.Kind.{Kind}
use Rattle.journal.specs.declared.event.Kind.TheVariants.{Ask, Acquire, Release, Arrive, Depart, Set, Watch, Await}
use Rattle.journal.specs.Sizes.{Sizes}
use Rattle.journal.specs.Events.{event_closes, event_takes}
use Rattle.journal.specs.WellFormed.{LastIs, WellFormedGrant, WellFormedAllows, WellFormedNext, Ready}
use Rattle.journal.specs.AwaitedNext.{awaited_next}
use Rattle.journal.specs.Pasts.{InPast}
use Rattle.journal.specs.Brings.{Brings}
use Rattle.journal.proofs.Journals.WellFormedStays.{well_formed_stays_last_unique}
use Rattle.journal.proofs.Journals.MayGoOn.{may_go_on_waiting_for, may_go_on_taking}
use Rattle.vtime.specs.TicksAndJoins.{join}
use Rattle.interval.specs.KeptClosings.{kept_closings_between}
use Rattle.transit.specs.Letters.{Letter}
use Rattle.journal.specs.DidEvent.{event, did}
use Rattle.book.specs.BookStamps.{IsBookStamp, IsAwaitedByBookStamps}
use Rattle.book.specs.BookLockLines.{HasBookLockLine}
use Rattle.book.specs.BookMail.{ComesByBookMail, BookMailCarries, IsBookMail}
use Rattle.book.specs.BookFlags.{IsBookFlag}
use Rattle.book.specs.BookBarrier.{IsBookBarrier}
use Rattle.lockq.specs.LockQueues.{LockQueue}
use Rattle.book.specs.BookState.{BookState, book_state_time_of}
use Rattle.book.specs.Transitions.{transition_barrier_left, transition_joined, transition_received, transition_trimmed, transition_taken}
use Rattle.book.specs.Messages.{signal_message, message_for, message_has_come}
use Rattle.book.specs.RepresentedHistory.{Represents}
use Rattle.book.specs.BookLaws.{IsBookLawMessage}
use Rattle.book.proofs.Parts.Each.{each_set, each_kept, each_item_at, each_is_at}
use Rattle.book.proofs.Parts.PostedMail.{posted_mail_lets, posted_mail_kept, own_posted_mail_none}
use Rattle.book.proofs.Parts.FlagStamps.{flag_stamps_kept}
use Rattle.book.proofs.Parts.BarrierStages.{barrier_stage_kept, barrier_stage_departed}
use Rattle.book.proofs.Parts.LastEvents.{last_event_unlike}
use Rattle.book.proofs.Parts.ProcessorTimes.{processor_times_index_in_range}
use Rattle.book.proofs.Told.BookEvents.{IsToldTakingBookEvent, told_book_event_taking}
use Rattle.book.proofs.Told.Locks.{told_lock_kept, told_lock_taken}
use Rattle.book.proofs.Told.Flags.{told_flag_last_watch, told_flag_watching_mail, told_flag_signal, told_flag_signal_ready}

taking_message_posted : (k : Kind) → ComesByBookMail k → IsTrue (event_takes k)
taking_message_posted (Acquire l) posted = refl
taking_message_posted Depart posted = refl
taking_message_posted _ posted = absurd posted

-- what p may take is what it waits for
taking_message_awaited : (s : Sizes) (h : List Event) (p : ℕ) (k a : Kind) → IsAwaitedByBookStamps h p (Some k) → IsTrue (event_takes a)
    → WellFormedAllows s h p a → a ≡ k
taking_message_awaited s h p k a w taking allowed = let x =
    may_go_on_waiting_for s h p a taking allowed in sym (same_Some k a (w.last x.place x.call x.last ∙ x.awaits))

-- p's message lets it do what it waits for
pub taking_message_lets : (s : Sizes) (h : List Event) (p : ℕ) (k : Kind) (m : Letter) → IsAwaitedByBookStamps h p (Some k)
    → BookMailCarries s h p m → ComesByBookMail k × WellFormedAllows s h p k × IsBookStamp s.processors h (Brings h p k) m.time
taking_message_lets s h p k m w x =
    let posted = posted_mail_lets m.kind x.kind x.lets in
    let is = taking_message_awaited s h p k x.kind w (taking_message_posted x.kind posted) x.allowed in (
      subst (λ a. ComesByBookMail a) is posted,
      subst (λ a. WellFormedAllows s h p a) is x.allowed,
      subst (λ a. IsBookStamp s.processors h (Brings h p a) m.time) is x.time,
    )

-- each lock, after a take
taking_message_lock : (s : Sizes) (h : List Event) (p : ℕ) (k : Kind) (l : ℕ) (x : LockQueue) → ComesByBookMail k → WellFormedAllows s h p k
    → HasBookLockLine s.processors h l x → HasBookLockLine s.processors (did h p k) l x
taking_message_lock s h p (Acquire m) l x posted (i, last, granted) is = elim (cases_eq m l) [
  | inl same ↦ (let P : ℕ → Type 0 = λ n. HasBookLockLine s.processors (did h p (Acquire n)) l x in
      subst P (sym same)
      (told_lock_taken s.processors h p l i x (subst (λ n. LastIs h p i (Ask n)) same last)
      (subst (λ n. WellFormedGrant h i n) same granted) is))
  | inr apart ↦ told_lock_kept (record {
    ask = λ e. absurd cc;
    acquire = λ e. apart (cc e);
    release = λ e. absurd cc;
    none = λ n ask. apart (cc ((well_formed_stays_last_unique h p i n (Ask m) (Ask l) last ask).1));
  }) is
]
taking_message_lock s h p Depart l x posted (i, last, all) is =
    told_lock_kept (record {
      ask = λ e. absurd cc;
      acquire = λ e. absurd cc;
      release = λ e. absurd cc;
      none = λ n ask. absurd (cc ((well_formed_stays_last_unique h p i n Arrive (Ask l) last ask).1));
    }) is
taking_message_lock s h p _ l x posted allowed is = absurd posted

-- what takes closes nothing
taking_message_quiet : (k : Kind) → IsTrue (event_takes k) → event_closes k ≡ false
taking_message_quiet (Acquire l) takes = refl
taking_message_quiet Depart takes = refl
taking_message_quiet (Await f) takes = refl
taking_message_quiet _ takes = absurd cc

-- what p waits for is a grant, a departure or a flag
taking_message_awaited_cases : (a k : Kind) → awaited_next a ≡ Some k → ((f : ℕ) × (k ≡ Await f)) ⊎ ComesByBookMail k
taking_message_awaited_cases (Ask l) k is = inr (subst (λ x. ComesByBookMail x) (same_Some (Acquire l) k is) tt)
taking_message_awaited_cases Arrive k is = inr (subst (λ x. ComesByBookMail x) (same_Some Depart k is) tt)
taking_message_awaited_cases (Watch f) k is = inl (f, sym (same_Some (Await f) k is))
taking_message_awaited_cases _ k is = absurd (cc (is))

-- who waits for no flag waits for mail
taking_message_waits_posted : (h : List Event) (p : ℕ) (k : Kind) → IsAwaitedByBookStamps h p (Some k) → ((f : ℕ) → k ≢ Await f) → ComesByBookMail k
taking_message_waits_posted h p k w isnt =
    let last = w.some k refl in
    elim (taking_message_awaited_cases last.1 k (sym (w.last last.0 last.1 last.2)))
    [ inl flag ↦ absurd (isnt flag.0 flag.1) | inr posted ↦ posted ]

pub taking_message_waits : (h : List Event) (p : ℕ) (k : Kind) → IsAwaitedByBookStamps h p (Some k) → IsTrue (event_takes k)
taking_message_waits h p k w =
    let last = w.some k refl in
    elim (taking_message_awaited_cases last.1 k (sym (w.last last.0 last.1 last.2)))
    [ inl flag ↦ subst (λ a. IsTrue (event_takes a)) (sym flag.1) refl | inr posted ↦ taking_message_posted k posted ]

taking_message_there : {A R : Type 0} (o : Option A) → ((o ≢ None) ↔ R) → (is_some o ≡ true) ↔ R
taking_message_there None is = ((λ e. absurd (true≢false (sym e))), (λ r. absurd (is.1 r refl)))
taking_message_there (Some a) is = ((λ e. is.0 (λ none. none-some a (sym none))), (λ r. refl))

-- of a book that is told, and a processor that takes
module _ (s : Sizes) (h : List Event) (b : BookState) (p : ℕ) (told : Represents s h b) where
  taking_message_barrier : (k : Kind) → p < s.processors → ComesByBookMail k → WellFormedAllows s h p k
      → IsBookBarrier s (did h p k) (transition_barrier_left k b.barrier p)
  taking_message_barrier (Acquire l) lt posted allowed = barrier_stage_kept s h p (Acquire l) b.barrier refl refl told.barrier
  taking_message_barrier Depart lt posted allowed = barrier_stage_departed s h p b.barrier told.well_formed allowed lt told.barrier
  taking_message_barrier _ lt posted allowed = absurd posted

  -- p takes its mail, and what everyone covers then is trimmed
  taking_message_mail_told : (k : Kind) (m : Letter) → slice_get b.awaits p ≡ Some (Some k)
      → slice_get b.transit p ≡ Some (Some m) → Represents s (did h p k) (transition_taken b p k m)
  taking_message_mail_told k m waits mail =
      told_book_event_taking now
    where
      lt : p < s.processors
      lt = processor_times_index_in_range s h b p (Some k) told waits

      lets : ComesByBookMail k × WellFormedAllows s h p k × IsBookStamp s.processors h (Brings h p k) m.time
      lets = taking_message_lets s h p k m (told.awaits.each p (Some k) waits) (told.transit.each p (Some m) mail)

      quiet : event_closes k ≡ false
      quiet = taking_message_quiet k (taking_message_posted k lets.0)

      other : (a : Kind) → event_closes a ≡ true → k ≢ a
      other a closes = last_event_unlike event_closes k a quiet closes

      may : WellFormedNext s h (event p k)
      may = may_go_on_taking s h p k told.well_formed (taking_message_posted k lets.0) lets.1

      notices : (r : ℕ) (n : Letter) (t : List ℕ) → slice_get (slice_set b.transit p None) r ≡ Some (Some n)
          → slice_get (slice_set b.times p (join (book_state_time_of b p) m.time)) r ≡ Some t
          → n.notices ≡ kept_closings_between b.closed t n.time
      notices r n t at now = elim (cases_eq r p) [
        | inl is ↦ (let P : ℕ → Type 0 = λ x. slice_get (slice_set b.transit p None) x ≡ Some (Some n) in
            absurd (none-some n (slice_get-set_found b.transit p None (Some n) (subst P is at))))
        | inr isnt ↦ told.notices r n t (sym (slice_get-set_other b.transit p r None isnt) ∙ at)
            (sym (slice_get-set_other b.times p r (join (book_state_time_of b p) m.time) isnt) ∙ now)
      ]

      now : IsToldTakingBookEvent s h b p k m.time (transition_received b p k m)
      now = record {
        told = told;
        mine = lt;
        may = may;
        quiet = quiet;
        brings = lets.2;
        after = record {
          locks = each_kept s.locks (HasBookLockLine s.processors h) (HasBookLockLine s.processors (did h p k)) b.locks.locks told.locks
              (λ l x at is. taking_message_lock s h p k l x lets.0 lets.1 is);
          barrier = taking_message_barrier k lt lets.0 lets.1;
          flags = flag_stamps_kept s h p k b.flags (λ f. other (Set f) refl) told.flags;
          transit = each_set s.processors (IsBookMail s h) (IsBookMail s (did h p k)) b.transit p None told.transit
              (λ r o isnt at is. posted_mail_kept s h p k may r isnt o (λ l. other (Release l) refl) (other Arrive refl) is)
              (own_posted_mail_none s h p k (λ l. other (Ask l) refl) (other Arrive refl));
          notices = notices;
        };
        is = refl;
      }

  -- who waits for a grant or a departure may go on exactly where its message is there
  taking_message_mail_ready : (k : Kind) (o : Option Letter) → slice_get b.awaits p ≡ Some (Some k) → ComesByBookMail k
      → slice_get b.transit p ≡ Some o → (o ≢ None) ↔ Ready s h p
  taking_message_mail_ready k o waits posted at =
      (goes o (told.transit.each p o at), λ ready. back o (told.transit.each p o at) ready)
    where
      goes : (x : Option Letter) → IsBookMail s h p x → (x ≢ None) → Ready s h p
      goes None mail isnt = absurd (isnt refl)
      goes (Some m) mail isnt =
          (mail.kind, taking_message_posted mail.kind (posted_mail_lets m.kind mail.kind mail.lets), mail.allowed)

      back : (x : Option Letter) → IsBookMail s h p x → Ready s h p → x ≢ None
      back (Some m) mail ready e = absurd (cc (e))
      back None mail (a, taking, allowed) e =
          mail k posted
          (subst (λ c. WellFormedAllows s h p c) (taking_message_awaited s h p k a (told.awaits.each p (Some k) waits) taking allowed)
          allowed)

  -- p's mail, as it stands in the book
  taking_message_mail_at : (m : Letter) → p < s.processors → slice_index_or b.transit p None ≡ Some m
      → slice_get b.transit p ≡ Some (Some m)
  taking_message_mail_at m lt is =
      each_item_at s.processors (IsBookMail s h) b.transit p None told.transit lt ∙ ap (λ (o : Option Letter). Some o) is

  taking_message_mail_is : (k : Kind) (m : Letter) → slice_get b.awaits p ≡ Some (Some k) → slice_index_or b.transit p None ≡ Some m
      → IsBookLawMessage s h b p k m
  taking_message_mail_is k m waits is =
      let lt = processor_times_index_in_range s h b p (Some k) told waits in
      let at = taking_message_mail_at m lt is in
      let lets = taking_message_lets s h p k m (told.awaits.each p (Some k) waits) (told.transit.each p (Some m) at) in
      record {
        allowed = lets.1;
        time = lets.2;
        notices = told.notices p m (book_state_time_of b p) at
            (each_item_at s.processors (λ q t. IsBookStamp s.processors h (InPast h q) t) b.times p [] told.times lt);
      }

  module _ (f : ℕ) (waits : slice_get b.awaits p ≡ Some (Some (Await f))) where
    -- a flag as it stands in the book
    taking_message_flag_at : slice_get b.flags f ≡ Some (slice_index_or b.flags f None)
    taking_message_flag_at =
        let last = told_flag_last_watch h p f (told.awaits.each p (Some (Await f)) waits) in
        each_item_at s.flags (IsBookFlag s.processors h) b.flags f None told.flags
        (told.well_formed last.0 (event p (Watch f)) last.1.does).in_range

    taking_message_signal_is : (m : Letter) (o : Option (List ℕ)) → slice_get b.flags f ≡ Some o
        → option_map (λ (t : List ℕ). signal_message b.closed t (book_state_time_of b p)) o ≡ Some m → IsBookLawMessage s h b p (Await f) m
    taking_message_signal_is m None at is = absurd (none-some m is)
    taking_message_signal_is m (Some t) at is =
        let last = told_flag_last_watch h p f (told.awaits.each p (Some (Await f)) waits) in
        let flag : IsBookFlag s.processors h f (Some t) = told.flags.each f (Some t) at in
        subst (IsBookLawMessage s h b p (Await f)) (same_Some (signal_message b.closed t (book_state_time_of b p)) m is)
        (record { allowed = (last.0, flag.0.0, flag.0.1.0, last.1, flag.0.1.1); time = flag.1; notices = refl })

    -- who waits for a flag has no mail
    pub taking_message_no_mail_waits : b.transit ≡ slice_set b.transit p None
    taking_message_no_mail_waits =
        let lt = processor_times_index_in_range s h b p (Some (Await f)) told waits in
        let last = told_flag_last_watch h p f (told.awaits.each p (Some (Await f)) waits) in
        let none = told_flag_watching_mail s h p last.0 f (slice_index_or b.transit p None) last.1
        (each_is_at s.processors (IsBookMail s h) b.transit p None told.transit lt) in
        sym (set-get_or b.transit p None) ∙ ap (λ (o : Option Letter). slice_set b.transit p o) (sym none)

    taking_message_signal_told : (m : Letter) (o : Option (List ℕ)) → slice_get b.flags f ≡ Some o
        → option_map (λ (t : List ℕ). signal_message b.closed t (book_state_time_of b p)) o ≡ Some m
        → Represents s (did h p (Await f)) (transition_taken b p (Await f) m)
    taking_message_signal_told m None at is = absurd (none-some m is)
    taking_message_signal_told m (Some t) at is =
        subst (λ x. Represents s (did h p (Await f)) (transition_taken b p (Await f) x))
        (same_Some (signal_message b.closed t (book_state_time_of b p)) m is)
        (subst (λ ts. Represents s (did h p (Await f)) (transition_trimmed
        (record (transition_joined b p (Await f) t) { transit = ts })))
        taking_message_no_mail_waits (told_flag_signal s h b p f t told waits at))

  -- p's message lets p go on
  pub taking_message_is : (k : Kind) (m : Letter) → slice_get b.awaits p ≡ Some (Some k) → message_for b p k ≡ Some m
      → IsBookLawMessage s h b p k m
  taking_message_is (Await f) m waits is = taking_message_signal_is f waits m (slice_index_or b.flags f None) (taking_message_flag_at f waits) is
  taking_message_is _ m waits is = taking_message_mail_is _ m waits is

  -- p takes its message, and what everyone covers then is trimmed
  pub taking_message_told : (k : Kind) (m : Letter) → slice_get b.awaits p ≡ Some (Some k) → message_for b p k ≡ Some m
      → Represents s (did h p k) (transition_taken b p k m)
  taking_message_told (Await f) m waits is = taking_message_signal_told f waits m (slice_index_or b.flags f None) (taking_message_flag_at f waits) is
  taking_message_told _ m waits is = taking_message_mail_told _ m waits (taking_message_mail_at m (processor_times_index_in_range s h b p (Some _) told waits) is)

  taking_message_mail_come : (k : Kind) → slice_get b.awaits p ≡ Some (Some k) → ((f : ℕ) → k ≢ Await f)
      → (slice_index_or b.transit p None ≢ None) ↔ Ready s h p
  taking_message_mail_come k waits isnt =
      taking_message_mail_ready k (slice_index_or b.transit p None) waits
      (taking_message_waits_posted h p k (told.awaits.each p (Some k) waits) isnt)
      (each_item_at s.processors (IsBookMail s h) b.transit p None told.transit (processor_times_index_in_range s h b p (Some k) told waits))

  -- p's message has come exactly where p may go on
  pub taking_message_come : (k : Kind) → slice_get b.awaits p ≡ Some (Some k)
      → (message_has_come b.flags b.transit p k ≡ true) ↔ Ready s h p
  taking_message_come (Await f) waits =
      taking_message_there (slice_index_or b.flags f None)
      (told_flag_signal_ready s h b p f (slice_index_or b.flags f None) told waits (taking_message_flag_at f waits))
  taking_message_come (Acquire l) waits =
      taking_message_there (slice_index_or b.transit p None) (taking_message_mail_come (Acquire l) waits (λ f e. absurd (cc (e))))
  taking_message_come _ waits = taking_message_there (slice_index_or b.transit p None) (taking_message_mail_come _ waits (λ f e. absurd (cc (e))))
