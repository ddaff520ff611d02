-- The empty book, and blocks.
use Rattle.std.proofs.Common.{◌≡◌, ◌≢◌, ℕ, ◌<◌, ◌≤◌, List, [], ◌∷◌, ◌++◌, length, replicate, false, Some, None, slice_get, slice_set, slice_index, subst, subst₂, sym, refl, ap, ◌∙◌, append_assoc, append-nil, arith}
use Rattle.std.proofs.lemmas.Option.{none-some}
use Rattle.std.proofs.lemmas.List.{length-replicate}
use Rattle.base.proofs.SlicesAndCounts.{slice_push_induction}
use Rattle.base.proofs.JoinedLists.{joined_list_has-nil, joined_list_in_order-nil}
use Rattle.base.proofs.SliceSets.{index-zeros, slice_get-replicate, slice_get-replicate_found}
use Rattle.journal.specs.declared.event.Event.{Event}
use Rattle.journal.specs.declared.event.Kind.{Kind}
use Rattle.journal.specs.declared.event.Kind.TheVariants.{Load, Store, Fetch, Ask, Acquire, Release, Arrive, Depart, Set}
use Rattle.journal.specs.Sizes.{Sizes}
use Rattle.journal.specs.Events.{EventAt, event_arrives, event_departs, event_closes, event_takes}
use Rattle.journal.specs.Log.{Log}
use Rattle.journal.specs.WellFormed.{WellFormedKindInRange, WellFormedAllows, WellFormedNext}
use Rattle.journal.specs.AwaitedNext.{awaited_next, AwaitsNothingNext}
use Rattle.journal.specs.Pasts.{InPast, InPastOfSome}
use Rattle.journal.specs.Brings.{BringsFromKind, BringsFromSomeArrival}
use Rattle.journal.proofs.Order.EventPlacesAndCounts.{event_place_longer, event_place_at_end}
use Rattle.journal.proofs.Journals.WellFormedStays.{well_formed_stays_start}
use Rattle.interval.specs.declared.interval.KeptInterval.{KeptInterval}
use Rattle.lockq.specs.LockQueues.{lock_queue_unheld}
use Rattle.barrier.specs.declared.barrier.Stage.TheVariants.{Away}
use Rattle.book.specs.BookBarrier.{IsAtBookBarrierStage}
use Rattle.journal.specs.DidEvent.{event, did}
use Rattle.book.specs.BookStamps.{IsBookStamp, IsAwaitedByBookStamps}
use Rattle.book.specs.BookLockLines.{HasBookLockLine}
use Rattle.book.specs.BookMail.{ComesByBookMail, IsBookMail}
use Rattle.book.specs.BookFlags.{IsBookFlag}
use Rattle.book.specs.BookState.{BookState}
use Rattle.book.specs.Transitions.{transition_new_book, transition_appended, transition_handed_in}
use Rattle.book.specs.RepresentedHistory.{HoldsRepresentedHistory, Represents}
use Rattle.book.specs.AllowedCalls.{IsAllowedInnerCall, IsBlockOfAllowedCalls}
use Rattle.book.proofs.Parts.Each.{each_own, each_replicate, each_set_back}
use Rattle.book.proofs.Parts.LastEvents.{last_event_unlike}
use Rattle.book.proofs.Parts.Stamps.{stamp_none, stamp_others, stamp_quiet}
use Rattle.book.proofs.Parts.LockLines.{lock_line_idle_no_ask}
use Rattle.book.proofs.Parts.PostedMail.{posted_mail_kept, own_posted_mail_idle}
use Rattle.book.proofs.Parts.FlagStamps.{flag_stamps_kept}
use Rattle.book.proofs.Parts.BarrierStages.{barrier_stage_kept}
use Rattle.book.proofs.Parts.BookIntervals.{book_intervals_quiet}
use Rattle.book.proofs.Parts.HeldHistory.{held_history_new, held_history_longer}
use Rattle.book.proofs.Parts.ProcessorTimes.{IsIdleProcessorTold, processor_times_same_sizes, processor_times_index_in_range, processor_times_idle_awaits_none, processor_times_awaits_follow}
use Rattle.book.proofs.Told.BookEvents.{told_book_event}
use Rattle.book.proofs.Told.Locks.{told_locks_kept}

-- nothing has happened in an empty history
told_starting_nothing : (i : ℕ) (e : Event) → ¬ EventAt [] i e
told_starting_nothing i e at = none-some e at

-- the empty book is told by the empty history
pub told_starting_new_book : (s : Sizes) → 0 < s.processors → Represents s [] (transition_new_book s)
told_starting_new_book s some = record {
  well_formed = well_formed_stays_start s;
  sizes = record { processors = refl; words = refl; addresses = refl; lockers = refl };
  holds = held_history_new s;
  closed = record {
    count = refl;
    next_long = length-replicate {A = ℕ} s.processors 0;
    next = λ q lt. index-zeros s.processors q;
    first_long = length-replicate {A = ℕ} s.processors 0;
    from = λ k has. absurd (joined_list_has-nil k has);
    each = λ k has. absurd (joined_list_has-nil k has);
    all = λ q i closes from. absurd (told_starting_nothing i (event q closes.kind) closes.does);
    contents = λ k has. absurd (joined_list_has-nil k has);
    rising = joined_list_in_order-nil (λ (j k : KeptInterval). j.place < k.place);
  };
  times = each_replicate s.processors (λ p t. IsBookStamp s.processors [] (InPast [] p) t) (replicate s.processors 0)
      (λ p. stamp_none s.processors [] (InPast [] p) (λ i x. told_starting_nothing x.own x.event x.at));
  locks = each_replicate s.locks (HasBookLockLine s.processors []) (lock_queue_unheld s.processors) (λ l. record {
    line_is = record {
      each = λ q i last. absurd (told_starting_nothing i (event q (Ask l)) last.does);
      first = λ q held. absurd (told_starting_nothing held.place (event q (Acquire l)) held.acquires);
      asks = λ x q at. absurd (none-some q at);
      order = λ x y q r i k lt at to one two. absurd (none-some q at);
    };
    held = λ e. refl;
    time = stamp_none s.processors [] (InPastOfSome [] (BringsFromKind [] (Release l)))
        (λ i x. told_starting_nothing x.0 (event x.1.0 (Release l)) x.1.1);
  });
  barrier = record {
    complete = 0;
    stages = each_replicate s.processors (IsAtBookBarrierStage [] 0) Away (λ p. (refl, refl));
    lacks = (0, some, refl);
    gathered = stamp_none s.processors [] (InPastOfSome [] (BringsFromSomeArrival [] 0))
        (λ i x. told_starting_nothing x.0 (event x.1.0 Arrive) x.1.1.does);
  };
  flags = each_replicate s.flags (IsBookFlag s.processors []) None (λ f i does. told_starting_nothing i (event does.0 (Set f)) does.1);
  awaits = each_replicate s.processors (IsAwaitedByBookStamps []) None
      (λ p. record
      { last = λ i a last. absurd (told_starting_nothing i (event p a) last.does); some = λ k e. absurd (none-some k e) });
  transit = each_replicate s.processors (IsBookMail s []) None none;
  notices = λ p m t at now. absurd (none-some m (slice_get-replicate_found s.processors None (Some m) p at));
  within = λ p q t at. subst (λ u. slice_index (replicate s.processors 0) q ≤ slice_index u q)
      (slice_get-replicate_found s.processors (replicate s.processors 0) t p at) (omega arith);
  tight = λ more q less.
      (0, replicate s.processors 0, slice_get-replicate s.processors (replicate s.processors 0) 0 some, omega arith);
}
  where
    none : (p : ℕ) (a : Kind) → ComesByBookMail a → ¬ WellFormedAllows s [] p a
    none p (Acquire l) posted allowed = told_starting_nothing allowed.0 (event p (Ask l)) allowed.1.does
    none p Depart posted allowed = told_starting_nothing allowed.0 (event p Arrive) allowed.1.does
    none p _ posted allowed = absurd posted

-- a load, a store or a fetch waits for nothing, leaves the barrier, and is always allowed
record IsPlainToldStarting (k : Kind) : Type 0 where
  awaits : awaited_next k ≡ None
  arrives : event_arrives k ≡ false
  departs : event_departs k ≡ false
  allowed : (s : Sizes) (h : List Event) (p : ℕ) → WellFormedAllows s h p k

told_starting_plain_kind : (k : Kind) → event_takes k ≡ false → event_closes k ≡ false → IsPlainToldStarting k
told_starting_plain_kind (Load a v) t c = record { awaits = refl; arrives = refl; departs = refl; allowed = λ s h p. tt }
told_starting_plain_kind (Store a v) t c = record { awaits = refl; arrives = refl; departs = refl; allowed = λ s h p. tt }
told_starting_plain_kind (Fetch w n r d) t c = record { awaits = refl; arrives = refl; departs = refl; allowed = λ s h p. tt }
told_starting_plain_kind _ t c = absurd cc

-- a book with another journal that holds the history
pub told_starting_journal : (s : Sizes) (h : List Event) (b : BookState) (log : Log)
    → (log.processors ≡ b.journal.processors) × (log.addresses ≡ b.journal.addresses) → HoldsRepresentedHistory log h
    → Represents s h b → Represents s h (record b { journal = log })
told_starting_journal s h b log same holds told = record {
  well_formed = told.well_formed;
  sizes = processor_times_same_sizes s b _ told.sizes (same.0, refl, same.1, refl);
  holds = holds;
  closed = told.closed;
  times = told.times;
  locks = told.locks;
  barrier = told.barrier;
  flags = told.flags;
  awaits = told.awaits;
  transit = told.transit;
  notices = told.notices;
  within = told.within;
  tight = told.tight;
}

-- one load, store or fetch
told_starting_quiet_event : {s : Sizes} {h : List Event} {b : BookState} {p : ℕ} → IsIdleProcessorTold s h b p → (k : Kind) → event_takes k ≡ false
    → event_closes k ≡ false → WellFormedKindInRange s k → Represents s (did h p k) (transition_handed_in b (event p k ∷ []))
told_starting_quiet_event {s} {h} {b} {p} call k takes closes range =
    told_book_event s h b p told lt k may (transition_handed_in b (event p k ∷ []))
    (record {
      locks = told_locks_kept s h p k b.locks.locks (λ l. record {
        ask = ask l;
        acquire = last_event_unlike event_takes k (Acquire l) takes refl;
        release = release l;
        none = lock_line_idle_no_ask h p l free;
      }) told.locks;
      barrier = barrier_stage_kept s h p k b.barrier plain.arrives plain.departs told.barrier;
      flags = flag_stamps_kept s h p k b.flags (λ f. last_event_unlike event_closes k (Set f) closes refl) told.flags;
      transit = each_own s.processors (IsBookMail s h) (IsBookMail s (did h p k)) b.transit p told.transit
          (λ r o isnt at is. posted_mail_kept s h p k may r isnt o release arrive is)
          (λ o at is. own_posted_mail_idle s h p k o free ask arrive is);
      notices = told.notices;
    })
    b.closed b.times
    (record {
      closed = book_intervals_quiet s h p k b.closed closes told.closed;
      times = each_own s.processors (λ q t. IsBookStamp s.processors h (InPast h q) t)
          (λ q t. IsBookStamp s.processors (did h p k) (InPast (did h p k) q) t) b.times p told.times
          (λ q t isnt at is. stamp_others s.processors h p k q t isnt is)
          (λ t at is. stamp_quiet s.processors h p k t takes closes is);
      within = told.within;
    })
    told.tight (ap (λ ws. record (transition_handed_in b (event p k ∷ [])) { awaits = ws }) waits)
  where
    told : Represents s h b
    told = call.told

    idle : slice_get b.awaits p ≡ Some None
    idle = call.idle

    lt : p < s.processors
    lt = processor_times_index_in_range s h b p None told idle

    plain : IsPlainToldStarting k
    plain = told_starting_plain_kind k takes closes

    waits : b.awaits ≡ slice_set b.awaits p (awaited_next k)
    waits = sym (ap (λ w. slice_set b.awaits p w) plain.awaits ∙ each_set_back b.awaits p None idle)

    free : AwaitsNothingNext h p
    free = processor_times_idle_awaits_none s h b p told idle

    may : WellFormedNext s h (event p k)
    may = processor_times_awaits_follow s h b p told k idle range (plain.allowed s h p)

    ask : (l : ℕ) → k ≢ Ask l
    ask l = last_event_unlike event_closes k (Ask l) closes refl

    release : (l : ℕ) → k ≢ Release l
    release l = last_event_unlike event_closes k (Release l) closes refl

    arrive : k ≢ Arrive
    arrive = last_event_unlike event_closes k Arrive closes refl

-- p hands in a block of loads, stores and fetches
pub told_starting_block : (s : Sizes) (h block : List Event) (b : BookState) (p : ℕ) → Represents s h b
    → slice_get b.awaits p ≡ Some None → IsBlockOfAllowedCalls s p block → Represents s (h ++ block) (transition_handed_in b block)
told_starting_block s h block b p told idle all =
    slice_push_induction (λ es. IsBlockOfAllowedCalls s p es → Represents s (h ++ es) (transition_handed_in b es)) start step block all
  where
    start : IsBlockOfAllowedCalls s p [] → Represents s (h ++ []) (transition_handed_in b [])
    start plain = told_starting_journal s (h ++ []) b (transition_appended b.journal []) (refl, refl)
        (held_history_longer b.journal h [] told.holds) (rw append-nil told)

    pushed : (es : List Event) (e : Event) → IsAllowedInnerCall s p e → Represents s (h ++ es) (transition_handed_in b es)
        → Represents s (h ++ (es ++ e ∷ [])) (transition_handed_in b (es ++ e ∷ []))
    pushed es e x now =
        let same : event p e.kind ≡ e = ap (λ q. event q e.kind) (sym x.mine) in
        let call : IsIdleProcessorTold s (h ++ es) (transition_handed_in b es) p = record { told = now; idle = idle } in
        let one = told_starting_quiet_event call e.kind x.takes x.closes x.in_range in
        let read = subst (λ f. Represents s ((h ++ es) ++ f ∷ [])
        (record b { journal = record b.journal { events = (b.journal.events ++ es) ++ f ∷ [] } })) same one in
        subst₂ (λ xs ys. Represents s xs (record b { journal = record b.journal { events = ys } }))
        (append_assoc h es (e ∷ [])) (append_assoc b.journal.events es (e ∷ [])) read

    step : (es : List Event) (e : Event) → (IsBlockOfAllowedCalls s p es → Represents s (h ++ es) (transition_handed_in b es))
        → IsBlockOfAllowedCalls s p (es ++ e ∷ []) → Represents s (h ++ (es ++ e ∷ [])) (transition_handed_in b (es ++ e ∷ []))
    step es e ih plain =
        pushed es e (plain (length es) e (event_place_at_end es e)) (ih (λ k f at. plain k f (event_place_longer es (e ∷ []) k f at)))
