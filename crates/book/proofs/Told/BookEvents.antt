-- What closing events do to the book alike, and events that take.
use Rattle.std.proofs.Common.{◌≡◌, ℕ, ◌<◌, List, [], ◌∷◌, length, Some, true, false, slice_get, slice_set, subst, sym, refl, ap, ◌∙◌, arith}
use Rattle.journal.specs.declared.event.Event.{Event}
use Rattle.journal.specs.declared.event.Kind.{Kind}
use Rattle.journal.specs.Sizes.{Sizes}
use Rattle.journal.specs.Events.{event_count, event_closes, event_takes}
use Rattle.journal.specs.WellFormed.{WellFormedNext}
use Rattle.journal.specs.Brings.{Brings}
use Rattle.journal.specs.DidEvent.{event, did}
use Rattle.page.specs.PageChanges.{PageChanges}
use Rattle.vtime.specs.TicksAndJoins.{tick, join}
use Rattle.interval.specs.KeptClosings.{KeptClosings, kept_closings_pushed, kept_closings_between}
use Rattle.transit.specs.Letters.{Letter}
use Rattle.book.specs.BookStamps.{EachStampedAt, IsBookStamp}
use Rattle.book.specs.BookLockLines.{HasBookLockLine}
use Rattle.book.specs.BookMail.{IsBookMail}
use Rattle.book.specs.BookFlags.{IsBookFlag}
use Rattle.book.specs.BookBarrier.{IsBookBarrier}
use Rattle.book.specs.KeptIntervals.{AreIntervalContents, AreKeptIntervalsTight}
use Rattle.book.specs.BookState.{BookState, book_state_time_of}
use Rattle.book.specs.Transitions.{transition_logged, transition_open_interval, transition_closed_by, transition_joined, transition_trimmed_by, transition_trimmed}
use Rattle.book.specs.RepresentedHistory.{Represents}
use Rattle.book.proofs.Parts.BookIntervals.{book_intervals_quiet}
use Rattle.book.proofs.Parts.TimedTrims.{AreTimedForTrim, timed_trims_leave_between, timed_trim_is_timed, timed_trim_tight}
use Rattle.book.proofs.Parts.HeldHistory.{held_history_longer}
use Rattle.book.proofs.Parts.ProcessorTimes.{processor_times_same_sizes, processor_times_well_formed, processor_times_awaits_set, processor_times_closing, processor_times_taking, processor_times_closed_now, processor_times_within_closing, processor_times_tight_closing, processor_times_within_taking}

-- the history tells the parts of a book that each transition changes in its own way
pub record AreToldAfterBookEvent (s : Sizes) (h : List Event) (b : BookState) : Type 0 where
  pub locks : EachStampedAt s.locks (HasBookLockLine s.processors h) b.locks.locks
  pub barrier : IsBookBarrier s h b.barrier
  pub flags : EachStampedAt s.flags (IsBookFlag s.processors h) b.flags
  pub transit : EachStampedAt s.processors (IsBookMail s h) b.transit
  pub notices : (p : ℕ) (m : Letter) (t : List ℕ) → slice_get b.transit p ≡ Some (Some m)
      → slice_get b.times p ≡ Some t → m.notices ≡ kept_closings_between b.closed t m.time

-- so are those of the book once it is trimmed
told_book_event_trimmed : (s : Sizes) (h : List Event) (b : BookState) → AreToldAfterBookEvent s h b → AreToldAfterBookEvent s h (transition_trimmed b)
told_book_event_trimmed s h b after = record {
  locks = after.locks;
  barrier = after.barrier;
  flags = after.flags;
  transit = after.transit;
  notices = λ p m t at now. after.notices p m t at now
      ∙ sym (timed_trims_leave_between b.closed b.times (length b.times) p t m.time now);
}

-- p does this, which may follow
module _ (s : Sizes) (h : List Event) (b : BookState) (p : ℕ) (told : Represents s h b) (lt : p < s.processors) (k : Kind)
    (may : WellFormedNext s h (event p k)) (c : BookState) (after : AreToldAfterBookEvent s (did h p k) c) where
  -- whatever it changes besides, it goes into the journal, and p waits for what comes of it
  pub told_book_event : (closed : KeptClosings) (times : List (List ℕ)) → AreTimedForTrim s (did h p k) closed times
      → (1 < s.processors → AreKeptIntervalsTight closed.first times)
      → c ≡ record (transition_logged b p k) {
        closed = closed;
        times = times;
        locks = record b.locks { locks = c.locks.locks };
        barrier = c.barrier;
        flags = c.flags;
        transit = c.transit;
      }
      → Represents s (did h p k) c
  told_book_event closed times timed tight is = subst (λ x. Represents s (did h p k) x) (sym is) (record {
    well_formed = processor_times_well_formed s h b p told k may;
    sizes = processor_times_same_sizes s b _ told.sizes (refl, refl, refl, refl);
    holds = held_history_longer b.journal h (event p k ∷ []) told.holds;
    closed = timed.closed;
    times = timed.times;
    locks = after.locks;
    barrier = after.barrier;
    flags = after.flags;
    awaits = processor_times_awaits_set s h b p told k;
    transit = after.transit;
    notices = λ r m t at. subst (λ (x : BookState). slice_get x.times r ≡ Some t → m.notices ≡ kept_closings_between x.closed t m.time)
        is
        (after.notices r m t at);
    within = timed.within;
    tight = tight;
  })

  -- p closes its interval
  pub told_book_event_closing : event_takes k ≡ false → event_closes k ≡ true → (records : List PageChanges)
      → AreIntervalContents s h p (event_count event_closes h p) records
      → c ≡ record (transition_closed_by b p k records) {
        locks = record b.locks { locks = c.locks.locks };
        barrier = c.barrier;
        flags = c.flags;
        transit = c.transit;
      }
      → Represents s (did h p k) c
  told_book_event_closing quiet closes records stored is =
      told_book_event (kept_closings_pushed b.closed (transition_open_interval b p records)) (slice_set b.times p (tick (book_state_time_of b p) p))
      (record {
        closed = processor_times_closed_now s h b p told lt k records closes stored;
        times = processor_times_closing s h b p told lt k quiet closes;
        within = processor_times_within_closing s h b p told lt;
      })
      (processor_times_tight_closing s h b p told lt) is

-- p does this, which takes over the timestamp u, and the book is c then
pub record IsToldTakingBookEvent (s : Sizes) (h : List Event) (b : BookState) (p : ℕ) (k : Kind) (u : List ℕ) (c : BookState) : Type 0 where
  pub told : Represents s h b
  pub mine : p < s.processors
  pub may : WellFormedNext s h (event p k)
  pub quiet : event_closes k ≡ false
  pub brings : IsBookStamp s.processors h (Brings h p k) u
  pub after : AreToldAfterBookEvent s (did h p k) c
  pub is : c ≡ record (transition_joined b p k u) {
    locks = record b.locks { locks = c.locks.locks };
    barrier = c.barrier;
    flags = c.flags;
    transit = c.transit;
  }

-- what everyone covers then is trimmed
pub told_book_event_taking : {s : Sizes} {h : List Event} {b : BookState} {p : ℕ} {k : Kind} {u : List ℕ} {c : BookState}
    → IsToldTakingBookEvent s h b p k u c → Represents s (did h p k) (transition_trimmed c)
told_book_event_taking {s} {h} {b} {p} {k} {u} {c} now =
    told_book_event s h b p now.told now.mine k now.may (transition_trimmed c) (told_book_event_trimmed s (did h p k) c now.after)
    (transition_trimmed_by b.closed times (length times)) times (timed_trim_is_timed s (did h p k) b.closed times timed)
    (λ more. timed_trim_tight s (did h p k) b.closed times timed (omega arith)) (ap transition_trimmed now.is)
  where
    times : List (List ℕ)
    times = slice_set b.times p (join (book_state_time_of b p) u)

    timed : AreTimedForTrim s (did h p k) b.closed times
    timed = record {
      closed = book_intervals_quiet s h p k b.closed now.quiet now.told.closed;
      times = processor_times_taking s h b p now.told now.mine k u now.quiet now.brings;
      within = processor_times_within_taking s h b p now.told now.mine u;
    }
