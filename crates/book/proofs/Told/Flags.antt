-- Sets, watches and awaits: what the book is told by the history before, it is told by the history with the event
-- after.
use Rattle.std.proofs.Common.{◌≡◌, ◌≢◌, ℕ, ◌<◌, ◌↔◌, List, true, false, Option, Some, None, slice_get, slice_set, slice_index_or, subst, sym, refl, ap, ◌∙◌}
use Rattle.std.proofs.lemmas.Option.{same_Some, none-some}
use Rattle.journal.specs.declared.event.Event.{Event}
use Rattle.journal.specs.declared.event.Kind.{Kind}
use Rattle.journal.specs.declared.event.Kind.TheVariants.{Ask, Acquire, Release, Arrive, Depart, Set, Watch, Await}
use Rattle.journal.specs.Sizes.{Sizes}
use Rattle.journal.specs.Events.{event_count, event_arrives, event_departs, event_closes, event_takes}
use Rattle.journal.specs.WellFormed.{LastIs, WellFormedAllows, WellFormedNext, Ready}
use Rattle.journal.specs.AwaitedNext.{awaited_next, AwaitsNothingNext}
use Rattle.journal.proofs.Journals.WellFormedStays.{well_formed_stays_last_unique}
use Rattle.journal.proofs.Journals.MayGoOn.{may_go_on_waiting_for, may_go_on_taking}
use Rattle.page.specs.PageChanges.{PageChanges}
use Rattle.base.proofs.SliceSets.{slice_get-set_other}
use Rattle.vtime.specs.TicksAndJoins.{tick, join}
use Rattle.transit.specs.Letters.{Letter}
use Rattle.journal.specs.DidEvent.{event, did}
use Rattle.book.specs.BookStamps.{EachStampedAt, IsAwaitedByBookStamps}
use Rattle.book.specs.BookMail.{ComesByBookMail, IsBookMail}
use Rattle.book.specs.BookFlags.{IsBookFlag}
use Rattle.book.specs.KeptIntervals.{AreIntervalContents}
use Rattle.book.specs.BookState.{BookState, book_state_time_of}
use Rattle.book.specs.Transitions.{transition_closed_by, transition_flag_joined, transition_set, transition_watched, transition_joined, transition_trimmed}
use Rattle.book.specs.RepresentedHistory.{Represents}
use Rattle.book.proofs.Parts.Each.{each_set, each_own, each_is_at}
use Rattle.book.proofs.Parts.Stamps.{stamp_closing}
use Rattle.book.proofs.Parts.LockLines.{lock_line_idle_no_ask}
use Rattle.book.proofs.Parts.PostedMail.{posted_mail_kept, own_posted_mail_idle, own_posted_mail_none, posted_mail_lets}
use Rattle.book.proofs.Parts.FlagStamps.{flag_stamp_kept, flag_stamps_kept, flag_stamp_set}
use Rattle.book.proofs.Parts.BarrierStages.{barrier_stage_kept}
use Rattle.book.proofs.Parts.LastEvents.{last_event_unlike}
use Rattle.book.proofs.Parts.ProcessorTimes.{processor_times_index_in_range, processor_times_idle_awaits_none, processor_times_awaits_no_mail, processor_time_stamp, processor_times_awaits_follow, processor_times_old_notices}
use Rattle.book.proofs.Told.BookEvents.{IsToldTakingBookEvent, told_book_event_closing, told_book_event_taking}
use Rattle.book.proofs.Told.Locks.{told_locks_kept}

-- the event closes its interval, and neither locks nor the barrier know of it
record IsToldFlagClosing (k : Kind) : Type 0 where
  takes : event_takes k ≡ false
  closes : event_closes k ≡ true
  arrives : event_arrives k ≡ false
  departs : event_departs k ≡ false
  ask : (l : ℕ) → k ≢ Ask l
  release : (l : ℕ) → k ≢ Release l

module _ (s : Sizes) (h : List Event) (b : BookState) (p f : ℕ) (records : List PageChanges) (told : Represents s h b)
    (range : f < s.flags) (idle : slice_get b.awaits p ≡ Some None)
    (stored : AreIntervalContents s h p (event_count event_closes h p) records) where
  told_flag_closing : (k : Kind) → IsToldFlagClosing k → WellFormedNext s h (event p k) → (flags : List (Option (List ℕ)))
      → EachStampedAt s.flags (IsBookFlag s.processors (did h p k)) flags
      → Represents s (did h p k) (record (transition_closed_by b p k records) { flags = flags })
  told_flag_closing k plain may flags all =
      told_book_event_closing s h b p told lt k may (record (transition_closed_by b p k records) { flags = flags })
      (record {
        locks = told_locks_kept s h p k b.locks.locks (λ l. record {
          ask = plain.ask l;
          acquire = last_event_unlike event_takes k (Acquire l) plain.takes refl;
          release = plain.release l;
          none = lock_line_idle_no_ask h p l free;
        }) told.locks;
        barrier = barrier_stage_kept s h p k b.barrier plain.arrives plain.departs told.barrier;
        flags = all;
        transit = each_own s.processors (IsBookMail s h) (IsBookMail s (did h p k)) b.transit p told.transit
            (λ r o isnt at is. posted_mail_kept s h p k may r isnt o plain.release arrive is)
            (λ o at is. own_posted_mail_idle s h p k o free plain.ask arrive is);
        notices = λ r m t at. processor_times_old_notices s h b p told lt records r m t (processor_times_awaits_no_mail s h b p told idle r m at) at;
      })
      plain.takes plain.closes records stored refl
    where
      lt : p < s.processors
      lt = processor_times_index_in_range s h b p None told idle

      free : AwaitsNothingNext h p
      free = processor_times_idle_awaits_none s h b p told idle

      arrive : k ≢ Arrive
      arrive = last_event_unlike event_arrives k Arrive plain.arrives refl

  -- p sets a flag
  pub told_flag_set : Represents s (did h p (Set f)) (transition_set b p f records)
  told_flag_set =
      told_flag_closing (Set f)
      (record {
        takes = refl;
        closes = refl;
        arrives = refl;
        departs = refl;
        ask = λ l e. absurd cc;
        release = λ l e. absurd cc;
      })
      (processor_times_awaits_follow s h b p told (Set f) idle range tt)
      (slice_set b.flags f (Some (transition_flag_joined (slice_index_or b.flags f None) (tick (book_state_time_of b p) p))))
      (each_set s.flags (IsBookFlag s.processors h) (IsBookFlag s.processors (did h p (Set f))) b.flags f
      (Some (transition_flag_joined (slice_index_or b.flags f None) (tick (book_state_time_of b p) p))) told.flags
      (λ g o isnt at is. flag_stamp_kept s.processors h p (Set f) g o (λ e. isnt (cc e)) is)
      (flag_stamp_set s.processors h p f (slice_index_or b.flags f None) (tick (book_state_time_of b p) p)
      (each_is_at s.flags (IsBookFlag s.processors h) b.flags f None told.flags range)
      (let lt = processor_times_index_in_range s h b p None told idle in
      stamp_closing s.processors h p (Set f) (book_state_time_of b p) lt refl refl (processor_time_stamp s h b p told lt))))

  -- p watches a flag
  pub told_flag_watch : Represents s (did h p (Watch f)) (transition_watched b p f records)
  told_flag_watch =
      told_flag_closing (Watch f)
      (record {
        takes = refl;
        closes = refl;
        arrives = refl;
        departs = refl;
        ask = λ l e. absurd cc;
        release = λ l e. absurd cc;
      })
      (processor_times_awaits_follow s h b p told (Watch f) idle range tt) b.flags
      (flag_stamps_kept s h p (Watch f) b.flags (λ g e. absurd cc) told.flags)

-- who waits for a flag has watched it
told_flag_watched : (a : Kind) (f : ℕ) → awaited_next a ≡ Some (Await f) → a ≡ Watch f
told_flag_watched (Ask l) f e = absurd (cc (e))
told_flag_watched Arrive f e = absurd (cc (e))
told_flag_watched (Watch g) f e = cc (e)
told_flag_watched _ f e = absurd (cc (e))

pub told_flag_last_watch : (h : List Event) (p f : ℕ) → IsAwaitedByBookStamps h p (Some (Await f)) → (i : ℕ) × LastIs h p i (Watch f)
told_flag_last_watch h p f w = let s =
    w.some (Await f) refl in (s.0, subst (λ a. LastIs h p s.0 a) (told_flag_watched s.1 f (sym (w.last s.0 s.1 s.2))) s.2)

-- who waits for a flag has no message
pub told_flag_watching_mail : (s : Sizes) (h : List Event) (p i f : ℕ) (o : Option Letter) → LastIs h p i (Watch f)
    → IsBookMail s h p o → None ≡ o
told_flag_watching_mail s h p i f None last mail = refl
told_flag_watching_mail s h p i f (Some m) last mail = absurd (go mail.kind (posted_mail_lets m.kind mail.kind mail.lets) mail.allowed)
  where
    go : (a : Kind) → ComesByBookMail a → ¬ WellFormedAllows s h p a
    go (Acquire l) posted allowed = absurd (cc ((well_formed_stays_last_unique h p i allowed.0 (Watch f) (Ask l) last allowed.1).1))
    go Depart posted allowed = absurd (cc ((well_formed_stays_last_unique h p i allowed.0 (Watch f) Arrive last allowed.1).1))
    go _ posted allowed = absurd posted

-- p awaits a flag that is set, and what everyone covers then is trimmed
pub told_flag_signal : (s : Sizes) (h : List Event) (b : BookState) (p f : ℕ) (t : List ℕ) → Represents s h b
    → slice_get b.awaits p ≡ Some (Some (Await f)) → slice_get b.flags f ≡ Some (Some t)
    → Represents s (did h p (Await f)) (transition_trimmed (transition_joined b p (Await f) t))
told_flag_signal s h b p f t told waits set =
    told_book_event_taking now
  where
    last : (i : ℕ) × LastIs h p i (Watch f)
    last = told_flag_last_watch h p f (told.awaits.each p (Some (Await f)) waits)

    flag : IsBookFlag s.processors h f (Some t)
    flag = told.flags.each f (Some t) set

    may : WellFormedNext s h (event p (Await f))
    may = may_go_on_taking s h p (Await f) told.well_formed refl (last.0, flag.0.0, flag.0.1.0, last.1, flag.0.1.1)

    apart : (r : ℕ) (m : Letter) → slice_get b.transit r ≡ Some (Some m) → r ≢ p
    apart r m at is =
        let P : ℕ → Type 0 = λ x. slice_get b.transit x ≡ Some (Some m) in
        none-some m (told_flag_watching_mail s h p last.0 f (Some m) last.1 (told.transit.each p (Some m) (subst P is at)))

    now : IsToldTakingBookEvent s h b p (Await f) t (transition_joined b p (Await f) t)
    now = record {
      told = told;
      mine = processor_times_index_in_range s h b p (Some (Await f)) told waits;
      may = may;
      quiet = refl;
      brings = flag.1;
      after = record {
        locks = told_locks_kept s h p (Await f) b.locks.locks (λ l. record {
          ask = λ e. absurd cc;
          acquire = λ e. absurd cc;
          release = λ e. absurd cc;
          none = λ i ask. absurd (cc ((well_formed_stays_last_unique h p last.0 i (Watch f) (Ask l) last.1 ask).1));
        }) told.locks;
        barrier = barrier_stage_kept s h p (Await f) b.barrier refl refl told.barrier;
        flags = flag_stamps_kept s h p (Await f) b.flags (λ g e. absurd cc) told.flags;
        transit = each_own s.processors (IsBookMail s h) (IsBookMail s (did h p (Await f))) b.transit p told.transit
            (λ r o isnt at is. posted_mail_kept s h p (Await f) may r isnt o (λ m e. absurd cc) (λ e. absurd cc) is)
            (λ o at is. subst (λ x. IsBookMail s (did h p (Await f)) p x) (told_flag_watching_mail s h p last.0 f o last.1 is)
            (own_posted_mail_none s h p (Await f) (λ m e. absurd cc) (λ e. absurd cc)));
        notices = λ r m u at now. told.notices r m u at
            (sym (slice_get-set_other b.times p r (join (book_state_time_of b p) t) (apart r m at)) ∙ now);
      };
      is = refl;
    }

-- who waits for a flag may go on exactly where it is set
pub told_flag_signal_ready : (s : Sizes) (h : List Event) (b : BookState) (p f : ℕ) (o : Option (List ℕ)) → Represents s h b
    → slice_get b.awaits p ≡ Some (Some (Await f)) → slice_get b.flags f ≡ Some o → (o ≢ None) ↔ Ready s h p
told_flag_signal_ready s h b p f o told waits at =
    (there o (told.flags.each f o at), λ ready. back o (told.flags.each f o at) ready)
  where
    last : (i : ℕ) × LastIs h p i (Watch f)
    last = told_flag_last_watch h p f (told.awaits.each p (Some (Await f)) waits)

    there : (x : Option (List ℕ)) → IsBookFlag s.processors h f x → (x ≢ None) → Ready s h p
    there None flag isnt = absurd (isnt refl)
    there (Some t) flag isnt = (Await f, refl, (last.0, flag.0.0, flag.0.1.0, last.1, flag.0.1.1))

    back : (x : Option (List ℕ)) → IsBookFlag s.processors h f x → Ready s h p → x ≢ None
    back (Some t) flag ready e = absurd (cc (e))
    back None flag (k, taking, allowed) e =
        let w = may_go_on_waiting_for s h p k taking allowed in
        let is : Watch f ≡ w.call = (well_formed_stays_last_unique h p last.0 w.place (Watch f) w.call last.1 w.last).1 in
        let same : Await f ≡ k = same_Some (Await f) k (ap (λ a. awaited_next a) is ∙ w.awaits) in
        let set : WellFormedAllows s h p (Await f) = subst (λ a. WellFormedAllows s h p a) (sym same) allowed in
        flag set.1 (set.2, set.4)
