-- Arrivals: what the book is told by the history before, it is told by the history with the event after.
use Rattle.std.proofs.Common.{◌≡◌, ◌≢◌, ℕ, ◌<◌, ◌≤◌, inl, inr, List, [], length, map, Bool, true, false, Option, Some, None, slice_get, slice_index_or, subst, sym, refl, ap, ◌∙◌, arith}
use Rattle.std.proofs.lemmas.Option.{same_Some, slice_get_within, slice_get-get_or, slice_get-map}
use Rattle.std.proofs.lemmas.List.{length-map}
use Rattle.std.specs.Option.{option_map}
use Rattle.journal.specs.declared.event.Event.{Event}
use Rattle.journal.specs.declared.event.Kind.{Kind}
use Rattle.journal.specs.declared.event.Kind.TheVariants.{Ask, Acquire, Arrive, Depart}
use Rattle.journal.specs.Sizes.{Sizes}
use Rattle.journal.specs.Events.{event_count, event_arrives, event_departs, event_closes}
use Rattle.journal.specs.WellFormed.{WellFormedAllows, WellFormedNext, WellFormed}
use Rattle.journal.proofs.Journals.WellFormedStays.{well_formed_stays_last_cases}
use Rattle.journal.specs.AwaitedNext.{AwaitsNothingNext}
use Rattle.journal.specs.Pasts.{InPast}
use Rattle.page.specs.PageChanges.{PageChanges}
use Rattle.vtime.specs.TicksAndJoins.{tick, join}
use Rattle.interval.specs.KeptClosings.{kept_closings_between}
use Rattle.barrier.specs.BarrierEpisodes.{barrier_episode_full, barrier_episode_with_one_more, completed_barrier_episode}
use Rattle.transit.specs.Letters.{Letter}
use Rattle.journal.specs.DidEvent.{event, did}
use Rattle.book.specs.BookStamps.{EachStampedAt, IsBookStamp}
use Rattle.book.specs.BookMail.{ComesByBookMail, IsBookMail}
use Rattle.book.specs.BookBarrier.{IsBookBarrier}
use Rattle.book.specs.KeptIntervals.{AreIntervalContents}
use Rattle.book.specs.BookState.{BookState, book_state_time_of}
use Rattle.book.specs.Transitions.{transition_closed_by, transition_departure_to, transition_mail_met, transition_arrived}
use Rattle.book.specs.RepresentedHistory.{Represents}
use Rattle.book.proofs.Parts.Each.{each_own}
use Rattle.book.proofs.Parts.LastEvents.{last_event_none, last_event_count_others, last_event_count_kept}
use Rattle.book.proofs.Parts.Stamps.{stamp_closing}
use Rattle.book.proofs.Parts.LockLines.{lock_line_idle_no_ask}
use Rattle.book.proofs.Parts.PostedMail.{IsNewsForPostedMail, posted_mail_stays, posted_mail_unless, idle_posted_mail}
use Rattle.book.proofs.Parts.FlagStamps.{flag_stamps_kept}
use Rattle.book.proofs.Parts.BarrierStages.{barrier_stage_waits, barrier_stage_completes, barrier_stage_lets_all, barrier_stage_idle_counts}
use Rattle.book.proofs.Parts.ProcessorTimes.{processor_times_index_in_range, processor_times_idle_awaits_none, processor_times_awaits_no_mail, processor_time_stamp, processor_times_awaits_follow, processor_times_well_formed, processor_times_closing, processor_times_old_notices}
use Rattle.book.proofs.Told.BookEvents.{told_book_event_closing}
use Rattle.book.proofs.Told.Locks.{told_locks_kept}

-- in an open episode only those may depart that might before
told_arriving_departs_before : (s : Sizes) (h : List Event) (p r n : ℕ) → r ≢ p
    → ((q : ℕ) → q < s.processors → n ≤ event_count event_arrives h q)
    → (q : ℕ) × (q < s.processors) × (event_count event_arrives (did h p Arrive) q ≡ n)
    → WellFormedAllows s (did h p Arrive) r Depart → WellFormedAllows s h r Depart
told_arriving_departs_before s h p r n isnt most lacks allowed =
    let same = last_event_count_others event_departs h p Arrive r isnt in
    let one = allowed.2 lacks.0 lacks.1 in
    let e = lacks.2 in (
      allowed.0,
      elim (well_formed_stays_last_cases h (event p Arrive) r allowed.0 Arrive allowed.1)
          [ inl own ↦ absurd (isnt (sym own.0)) | inr old ↦ old.1 ],
      λ q lt. (let m = most q lt in omega arith),
    )

-- p's arrival leaves the episode open: all have arrived n times before, and somebody no more often after it
record ToldArrivingLeavesOpen (s : Sizes) (h : List Event) (p n : ℕ) : Type 0 where
  may : WellFormedNext s h (event p Arrive)
  most : (q : ℕ) → q < s.processors → n ≤ event_count event_arrives h q
  lacks : (q : ℕ) × (q < s.processors) × (event_count event_arrives (did h p Arrive) q ≡ n)

-- so the others' mail stays
told_arriving_mail_waits : {s : Sizes} {h : List Event} {p n : ℕ} → ToldArrivingLeavesOpen s h p n → (r : ℕ) (o : Option Letter) → r ≢ p
    → IsBookMail s h r o → IsBookMail s (did h p Arrive) r o
told_arriving_mail_waits {s} {h} {p} {n} open_is r None isnt mail =
    posted_mail_unless s h p Arrive open_is.may r isnt None never mail
  where
    never : (a : Kind) → ComesByBookMail a → IsNewsForPostedMail Arrive a → ¬ WellFormedAllows s (did h p Arrive) r a
    never (Acquire l) posted news allowed = absurd cc
    never Depart posted news allowed =
        mail Depart tt (told_arriving_departs_before s h p r n isnt open_is.most open_is.lacks allowed)
    never _ posted news allowed = absurd posted
told_arriving_mail_waits {s} {h} {p} {n} open_is r (Some m) isnt mail = posted_mail_stays s h p Arrive open_is.may r isnt m mail

-- the one who arrives has none then
told_arriving_mail_none : (s : Sizes) (h : List Event) (p n : ℕ) → event_count event_departs h p ≡ n
    → (q : ℕ) × (q < s.processors) × (event_count event_arrives (did h p Arrive) q ≡ n) → IsBookMail s (did h p Arrive) p None
told_arriving_mail_none s h p n same lacks (Acquire l) posted allowed =
    last_event_none h p Arrive allowed.0 (Ask l) (λ e. absurd cc) allowed.1
told_arriving_mail_none s h p n same lacks Depart posted allowed =
    let one = allowed.2 lacks.0 lacks.1 in
    let e = lacks.2 in
    let kept = last_event_count_kept event_departs h p Arrive p refl in
    absurd (omega arith)
told_arriving_mail_none s h p n same lacks _ posted allowed = absurd posted

-- a departure that is made now has the notices that its receiver lacks
told_arriving_notices : (full : Bool) (c : BookState) (u : List ℕ) (r : ℕ) (m : Letter) (t : List ℕ)
    → slice_get (transition_mail_met full c u) r ≡ Some (Some m) → slice_get c.times r ≡ Some t
    → (slice_get c.transit r ≡ Some (Some m) → m.notices ≡ kept_closings_between c.closed t m.time)
    → m.notices ≡ kept_closings_between c.closed t m.time
told_arriving_notices false c u r m t at time old = old at
told_arriving_notices true c u r m t at time old =
    let there = slice_get-map (λ (own : List ℕ). Some (transition_departure_to c.closed u own)) c.times r in
    let is = same_Some (Some (transition_departure_to c.closed u t)) (Some m)
    (sym (there ∙ ap (λ x. option_map (λ (own : List ℕ). Some (transition_departure_to c.closed u own)) x) time) ∙ at) in
    subst (λ x. x.notices ≡ kept_closings_between c.closed t x.time) (same_Some (transition_departure_to c.closed u t) m is) refl

-- p, which waits for nothing, arrives at the barrier
module _ (s : Sizes) (h : List Event) (b : BookState) (p : ℕ) (told : Represents s h b)
    (idle : slice_get b.awaits p ≡ Some None) where
  lt : p < s.processors
  lt = processor_times_index_in_range s h b p None told idle

  free : AwaitsNothingNext h p
  free = processor_times_idle_awaits_none s h b p told idle

  may : WellFormedNext s h (event p Arrive)
  may = processor_times_awaits_follow s h b p told Arrive idle tt tt

  told_arriving_well_formed : WellFormed s (did h p Arrive)
  told_arriving_well_formed = processor_times_well_formed s h b p told Arrive may

  -- p's timestamp then
  abbrev told_arriving_time : List ℕ
  told_arriving_time = tick (book_state_time_of b p) p

  time : IsBookStamp s.processors (did h p Arrive) (InPast (did h p Arrive) p) told_arriving_time
  time = stamp_closing s.processors h p Arrive (book_state_time_of b p) lt refl refl (processor_time_stamp s h b p told lt)

  -- everyone's mail after the arrival
  told_arriving_mail : (c : BookState) (full : Bool) → c.transit ≡ b.transit → length c.times ≡ s.processors
      → barrier_episode_full (barrier_episode_with_one_more b.barrier p told_arriving_time) ≡ full
      → EachStampedAt s.processors (IsBookMail s (did h p Arrive)) (transition_mail_met full c (join b.barrier.gathered told_arriving_time))
  told_arriving_mail c false same long full =
      subst (λ ms. EachStampedAt s.processors (IsBookMail s (did h p Arrive)) ms) (sym same)
      (each_own s.processors (IsBookMail s h) (IsBookMail s (did h p Arrive)) b.transit p told.transit
      (λ r o isnt at is. told_arriving_mail_waits (record { may = may; most = waits.1; lacks = waits.0.lacks }) r o isnt is)
      (λ o at is. subst (λ x. IsBookMail s (did h p Arrive) p x) (idle_posted_mail s h p o free is)
      (told_arriving_mail_none s h p waits.0.complete counts waits.0.lacks)))
    where
      waits : (x : IsBookBarrier s (did h p Arrive) (barrier_episode_with_one_more b.barrier p told_arriving_time))
          × ((q : ℕ) → q < s.processors → x.complete ≤ event_count event_arrives h q) × (event_count event_arrives h p ≡ x.complete)
      waits = barrier_stage_waits s h p b.barrier told.well_formed free lt told.barrier told_arriving_time time full

      counts : event_count event_departs h p ≡ waits.0.complete
      counts = sym (barrier_stage_idle_counts s h p told.well_formed free) ∙ waits.2
  told_arriving_mail c true same long full = record { long = length-map c.times departs ∙ long; each = each }
    where
      -- one's departure, with what it lacks
      departs : List ℕ → Option Letter
      departs own = Some (transition_departure_to c.closed (join b.barrier.gathered told_arriving_time) own)

      carries : (q : ℕ) → q < s.processors → (own : List ℕ) → IsBookMail s (did h p Arrive) q (departs own)
      carries q less own =
          let x = barrier_stage_lets_all s h p b.barrier told.well_formed free lt told.barrier told_arriving_time time told_arriving_well_formed full q less in
          record { kind = Depart; lets = tt; allowed = x.0; time = x.1 }

      each : (q : ℕ) (o : Option Letter) → slice_get (map departs c.times) q ≡ Some o → IsBookMail s (did h p Arrive) q o
      each q o at =
          let within = slice_get_within (map departs c.times) q o at in
          let mapped = length-map c.times departs in
          let read = slice_get-get_or c.times q [] (omega arith) in
          let is = same_Some (departs (slice_index_or c.times q [])) o
          (sym (slice_get-map departs c.times q ∙ ap (λ x. option_map departs x) read) ∙ at) in
          subst (λ x. IsBookMail s (did h p Arrive) q x) is (carries q (omega arith) (slice_index_or c.times q []))

  -- and the barrier
  told_arriving_barrier : (full : Bool) → barrier_episode_full (barrier_episode_with_one_more b.barrier p told_arriving_time) ≡ full
      → IsBookBarrier s (did h p Arrive) (completed_barrier_episode full (barrier_episode_with_one_more b.barrier p told_arriving_time))
  told_arriving_barrier false full =
      (barrier_stage_waits s h p b.barrier told.well_formed free lt told.barrier told_arriving_time time full).0
  told_arriving_barrier true full =
      barrier_stage_completes s h p b.barrier told.well_formed free lt told.barrier told_arriving_time time told_arriving_well_formed full

  pub told_arriving : (records : List PageChanges) → AreIntervalContents s h p (event_count event_closes h p) records
      → Represents s (did h p Arrive) (transition_arrived b p records)
  told_arriving records stored =
      told_book_event_closing s h b p told lt Arrive may (transition_arrived b p records)
      (record {
        locks = told_locks_kept s h p Arrive b.locks.locks (λ l. record {
          ask = λ e. absurd cc;
          acquire = λ e. absurd cc;
          release = λ e. absurd cc;
          none = lock_line_idle_no_ask h p l free;
        }) told.locks;
        barrier = told_arriving_barrier full refl;
        flags = flag_stamps_kept s h p Arrive b.flags (λ f e. absurd cc) told.flags;
        transit = told_arriving_mail (transition_closed_by b p Arrive records) full refl
            (processor_times_closing s h b p told lt Arrive refl refl).long refl;
        notices = λ r m t at read. told_arriving_notices full (transition_closed_by b p Arrive records) (join b.barrier.gathered told_arriving_time)
            r m t at read
            (λ there. processor_times_old_notices s h b p told lt records r m t (processor_times_awaits_no_mail s h b p told idle r m there) there read);
      })
      refl refl records stored refl
    where
      -- whether the episode is complete
      full : Bool
      full = barrier_episode_full (barrier_episode_with_one_more b.barrier p told_arriving_time)
