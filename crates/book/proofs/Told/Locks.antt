-- Asks and releases: what the book is told by the history before, it is told by the history with the event after.
use Rattle.std.proofs.Common.{◌≡◌, ◌≢◌, ℕ, ◌<◌, inl, inr, List, [], ◌∷◌, ◌++◌, Option, Some, None, slice_get, slice_set, subst, sym, refl, ap, ◌∙◌}
use Rattle.std.proofs.lemmas.Bool.{cases_eq}
use Rattle.std.proofs.lemmas.Option.{same_Some, none-some, get_or_from_slice_get}
use Rattle.journal.specs.declared.event.Event.{Event}
use Rattle.journal.specs.declared.event.Kind.{Kind}
use Rattle.journal.specs.declared.event.Kind.TheVariants.{Ask, Acquire, Release, Arrive, Depart}
use Rattle.journal.specs.Sizes.{Sizes}
use Rattle.journal.specs.Events.{event_count, event_closes}
use Rattle.journal.specs.WellFormed.{LastIs, Holds, WellFormedGrant, WellFormedAllows, WellFormedNext, WellFormed}
use Rattle.journal.specs.AwaitedNext.{AwaitsNothingNext}
use Rattle.journal.specs.Pasts.{InPastOfSome}
use Rattle.journal.specs.Brings.{BringsFromKind}
use Rattle.base.proofs.SliceSets.{slice_get-set_found, slice_get-set_other}
use Rattle.journal.proofs.Journals.WellFormedStays.{well_formed_stays_last_cases, well_formed_stays_holds_cases}
use Rattle.journal.proofs.Journals.HoldingReleases.{holding_release_alone}
use Rattle.page.specs.PageChanges.{PageChanges}
use Rattle.vtime.specs.TicksAndJoins.{tick}
use Rattle.interval.specs.SentIntervals.{SentRecord}
use Rattle.interval.specs.KeptClosings.{kept_closings_between}
use Rattle.lockq.specs.LockQueues.{LockQueue, lock_queue_unheld, lock_queue_at, lock_queue_line, lock_queue_asked, lock_queue_released}
use Rattle.transit.specs.Letters.{Letter}
use Rattle.transit.specs.Letters.LetterKind.{grant}
use Rattle.journal.specs.DidEvent.{event, did}
use Rattle.book.specs.BookStamps.{EachStampedAt, IsBookStamp}
use Rattle.book.specs.BookLockLines.{IsBookLockLine, HasBookLockLine}
use Rattle.book.specs.BookMail.{ComesByBookMail, IsBookMail}
use Rattle.book.specs.KeptIntervals.{AreIntervalContents}
use Rattle.book.specs.BookState.{BookState, book_state_time_of}
use Rattle.book.specs.Transitions.{transition_closed_by, transition_grant, transition_if_free, transition_mail_passed, transition_asked, transition_released}
use Rattle.book.specs.RepresentedHistory.{Represents}
use Rattle.book.proofs.Parts.Each.{each_set, each_kept, each_own, each_is_at}
use Rattle.book.proofs.Parts.LastEvents.{last_event_none, last_event_held_before}
use Rattle.book.proofs.Parts.Stamps.{stamp_closing, stamp_released}
use Rattle.book.proofs.Parts.LockLines.{NoAskInLockLine, LeavesLockLine, lock_line_idle_no_ask, not_in_lock_line, lock_line_kept, lock_line_asked, lock_line_released, lock_line_taken, first_in_lock_line_allowed, allowed_first_in_lock_line}
use Rattle.book.proofs.Parts.PostedMail.{IsNewsForPostedMail, posted_mail_stamp_kept, posted_mail_unless, posted_mail_kept, own_posted_mail_idle}
use Rattle.book.proofs.Parts.FlagStamps.{flag_stamps_kept}
use Rattle.book.proofs.Parts.BarrierStages.{barrier_stage_kept}
use Rattle.book.proofs.Parts.ProcessorTimes.{IsIdleProcessorTold, processor_times_index_in_range, processor_times_idle_awaits_none, processor_times_awaits_no_mail, processor_time_stamp, processor_times_awaits_follow, processor_times_well_formed, processor_times_old_notices}
use Rattle.book.proofs.Told.BookEvents.{told_book_event_closing}

-- a lock that the event does not name stays
pub told_lock_kept : {n : ℕ} {h : List Event} {p : ℕ} {k : Kind} {l : ℕ} {x : LockQueue} → LeavesLockLine h p k l → HasBookLockLine n h l x
    → HasBookLockLine n (did h p k) l x
told_lock_kept {n} {h} {p} {k} {l} {x} leaves is = record {
  line_is = lock_line_kept leaves is.line_is;
  held = is.held;
  time = posted_mail_stamp_kept n h p k (Release l) x.time leaves.release is.time;
}

-- each stays that is neither asked for nor taken nor released
pub told_locks_kept : (s : Sizes) (h : List Event) (p : ℕ) (k : Kind) (xs : List LockQueue) → ((l : ℕ) → LeavesLockLine h p k l)
    → EachStampedAt s.locks (HasBookLockLine s.processors h) xs → EachStampedAt s.locks (HasBookLockLine s.processors (did h p k)) xs
told_locks_kept s h p k xs leaves all =
    each_kept s.locks (HasBookLockLine s.processors h) (HasBookLockLine s.processors (did h p k)) xs all
    (λ l x at is. told_lock_kept (leaves l) is)

-- p neither waits for the lock nor holds it
pub record MayAskForToldLock (h : List Event) (p l : ℕ) : Type 0 where
  pub none : NoAskInLockLine h p l
  pub free : ¬ Holds h p l

told_lock_asked : {h : List Event} {p l : ℕ} → (n : ℕ) (o : Option ℕ) (xs t : List ℕ) → MayAskForToldLock h p l
    → HasBookLockLine n h l (record { holder = o; queue = xs; time = t })
    → HasBookLockLine n (did h p (Ask l)) l (lock_queue_asked (record { holder = o; queue = xs; time = t }) p)
told_lock_asked n None (y ∷ xs) t may is = absurd (cc (is.held refl))
told_lock_asked {h} {p} {l} n None [] t may is = record {
  line_is = lock_line_asked h p l [] may.none may.free is.line_is;
  held = λ e. absurd (cc (e));
  time = posted_mail_stamp_kept n h p (Ask l) (Release l) t (λ e. absurd cc) is.time;
}
told_lock_asked {h} {p} {l} n (Some q) xs t may is = record {
  line_is = lock_line_asked h p l (q ∷ xs) may.none may.free is.line_is;
  held = λ e. absurd (cc (e));
  time = posted_mail_stamp_kept n h p (Ask l) (Release l) t (λ e. absurd cc) is.time;
}

pub told_lock_taken : (n : ℕ) (h : List Event) (p l i : ℕ) (x : LockQueue) → LastIs h p i (Ask l) → WellFormedGrant h i l
    → HasBookLockLine n h l x → HasBookLockLine n (did h p (Acquire l)) l x
told_lock_taken n h p l i x last may is = record {
  line_is = lock_line_taken h p l i (lock_queue_line x) last may is.line_is;
  held = is.held;
  time = posted_mail_stamp_kept n h p (Acquire l) (Release l) x.time (λ e. absurd cc) is.time;
}

-- the line of a lock is that of its holder and its queue
pub told_lock_holder_first : (n : ℕ) (h : List Event) (p l : ℕ) (o : Option ℕ) (xs t : List ℕ) → Holds h p l
    → HasBookLockLine n h l (record { holder = o; queue = xs; time = t }) → o ≡ Some p
told_lock_holder_first n h p l None (y ∷ xs) t held is = absurd (cc (is.held refl))
told_lock_holder_first n h p l None [] t held is = absurd (none-some p (is.line_is.first p held))
told_lock_holder_first n h p l (Some q) xs t held is = is.line_is.first p held

told_lock_passed : (n : ℕ) (h : List Event) (l : ℕ) (xs t : List ℕ) → IsBookLockLine h l xs
    → IsBookStamp n h (InPastOfSome h (BringsFromKind h (Release l))) t
    → HasBookLockLine n h l (lock_queue_released (record { holder = None; queue = xs; time = [] }) t)
told_lock_passed n h l [] t is time = record { line_is = is; held = λ e. refl; time = time }
told_lock_passed n h l (q ∷ xs) t is time = record { line_is = is; held = λ e. absurd (cc (e)); time = time }

-- the line after the holder's release
told_lock_queue_after_release : {n : ℕ} {h : List Event} {p l : ℕ} → (x : LockQueue) → NoAskInLockLine h p l → Holds h p l → HasBookLockLine n h l x
    → IsBookLockLine (did h p (Release l)) l x.queue
told_lock_queue_after_release {n} {h} {p} {l} x none held is =
    let first = told_lock_holder_first n h p l x.holder x.queue x.time held is in
    lock_line_released h p l x.queue none held
    (subst (λ o. IsBookLockLine h l (lock_queue_line (record { holder = o; queue = x.queue; time = x.time }))) first is.line_is)

-- the mail of one who asks: a grant where nobody stands before it
told_lock_asked_mail : {h : List Event} {p l : ℕ} → (s : Sizes) (o : Option ℕ) (xs t : List ℕ) (notices : List SentRecord)
    → MayAskForToldLock h p l → HasBookLockLine s.processors h l (record { holder = o; queue = xs; time = t })
    → IsBookMail s (did h p (Ask l)) p (transition_if_free o (record { kind = grant; time = t; notices = notices }))
told_lock_asked_mail s None (y ∷ xs) t notices may is = absurd (cc (is.held refl))
told_lock_asked_mail {h} {p} {l} s None [] t notices may is =
    let now = told_lock_asked s.processors None [] t may is in
    let nobody : (q : ℕ) → ¬ Holds (did h p (Ask l)) q l =
    λ q held. none-some q (is.line_is.first q (last_event_held_before h p (Ask l) q l (λ e. absurd cc) held)) in
    record {
      kind = Acquire l;
      lets = tt;
      allowed = allowed_first_in_lock_line (did h p (Ask l)) p l (p ∷ []) nobody refl now.line_is;
      time = now.time;
    }
told_lock_asked_mail {h} {p} {l} s (Some q) xs t notices may_ask is = mail
  where
    now : HasBookLockLine s.processors (did h p (Ask l)) l (lock_queue_asked (record { holder = Some q; queue = xs; time = t }) p)
    now = told_lock_asked s.processors (Some q) xs t may_ask is

    same_lock : (m i : ℕ) → LastIs (did h p (Ask l)) p i (Ask m) → l ≡ m
    same_lock m i last =
        elim (well_formed_stays_last_cases h (event p (Ask l)) p i (Ask m) last)
        [ inl own ↦ cc (own.2) | inr old ↦ absurd (old.0 refl) ]

    never : (i : ℕ) → LastIs (did h p (Ask l)) p i (Ask l) → WellFormedGrant (did h p (Ask l)) i l → ⊥
    never i last may = not_in_lock_line h p l (q ∷ xs) may_ask.none may_ask.free is.line_is
        (0, first_in_lock_line_allowed (did h p (Ask l)) p l i (q ∷ (xs ++ p ∷ [])) last may now.line_is)

    mail : (a : Kind) → ComesByBookMail a → ¬ WellFormedAllows s (did h p (Ask l)) p a
    mail (Acquire m) posted (i, last, may) = (
        let is_l = same_lock m i last in
        never i (subst (λ x. LastIs (did h p (Ask l)) p i (Ask x)) (sym is_l) last)
        (subst (λ x. WellFormedGrant (did h p (Ask l)) i x) (sym is_l) may))
    mail Depart posted allowed = last_event_none h p (Ask l) allowed.0 Arrive (λ e. absurd cc) allowed.1
    mail _ posted allowed = absurd posted

told_lock_due_is : (o : Option ℕ) (m n : Letter) → transition_if_free o m ≡ Some n → m ≡ n
told_lock_due_is None m n e = same_Some m n e
told_lock_due_is (Some q) m n e = absurd (none-some n e)

-- a message that is made now has the notices that its receiver lacks
pub told_lock_granted_notices : (c : BookState) (r : ℕ) (u t : List ℕ) (m : Letter) → slice_get c.times r ≡ Some t
    → transition_grant c r u ≡ m → m.notices ≡ kept_closings_between c.closed t m.time
told_lock_granted_notices c r u t m at is =
    subst (λ x. x.notices ≡ kept_closings_between c.closed t x.time) is
    (ap (λ own. kept_closings_between c.closed own u) (get_or_from_slice_get c.times r t [] at))

-- p asks for a lock
pub told_lock_ask : {s : Sizes} {h : List Event} {b : BookState} {p : ℕ} → IsIdleProcessorTold s h b p → (l : ℕ) (records : List PageChanges)
    → l < s.locks → ¬ Holds h p l → AreIntervalContents s h p (event_count event_closes h p) records
    → Represents s (did h p (Ask l)) (transition_asked b p l records)
told_lock_ask {s} {h} {b} {p} call l records range free stored =
    told_book_event_closing s h b p told lt (Ask l) may (transition_asked b p l records)
    (record {
      locks = each_set s.locks (HasBookLockLine s.processors h) (HasBookLockLine s.processors (did h p (Ask l))) b.locks.locks l
          (lock_queue_asked (lock_queue_at b.locks l) p) told.locks
          (λ m x isnt at is. told_lock_kept (record {
            ask = λ e. isnt (cc e);
            acquire = λ e. absurd cc;
            release = λ e. absurd cc;
            none = lock_line_idle_no_ask h p m (processor_times_idle_awaits_none s h b p told idle);
          }) is)
          (told_lock_asked s.processors (lock_queue_at b.locks l).holder (lock_queue_at b.locks l).queue (lock_queue_at b.locks l).time may_ask
          lock);
      barrier = barrier_stage_kept s h p (Ask l) b.barrier refl refl told.barrier;
      flags = flag_stamps_kept s h p (Ask l) b.flags (λ f e. absurd cc) told.flags;
      transit = each_set s.processors (IsBookMail s h) (IsBookMail s (did h p (Ask l))) b.transit p made told.transit
          (λ r o isnt at is. posted_mail_kept s h p (Ask l) may r isnt o (λ m e. absurd cc) (λ e. absurd cc) is)
          (told_lock_asked_mail s (lock_queue_at b.locks l).holder (lock_queue_at b.locks l).queue (lock_queue_at b.locks l).time
          (transition_grant c p (lock_queue_at b.locks l).time).notices may_ask lock);
      notices = notices;
    })
    refl refl records stored refl
  where
    told : Represents s h b
    told = call.told

    idle : slice_get b.awaits p ≡ Some None
    idle = call.idle

    c : BookState
    c = transition_closed_by b p (Ask l) records

    -- its grant, where nobody holds the lock
    made : Option Letter
    made = transition_if_free (lock_queue_at b.locks l).holder (transition_grant c p (lock_queue_at b.locks l).time)

    lt : p < s.processors
    lt = processor_times_index_in_range s h b p None told idle

    may : WellFormedNext s h (event p (Ask l))
    may = processor_times_awaits_follow s h b p told (Ask l) idle range free

    may_ask : MayAskForToldLock h p l
    may_ask = record { none = lock_line_idle_no_ask h p l (processor_times_idle_awaits_none s h b p told idle); free = free }

    lock : HasBookLockLine s.processors h l (lock_queue_at b.locks l)
    lock = each_is_at s.locks (HasBookLockLine s.processors h) b.locks.locks l (lock_queue_unheld b.locks.processors) told.locks range

    notices : (r : ℕ) (m : Letter) (t : List ℕ) → slice_get (slice_set b.transit p made) r ≡ Some (Some m)
        → slice_get c.times r ≡ Some t → m.notices ≡ kept_closings_between c.closed t m.time
    notices r m t at time = elim (cases_eq r p) [
      | inl is ↦ (
          let P : ℕ → Type 0 = λ x. slice_get (slice_set b.transit p made) x ≡ Some (Some m) in
          let Q : ℕ → Type 0 = λ x. slice_get c.times x ≡ Some t in
          let found = slice_get-set_found b.transit p made (Some m) (subst P is at) in
          told_lock_granted_notices c p (lock_queue_at b.locks l).time t m (subst Q is time)
          (told_lock_due_is (lock_queue_at b.locks l).holder (transition_grant c p (lock_queue_at b.locks l).time) m found))
      | inr isnt ↦ processor_times_old_notices s h b p told lt records r m t isnt
          (sym (slice_get-set_other b.transit p r made isnt) ∙ at) time
    ]

-- nobody holds a lock that was just released
told_released_lock_free : (s : Sizes) (h : List Event) (p l : ℕ) → WellFormed s h → Holds h p l → (q : ℕ)
    → ¬ Holds (did h p (Release l)) q l
told_released_lock_free s h p l well held q after = elim (well_formed_stays_holds_cases h (event p (Release l)) q l after) [
  | inl old ↦ old.1 (ap (λ (r : ℕ). event r (Release l)) (holding_release_alone s h well p q l held old.0))
  | inr new ↦ absurd (cc (ap (λ e. e.kind) new))
]

-- p releases a lock that it holds: who stands in its line then, and its timestamp then
record IsToldLockReleased (s : Sizes) (h : List Event) (p l : ℕ) (xs u : List ℕ) : Type 0 where
  well : WellFormed s h
  may : WellFormedNext s h (event p (Release l))
  idle : AwaitsNothingNext h p
  held : Holds h p l
  line : IsBookLockLine (did h p (Release l)) l xs
  time : IsBookStamp s.processors (did h p (Release l))
      (InPastOfSome (did h p (Release l)) (BringsFromKind (did h p (Release l)) (Release l))) u

-- the others' mail when p releases the lock: news for the first of the queue alone
told_lock_released_mail : {s : Sizes} {h : List Event} {p l : ℕ} {xs u : List ℕ} → IsToldLockReleased s h p l xs u → (r : ℕ)
    (o : Option Letter)
    → r ≢ p → ¬ (slice_get xs 0 ≡ Some r) → IsBookMail s h r o → IsBookMail s (did h p (Release l)) r o
told_lock_released_mail {s} {h} {p} {l} {xs} now r o isnt behind mail = posted_mail_unless s h p (Release l) now.may r isnt o never mail
  where
    never : (a : Kind) → ComesByBookMail a → IsNewsForPostedMail (Release l) a → ¬ WellFormedAllows s (did h p (Release l)) r a
    never (Acquire m) posted news (i, last, transition_grant) =
        let same : m ≡ l = cc in
        behind (first_in_lock_line_allowed (did h p (Release l)) r l i xs
        (subst (λ x. LastIs (did h p (Release l)) r i (Ask x)) same last)
        (subst (λ x. WellFormedGrant (did h p (Release l)) i x) same transition_grant) now.line)
    never Depart posted news allowed = absurd cc
    never _ posted news allowed = absurd posted

-- everyone's mail after a release
told_lock_mail_released : (s : Sizes) (h : List Event) (c : BookState) (p l : ℕ) (xs u : List ℕ) → IsToldLockReleased s h p l xs u
    → EachStampedAt s.processors (IsBookMail s h) c.transit
    → EachStampedAt s.processors (IsBookMail s (did h p (Release l))) (transition_mail_passed c xs u)
told_lock_mail_released s h c p l [] u now all =
    each_own s.processors (IsBookMail s h) (IsBookMail s (did h p (Release l))) c.transit p all
    (λ r o isnt at is. told_lock_released_mail now r o isnt (none-some r) is)
    (λ o at is. own_posted_mail_idle s h p (Release l) o now.idle (λ m e. absurd cc) (λ e. absurd cc) is)
told_lock_mail_released s h c p l (q ∷ xs) u now all =
    each_set s.processors (IsBookMail s h) (IsBookMail s (did h p (Release l))) c.transit q (Some (transition_grant c q u))
    all others
    (record {
      kind = Acquire l;
      lets = tt;
      allowed =
          allowed_first_in_lock_line (did h p (Release l)) q l (q ∷ xs) (told_released_lock_free s h p l now.well now.held) refl
          now.line;
      time = now.time;
    })
  where
    others : (r : ℕ) (o : Option Letter) → r ≢ q → slice_get c.transit r ≡ Some o → IsBookMail s h r o
        → IsBookMail s (did h p (Release l)) r o
    others r o isnt at is = elim (cases_eq r p) [
      | inl own ↦ (let P : ℕ → Type 0 = λ x. IsBookMail s h x o → IsBookMail s (did h p (Release l)) x o in
          subst P (sym own) (own_posted_mail_idle s h p (Release l) o now.idle (λ m e. absurd cc) (λ e. absurd cc)) is)
      | inr apart ↦
          told_lock_released_mail now r o apart (λ e. isnt (sym (same_Some q r e))) is
    ]

-- the notices of messages that were there, and of the one that is posted
told_lock_passed_notices : (c : BookState) (xs u : List ℕ) (r : ℕ) (m : Letter) (t : List ℕ)
    → slice_get (transition_mail_passed c xs u) r ≡ Some (Some m) → slice_get c.times r ≡ Some t
    → (slice_get c.transit r ≡ Some (Some m) → m.notices ≡ kept_closings_between c.closed t m.time)
    → m.notices ≡ kept_closings_between c.closed t m.time
told_lock_passed_notices c [] u r m t at time old = old at
told_lock_passed_notices c (q ∷ xs) u r m t at time old = elim (cases_eq r q) [
  | inl is ↦ (
      let P : ℕ → Type 0 = λ x. slice_get (slice_set c.transit q (Some (transition_grant c q u))) x ≡ Some (Some m) in
      let Q : ℕ → Type 0 = λ x. slice_get c.times x ≡ Some t in
      let found = slice_get-set_found c.transit q (Some (transition_grant c q u)) (Some m) (subst P is at) in
      told_lock_granted_notices c q u t m (subst Q is time) (same_Some (transition_grant c q u) m found))
  | inr isnt ↦ old (sym (slice_get-set_other c.transit q r (Some (transition_grant c q u)) isnt) ∙ at)
]

-- p releases a lock that it holds
pub told_lock_release : {s : Sizes} {h : List Event} {b : BookState} {p : ℕ} → IsIdleProcessorTold s h b p → (l : ℕ) (records : List PageChanges)
    → l < s.locks → Holds h p l → AreIntervalContents s h p (event_count event_closes h p) records
    → Represents s (did h p (Release l)) (transition_released b p l records)
told_lock_release {s} {h} {b} {p} call l records range held stored =
    told_book_event_closing s h b p told lt (Release l) may (transition_released b p l records)
    (record {
      locks = each_set s.locks (HasBookLockLine s.processors h) (HasBookLockLine s.processors (did h p (Release l))) b.locks.locks l
          (lock_queue_released (lock_queue_at b.locks l) now) told.locks
          (λ m x isnt at is. told_lock_kept (record {
            ask = λ e. absurd cc;
            acquire = λ e. absurd cc;
            release = λ e. isnt (cc e);
            none = lock_line_idle_no_ask h p m free;
          }) is)
          (told_lock_passed s.processors (did h p (Release l)) l (lock_queue_at b.locks l).queue now line_now time);
      barrier = barrier_stage_kept s h p (Release l) b.barrier refl refl told.barrier;
      flags = flag_stamps_kept s h p (Release l) b.flags (λ f e. absurd cc) told.flags;
      transit = told_lock_mail_released s h (transition_closed_by b p (Release l) records) p l (lock_queue_at b.locks l).queue now
          (record { well = told.well_formed; may = may; idle = free; held = held; line = line_now; time = time })
          told.transit;
      notices = λ r m t at read. told_lock_passed_notices (transition_closed_by b p (Release l) records) (lock_queue_at b.locks l).queue
          now r m t at read
          (λ there. processor_times_old_notices s h b p told lt records r m t (processor_times_awaits_no_mail s h b p told idle r m there) there read);
    })
    refl refl records stored refl
  where
    told : Represents s h b
    told = call.told

    idle : slice_get b.awaits p ≡ Some None
    idle = call.idle

    lt : p < s.processors
    lt = processor_times_index_in_range s h b p None told idle

    free : AwaitsNothingNext h p
    free = processor_times_idle_awaits_none s h b p told idle

    may : WellFormedNext s h (event p (Release l))
    may = processor_times_awaits_follow s h b p told (Release l) idle range held

    -- p's timestamp then
    now : List ℕ
    now = tick (book_state_time_of b p) p

    lock : HasBookLockLine s.processors h l (lock_queue_at b.locks l)
    lock = each_is_at s.locks (HasBookLockLine s.processors h) b.locks.locks l (lock_queue_unheld b.locks.processors) told.locks range

    line_now : IsBookLockLine (did h p (Release l)) l (lock_queue_at b.locks l).queue
    line_now = told_lock_queue_after_release (lock_queue_at b.locks l) (lock_line_idle_no_ask h p l free) held lock

    time : IsBookStamp s.processors (did h p (Release l))
        (InPastOfSome (did h p (Release l)) (BringsFromKind (did h p (Release l)) (Release l))) now
    time = stamp_released s h p l now (processor_times_well_formed s h b p told (Release l) may)
        (stamp_closing s.processors h p (Release l) (book_state_time_of b p) lt refl refl (processor_time_stamp s h b p told lt))
