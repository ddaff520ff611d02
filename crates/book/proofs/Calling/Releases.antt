-- What a release rests on, and what it makes, read off the book.
use Rattle.std.proofs.Common.{◌≡◌, ◌≢◌, ℕ, ◌<◌, inl, inr, List, [], ◌∷◌, length, Option, Some, None, IfSome, MatchOption, slice_get, slice_set, slice_index_or, subst, sym, refl, ap, ◌∙◌, arith}
use Rattle.std.proofs.lemmas.Option.{slice_get-get_or, same_Some, none-some}
use Rattle.std.proofs.lemmas.List.{get_or-set_other}
use Rattle.std.specs.Option.{option_map}
use Rattle.journal.specs.declared.event.Event.{Event}
use Rattle.journal.specs.declared.event.Kind.{Kind}
use Rattle.journal.specs.declared.event.Kind.TheVariants.{Ask, Acquire, Release, Arrive, Depart}
use Rattle.journal.specs.Sizes.{Sizes}
use Rattle.journal.specs.WellFormed.{LastIs, Holds, WellFormedAllows}
use Rattle.journal.proofs.Journals.WellFormedStays.{well_formed_stays_last_unique}
use Rattle.page.specs.PageChanges.{PageChanges}
use Rattle.vtime.specs.TicksAndJoins.{tick}
use Rattle.interval.specs.SentIntervals.{ClosedInterval}
use Rattle.interval.specs.KeptClosings.{KeptClosings, kept_closings_pushed}
use Rattle.lockq.specs.LockQueues.{Locks, lock_queue_unheld, lock_queue_at, with_lock_queue, lock_queue_line, lock_queue_released}
use Rattle.transit.specs.Letters.{Letter, letter}
use Rattle.transit.specs.declared.message.Message.{Message}
use Rattle.book.specs.BookLockLines.{HasBookLockLine}
use Rattle.book.specs.BookMail.{ComesByBookMail, IsBookMail}
use Rattle.book.specs.BookState.{BookState, book_state_time_of}
use Rattle.book.specs.Transitions.{transition_addressed, transition_addressed_grant, transition_grant_to, transition_handed_in, transition_open_interval, transition_closed_by, transition_mail_passed, transition_released}
use Rattle.book.specs.AllowedCalls.{AllowsReleaseCall, AllowsNoticesOfCall}
use Rattle.book.specs.RepresentedHistory.{Represents}
use Rattle.book.proofs.Parts.Each.{each_is_at}
use Rattle.book.proofs.Parts.PostedMail.{no_posted_mail}
use Rattle.book.proofs.Parts.LockLines.{lock_line_idle_no_ask}
use Rattle.book.proofs.Told.Locks.{told_lock_holder_first}
use Rattle.book.proofs.Parts.ProcessorTimes.{processor_times_idle_awaits_none, processor_times_index_in_range, processor_time_stamp}

-- everyone with a timestamp may be sent what it lacks
pub release_may_be_sent : (s : Sizes) (h : List Event) (b : BookState) (r : ℕ) → Represents s h b → r < s.processors
    → AllowsNoticesOfCall b.closed b.times r
release_may_be_sent s h b r told lt =
    let times_long = told.times.long in
    let own_long = (processor_time_stamp s h b r told lt).long in
    let first_long = told.closed.first_long in
    record {
      within = omega arith;
      long = omega arith;
      kept = λ q. told.within r q (book_state_time_of b r) (slice_get-get_or b.times r [] (omega arith));
    }

-- who asks for a lock that somebody holds has no message
release_held_mail : {h : List Event} {p r i l : ℕ} → (s : Sizes) (o : Option Letter) → Holds h p l → LastIs h r i (Ask l)
    → IsBookMail s h r o → None ≡ o
release_held_mail {h} {p} {r} {i} {l} s o held asks mail = no_posted_mail s h r o never mail
  where
    never : (a : Kind) → ComesByBookMail a → ¬ WellFormedAllows s h r a
    never (Acquire m) posted (k, last, may) =
        let is : Ask m ≡ Ask l = (well_formed_stays_last_unique h r k i (Ask m) (Ask l) last asks).1 in
        may.free p (subst (λ x. Holds h p x) (sym (lock_is m is)) held)
      where
        lock_is : (m : ℕ) → Ask m ≡ Ask l → m ≡ l
        lock_is m e = cc
    never Depart posted allowed = absurd (cc ((well_formed_stays_last_unique h r allowed.0 i Arrive (Ask l) allowed.1 asks).1))
    never _ posted allowed = absurd posted

-- who gets the lock next
pub record IsNextAfterRelease (b : BookState) (p r : ℕ) : Type 0 where
  pub apart : r ≢ p
  pub sent : AllowsNoticesOfCall b.closed b.times r
  pub none : slice_get b.transit r ≡ Some None

-- what a release rests on
pub record IsReleasing (b : BookState) (p l : ℕ) : Type 0 where
  pub lock : l < length b.locks.locks
  pub holder : (lock_queue_at b.locks l).holder ≡ Some p
  pub own_long : length (book_state_time_of b p) ≡ length b.closed.first
  pub lock_long : length (book_state_time_of b p) ≡ b.locks.processors
  pub next : (r : ℕ) → slice_get (lock_queue_at b.locks l).queue 0 ≡ Some r → IsNextAfterRelease b p r

releasing_by : (s : Sizes) (h : List Event) (b : BookState) (p l : ℕ) → Represents s h b → slice_get b.awaits p ≡ Some None
    → l < s.locks → Holds h p l → IsReleasing b p l
releasing_by s h b p l told idle range held =
    let lt = processor_times_index_in_range s h b p None told idle in
    let own_long = (processor_time_stamp s h b p told lt).long in
    let first_long = told.closed.first_long in
    let locks_long = told.locks.long in
    let lockers = told.sizes.lockers in
    record {
      lock = omega arith;
      holder = first;
      own_long = omega arith;
      lock_long = omega arith;
      next = next;
    }
  where
    lock : HasBookLockLine s.processors h l (lock_queue_at b.locks l)
    lock = each_is_at s.locks (HasBookLockLine s.processors h) b.locks.locks l (lock_queue_unheld b.locks.processors) told.locks range

    first : (lock_queue_at b.locks l).holder ≡ Some p
    first = told_lock_holder_first s.processors h p l (lock_queue_at b.locks l).holder (lock_queue_at b.locks l).queue
        (lock_queue_at b.locks l).time held lock

    asks : (r : ℕ) → slice_get (lock_queue_at b.locks l).queue 0 ≡ Some r → (i : ℕ) × LastIs h r i (Ask l)
    asks r at = elim (lock.line_is.asks 1 r
        (subst (λ (o : Option ℕ). slice_get
        (lock_queue_line (record { holder = o; queue = (lock_queue_at b.locks l).queue; time = (lock_queue_at b.locks l).time })) 1
        ≡ Some r) (sym first) at)) [
          | inl ask ↦ ask
          | inr zeroth ↦ absurd (cc (zeroth.0))
        ]

    next : (r : ℕ) → slice_get (lock_queue_at b.locks l).queue 0 ≡ Some r → IsNextAfterRelease b p r
    next r at =
        let ask = asks r at in
        let lt = (told.well_formed ask.0 (record { processor = r; kind = Ask l }) ask.1.does).processor in
        let transit_long = told.transit.long in
        let read = slice_get-get_or b.transit r None (omega arith) in
        record {
          apart = λ e. lock_line_idle_no_ask h p l (processor_times_idle_awaits_none s h b p told idle) ask.0
              (subst (λ (x : ℕ). LastIs h x ask.0 (Ask l)) e ask.1);
          sent = release_may_be_sent s h b r told lt;
          none = read ∙ ap (λ (x : Option Letter). Some x)
              (sym (release_held_mail s (slice_index_or b.transit r None) held ask.1
              (told.transit.each r (slice_index_or b.transit r None) read)));
        }

pub releasing : (b : BookState) (p l : ℕ) (block : List Event) → AllowsReleaseCall b p l block → IsReleasing b p l
releasing b p l block may =
    let by = may.call.by in
    releasing_by by.sizes by.history b p l by.told may.call.hands_in.idle may.range may.held

pub releases : (b now : BookState) (p l : ℕ) (block : List Event) → b ≡ now → AllowsReleaseCall now p l block → IsReleasing b p l
releases b now p l block same may = subst (λ x. IsReleasing x p l) (sym same) (releasing now p l block may)

-- the next one's grant is posted
pub released_passes_some : (c : BookState) (queue t : List ℕ) (times : List (List ℕ)) (r : ℕ) (m : Letter)
    → ((q : ℕ) → slice_get queue 0 ≡ Some q → slice_index_or times q [] ≡ book_state_time_of c q)
    → Some (r, m) ≡ option_map (transition_addressed_grant c.closed times t) (slice_get queue 0)
    → slice_set c.transit r (Some m) ≡ transition_mail_passed c queue t
released_passes_some c [] t times r m same made = absurd (none-some (r, m) (sym made))
released_passes_some c (q ∷ queue) t times r m same made =
    let is = same_Some (r, m) (transition_addressed_grant c.closed times t q) made in
    ap (λ (x : ℕ × Letter). slice_set c.transit x.0 (Some x.1)) is
    ∙ ap (λ (own : List ℕ). slice_set c.transit q (Some (transition_grant_to c.closed t own))) (same q refl)

-- and where nobody is next there is no mail
released_passes_none : (c : BookState) (queue t : List ℕ) (times : List (List ℕ))
    → None ≡ option_map (transition_addressed_grant c.closed times t) (slice_get queue 0) → c.transit ≡ transition_mail_passed c queue t
released_passes_none c [] t times made = refl
released_passes_none c (q ∷ queue) t times made = absurd (none-some (transition_addressed_grant c.closed times t q) made)

-- after p's closing event the others' timestamps are as before
release_others_time : (b : BookState) (p r : ℕ) (u : List ℕ) → r ≢ p
    → slice_index_or b.times r [] ≡ slice_index_or (slice_set b.times p u) r []
release_others_time b p r u apart = sym (get_or-set_other b.times p r u [] apart)

-- p's release of l: b is the book when the interval is closed, t the timestamp that stays with the lock
pub record IsReleaseLeaving (old b : BookState) (p l : ℕ) (block : List Event) (records : List PageChanges) (t : List ℕ) : Type 0 where
  pub may : AllowsReleaseCall old p l block
  pub closed : b ≡ transition_closed_by (transition_handed_in old block) p (Release l) records
  pub time : t ≡ tick (book_state_time_of old p) p

-- the grant of who is next, as it is made before the interval is closed
abbrev pub grant_before_release : BookState → ℕ → ℕ → List PageChanges → List ℕ → Option (ℕ × Letter)
grant_before_release old p l records t =
    option_map (transition_addressed_grant (kept_closings_pushed old.closed (transition_open_interval old p records)) old.times t)
    (slice_get (lock_queue_at old.locks l).queue 0)

-- a grant is for the first of the queue
released_to_whom : (c : KeptClosings) (times : List (List ℕ)) (t queue : List ℕ) (r : ℕ) (m : Letter)
    → Some (r, m) ≡ option_map (transition_addressed_grant c times t) (slice_get queue 0) → slice_get queue 0 ≡ Some r
released_to_whom c times t [] r m made = absurd (none-some (r, m) (sym made))
released_to_whom c times t (q ∷ queue) r m made =
    ap (λ (x : ℕ × Letter). Some x.0) (sym (same_Some (r, m) (transition_addressed_grant c times t q) made))

-- a grant g, made of what a release reads before its interval is closed: the interval, who is next, the timestamps
pub record IsReleaseGrantRead (b : BookState) (p l : ℕ) (records : List PageChanges) (t : List ℕ) (g : Option (ℕ × Letter))
    : Type 0 where
  pub interval : ClosedInterval
  pub times : List (List ℕ)
  pub next : Option ℕ
  pub opened : interval ≡ transition_open_interval b p records
  pub all : times ≡ b.times
  pub first : next ≡ slice_get (lock_queue_at b.locks l).queue 0
  pub made : g ≡ option_map (transition_addressed_grant (kept_closings_pushed b.closed interval) times t) next

-- the grant as it was made, read off the book before the call
pub release_grant_read : {b old : BookState} {p l : ℕ} {records : List PageChanges} {t : List ℕ} {g : Option (ℕ × Letter)}
    → IsReleaseGrantRead b p l records t g → b ≡ old → g ≡ grant_before_release old p l records t
release_grant_read {b} {old} {p} {l} {records} {t} {g} read same =
    let opened = read.opened in
    let all = read.all in
    let first = read.first in
    let made = read.made in
    cc

-- p releases the lock at this time
module _ {old b : BookState} {p l : ℕ} {block : List Event} {records : List PageChanges} {t : List ℕ}
    (leaving : IsReleaseLeaving old b p l block records t) where
  released_is : (locks : Locks) (transit : List (Option Letter))
      → locks ≡ with_lock_queue b.locks l (lock_queue_released (lock_queue_at b.locks l) t)
      → transit ≡ transition_mail_passed b (lock_queue_at b.locks l).queue t
      → record b { locks = locks; transit = transit } ≡ transition_released (transition_handed_in old block) p l records
  released_is locks transit lock_queue_line mail =
      let is = leaving.closed in
      let time = leaving.time in
      rw is (let now = rw is at lock_queue_line in let post = rw is at mail in cc)

  -- what stands of the grant when the interval is closed
  released_grant_made : (o : Option (ℕ × Letter)) → o ≡ grant_before_release old p l records t
      → (o ≡ option_map (transition_addressed_grant b.closed old.times t) (slice_get (lock_queue_at b.locks l).queue 0))
      × ((q : ℕ) → slice_get (lock_queue_at b.locks l).queue 0 ≡ Some q → slice_index_or old.times q [] ≡ book_state_time_of b q)
  released_grant_made o made =
      subst (λ (x : BookState).
      (o ≡ option_map (transition_addressed_grant x.closed old.times t) (slice_get (lock_queue_at x.locks l).queue 0))
      × ((q : ℕ) → slice_get (lock_queue_at x.locks l).queue 0 ≡ Some q → slice_index_or old.times q [] ≡ book_state_time_of x q))
      (sym leaving.closed) (
        made,
        λ q at. release_others_time old p q (tick (book_state_time_of old p) p)
            ((releasing old p l block leaving.may).next q at).apart,
      )

  -- a release whose grant is posted, if there is one
  pub released_posted : (locks : Locks) (transit : List (Option Letter)) (grant : Option (ℕ × Message))
      → locks ≡ with_lock_queue b.locks l (lock_queue_released (lock_queue_at b.locks l) t)
      → MatchOption grant (transit ≡ b.transit) (λ g. transit ≡ slice_set b.transit g.0 (Some (letter g.1)))
      → option_map transition_addressed grant ≡ grant_before_release old p l records t
      → record b { locks = locks; transit = transit } ≡ transition_released (transition_handed_in old block) p l records
  released_posted locks transit None lock_queue_line post made =
      let grant = released_grant_made None made in
      released_is locks transit lock_queue_line
      (post ∙ released_passes_none b (lock_queue_at b.locks l).queue t old.times grant.0)
  released_posted locks transit (Some (r, m)) lock_queue_line post made =
      let grant = released_grant_made (Some (r, letter m)) made in
      released_is locks transit lock_queue_line
      (post ∙ released_passes_some b (lock_queue_at b.locks l).queue t old.times r (letter m) grant.1 grant.0)

  -- who is granted the lock has no message
  pub released_finds_no_mail : (grant : Option (ℕ × Message)) → option_map transition_addressed grant ≡ grant_before_release old p l records t
      → IfSome grant (λ g. slice_get b.transit g.0 ≡ Some None)
  released_finds_no_mail None made = tt
  released_finds_no_mail (Some (r, m)) made =
      ap (λ (x : BookState). slice_get x.transit r) leaving.closed
      ∙ ((releasing old p l block leaving.may).next r
      (released_to_whom (kept_closings_pushed old.closed (transition_open_interval old p records)) old.times t
      (lock_queue_at old.locks l).queue r (letter m) made)).none

pub releasing_sends_next : (b : BookState) (p l : ℕ) (o : Option ℕ) → IsReleasing b p l → o ≡ slice_get (lock_queue_at b.locks l).queue 0
    → IfSome o (λ r. AllowsNoticesOfCall b.closed b.times r)
releasing_sends_next b p l None rel is = tt
releasing_sends_next b p l (Some r) rel is = (rel.next r (sym is)).sent
