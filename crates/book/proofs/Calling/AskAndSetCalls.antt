-- What a set and an ask rest on, and what they make, read off the book.
use Rattle.std.proofs.Common.{◌≡◌, ℕ, ◌+◌, ◌<◌, ◌≤◌, List, [], length, Option, Some, None, IfSome, slice_get, slice_set, slice_index, slice_index_or, subst, sym, ap, ◌∙◌, arith}
use Rattle.std.proofs.lemmas.Option.{slice_get-get_or}
use Rattle.std.proofs.lemmas.List.{length-set, get_or-set_same, get_or-set_other}
use Rattle.journal.specs.declared.event.Event.{Event}
use Rattle.journal.specs.declared.event.Kind.{Kind}
use Rattle.journal.specs.declared.event.Kind.TheVariants.{Ask, Set}
use Rattle.base.specs.InOrderOnce.{Has}
use Rattle.page.specs.PageChanges.{PageChanges}
use Rattle.vtime.specs.TicksAndJoins.{tick}
use Rattle.interval.specs.SentIntervals.{SentRecord}
use Rattle.interval.specs.KeptClosings.{HasKeptClosingsBetween, kept_closings_pushed, kept_closings_between}
use Rattle.lockq.specs.LockQueues.{Locks, lock_queue_unheld, lock_queue_at, with_lock_queue, lock_queue_line, lock_queue_asked}
use Rattle.transit.specs.Letters.{Letter}
use Rattle.transit.specs.Letters.LetterKind.{grant}
use Rattle.book.specs.BookLockLines.{HasBookLockLine}
use Rattle.book.specs.BookFlags.{IsBookFlag}
use Rattle.book.specs.BookState.{BookState, book_state_time_of}
use Rattle.book.specs.Transitions.{transition_handed_in, transition_open_interval, transition_closed_by, transition_grant, transition_if_free, transition_flag_joined, transition_set, transition_asked}
use Rattle.book.specs.AllowedCalls.{AllowsClosingCall, AllowsAskCall}
use Rattle.book.proofs.Parts.Each.{each_is_at, each_set_back}
use Rattle.book.proofs.Parts.PostedMail.{idle_posted_mail}
use Rattle.book.proofs.Parts.LockLines.{lock_line_idle_no_ask, not_in_lock_line}
use Rattle.book.proofs.Parts.BookIntervals.{book_intervals_between_same}
use Rattle.interval.proofs.News.BetweenUnchanged.{between_unchanged_by_push}
use Rattle.book.proofs.Parts.ProcessorTimes.{processor_times_idle_awaits_none, processor_times_index_in_range, processor_time_stamp, processor_time_number, tick_grows_processor_time}
use Rattle.book.proofs.Calling.IdleCalls.{stands_for_idle_call, idle_call_default_same}

-- p's timestamp after its closing event
ask_call_own_time_ticked : (b : BookState) (p : ℕ) → p < length b.times
    → slice_index_or (slice_set b.times p (tick (book_state_time_of b p) p)) p [] ≡ tick (book_state_time_of b p) p
ask_call_own_time_ticked b p lt = get_or-set_same b.times p (tick (book_state_time_of b p) p) [] lt

-- p has a timestamp after its closing event
pub ask_call_still_timed : (old b : BookState) (p : ℕ) (k : Kind) (block : List Event) (records : List PageChanges)
    → AllowsClosingCall old p block → b ≡ transition_closed_by (transition_handed_in old block) p k records → p < length b.times
ask_call_still_timed old b p k block records may is =
    let same = ap (λ (x : BookState). length x.times) is ∙ length-set old.times p (tick (book_state_time_of old p) p) in
    let lt = (stands_for_idle_call old p block may).times in
    omega arith

-- a flag and p's timestamp, as they are read after a closing call
pub record IsSetCallRead (old : BookState) (p f : ℕ) (o : Option (List ℕ)) (t : List ℕ) : Type 0 where
  pub flag : o ≡ slice_index_or old.flags f None
  pub time : t ≡ tick (book_state_time_of old p) p
  pub long : IfSome o (λ u. length u ≡ length t)

set_call_flag_long : (n : ℕ) (h : List Event) (f : ℕ) (o : Option (List ℕ)) (t : List ℕ) → IsBookFlag n h f o → length t ≡ n
    → IfSome o (λ u. length u ≡ length t)
set_call_flag_long n h f None t is long = tt
set_call_flag_long n h f (Some u) t is long = is.1.long ∙ sym long

-- p's set of f: b is the book when the interval is closed, o and t the flag and p's timestamp in it
pub record IsSetCall (old b : BookState) (p f : ℕ) (block : List Event) (records : List PageChanges) (o : Option (List ℕ))
    (t : List ℕ) : Type 0 where
  pub may : AllowsClosingCall old p block
  pub range : f < length old.flags
  pub closed : b ≡ transition_closed_by (transition_handed_in old block) p (Set f) records
  pub flag : o ≡ slice_index_or b.flags f o
  pub time : t ≡ slice_index_or b.times p t

pub set_call_read : {old b : BookState} {p f : ℕ} {block : List Event} {records : List PageChanges} {o : Option (List ℕ)}
    {t : List ℕ} → IsSetCall old b p f block records o t → IsSetCallRead old p f o t
set_call_read {old} {b} {p} {f} {block} {records} {o} {t} setting =
    let may = setting.may in
    let range = setting.range in
    let is = setting.closed in
    let s = may.by.sizes in
    let h = may.by.history in
    let told = may.by.told in
    let st = stands_for_idle_call old p block may in
    let now : o ≡ slice_index_or old.flags f None =
    setting.flag ∙ ap (λ (x : BookState). slice_index_or x.flags f o) is ∙ idle_call_default_same old.flags f o None range in
    let lt : p < length (slice_set old.times p (tick (book_state_time_of old p) p)) = let e =
    length-set old.times p (tick (book_state_time_of old p) p) in let w = st.times in omega arith in
    let own : t ≡ tick (book_state_time_of old p) p =
    setting.time ∙ ap (λ (x : BookState). slice_index_or x.times p t) is
    ∙ idle_call_default_same (slice_set old.times p (tick (book_state_time_of old p) p)) p t [] lt ∙ ask_call_own_time_ticked old p st.times in
    let long = (processor_time_stamp s h old p told (processor_times_index_in_range s h old p None told may.hands_in.idle)).long in
    let flags_long = told.flags.long in
    record {
      flag = now;
      time = own;
      long = set_call_flag_long s.processors h f o t
          (subst (λ x. IsBookFlag s.processors h f x) (sym now)
          (each_is_at s.flags (IsBookFlag s.processors h) old.flags f None told.flags (omega arith)))
          (ap (λ (x : List ℕ). length x) own ∙ length-set (book_state_time_of old p) p (slice_index (book_state_time_of old p) p + 1)
          ∙ long);
    }

pub set_call_is : {old b : BookState} {p f : ℕ} {block : List Event} {records : List PageChanges} {o : Option (List ℕ)}
    {t : List ℕ} → IsSetCall old b p f block records o t → (r : List ℕ) → r ≡ transition_flag_joined o t
    → record b { flags = slice_set b.flags f (Some r) } ≡ transition_set (transition_handed_in old block) p f records
set_call_is {old} {b} {p} {f} {block} {records} {o} {t} setting r made =
    let is = setting.closed in
    let read = set_call_read setting in
    let flag = read.flag in
    let time = read.time in
    rw is (cc)

-- what an ask rests on
pub record IsAskCall (b : BookState) (p l : ℕ) : Type 0 where
  pub lock : l < length b.locks.locks
  pub keeps : HasKeptClosingsBetween b.closed (book_state_time_of b p) (lock_queue_at b.locks l).time
  pub processor : p < b.locks.processors
  pub apart : ¬ Has (lock_queue_line (lock_queue_at b.locks l)) p
  pub none : slice_get b.transit p ≡ Some None
  pub older : slice_index (lock_queue_at b.locks l).time p ≤ slice_index (book_state_time_of b p) p

pub ask_call_allowed : (b : BookState) (p l : ℕ) (block : List Event) → AllowsAskCall b p l block → IsAskCall b p l
ask_call_allowed b p l block may =
    let s = may.call.by.sizes in
    let h = may.call.by.history in
    let told = may.call.by.told in
    let lt = processor_times_index_in_range s h b p None told may.call.hands_in.idle in
    let idle = processor_times_idle_awaits_none s h b p told may.call.hands_in.idle in
    let lock : HasBookLockLine s.processors h l (lock_queue_at b.locks l) =
    each_is_at s.locks (HasBookLockLine s.processors h) b.locks.locks l (lock_queue_unheld b.locks.processors) told.locks may.range in
    let own = processor_time_stamp s h b p told lt in
    let own_long = own.long in
    let lock_long = lock.time.long in
    let first_long = told.closed.first_long in
    let locks_long = told.locks.long in
    let lockers = told.sizes.lockers in
    let number = processor_time_number s h b p told lt in
    let older = lock.time.is.within p in
    let times_long = told.times.long in
    let transit_long = told.transit.long in
    let read = slice_get-get_or b.transit p None (omega arith) in
    record {
      lock = omega arith;
      keeps = record {
        old_long = omega arith;
        new_long = omega arith;
        none_trimmed = λ q. told.within p q (book_state_time_of b p) (slice_get-get_or b.times p [] (omega arith));
      };
      processor = omega arith;
      apart = not_in_lock_line h p l (lock_queue_line (lock_queue_at b.locks l)) (lock_line_idle_no_ask h p l idle) may.free lock.line_is;
      none = read ∙ ap (λ (x : Option Letter). Some x)
          (sym (idle_posted_mail s h p (slice_index_or b.transit p None) idle
          (told.transit.each p (slice_index_or b.transit p None) read)));
      older = omega arith;
    }

-- the grant that is made before the interval is pushed is the one that would be made after
ask_call_grant_same : (b : BookState) (p l : ℕ) (block : List Event) (records : List PageChanges) → p < length b.times → IsAskCall b p l
    → transition_grant b p (lock_queue_at b.locks l).time
    ≡ transition_grant (transition_closed_by (transition_handed_in b block) p (Ask l) records) p (lock_queue_at b.locks l).time
ask_call_grant_same b p l block records lt is =
    let own = book_state_time_of b p in
    let t = (lock_queue_at b.locks l).time in
    let older = is.older in
    let more = tick_grows_processor_time own p p in
    let ticked : kept_closings_between b.closed own t ≡ kept_closings_between b.closed (tick own p) t =
    book_intervals_between_same b.closed own (tick own p) t p
    (λ q apart. sym (get_or-set_other own p q (slice_index own p + 1) 0 apart)) older (omega arith) in
    let news = between_unchanged_by_push b.closed (transition_open_interval b p records) (tick own p) t older in
    ap (λ (ns : List SentRecord). record { kind = grant; time = t; notices = ns })
    (ticked ∙ sym news
    ∙ ap (λ (now : List ℕ). kept_closings_between (kept_closings_pushed b.closed (transition_open_interval b p records)) now t)
    (sym (ask_call_own_time_ticked b p lt)))

-- p asks for the lock
module _ (old b : BookState) (p l : ℕ) (block : List Event) (records : List PageChanges) (may : AllowsAskCall old p l block)
    (is : b ≡ transition_closed_by (transition_handed_in old block) p (Ask l) records) (locks : Locks)
    (lock_queue_line : locks ≡ with_lock_queue b.locks l (lock_queue_asked (lock_queue_at b.locks l) p)) where
  ask_call_is : (transit : List (Option Letter)) → transit ≡ slice_set old.transit p
      (transition_if_free (lock_queue_at old.locks l).holder
      (transition_grant (transition_closed_by (transition_handed_in old block) p (Ask l) records) p (lock_queue_at old.locks l).time))
      → record b { locks = locks; transit = transit } ≡ transition_asked (transition_handed_in old block) p l records
  ask_call_is transit mail = rw is (let now = rw is at lock_queue_line in cc)

  -- the grant as it was made, written for p
  ask_call_mail : (o : Option Letter)
      → o ≡ transition_if_free (lock_queue_at old.locks l).holder (transition_grant old p (lock_queue_at old.locks l).time)
      → slice_set old.transit p o ≡ slice_set old.transit p
      (transition_if_free (lock_queue_at old.locks l).holder
      (transition_grant (transition_closed_by (transition_handed_in old block) p (Ask l) records) p (lock_queue_at old.locks l).time))
  ask_call_mail o made =
      ap (λ (x : Option Letter). slice_set old.transit p x)
      (made ∙ ap (λ (x : Letter). transition_if_free (lock_queue_at old.locks l).holder x)
      (ask_call_grant_same old p l block records (stands_for_idle_call old p block may.call).times (ask_call_allowed old p l block may)))

  -- an ask whose grant is posted
  pub ask_call_granted : (transit : List (Option Letter)) (m : Letter) → transit ≡ slice_set b.transit p (Some m)
      → Some m ≡ transition_if_free (lock_queue_at old.locks l).holder (transition_grant old p (lock_queue_at old.locks l).time)
      → record b { locks = locks; transit = transit } ≡ transition_asked (transition_handed_in old block) p l records
  ask_call_granted transit m post made =
      ask_call_is transit
      (post ∙ ap (λ (x : BookState). slice_set x.transit p (Some m)) is ∙ ask_call_mail (Some m) made)

  -- an ask that has to wait
  pub ask_call_waits : None ≡ transition_if_free (lock_queue_at old.locks l).holder (transition_grant old p (lock_queue_at old.locks l).time)
      → record b { locks = locks } ≡ transition_asked (transition_handed_in old block) p l records
  ask_call_waits made =
      ask_call_is b.transit
      (ap (λ (x : BookState). x.transit) is ∙ sym (each_set_back old.transit p None (ask_call_allowed old p l block may).none)
      ∙ ask_call_mail None made)
