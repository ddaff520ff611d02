-- The transitions of the book, as functions of its value.
-- Names: a value after something is a past participle after transition_; what a transition makes of one part has that
-- part's name before the participle (`transition_mail_passed`). A message is its kind and _to, of the closed intervals,
-- the message's time and the receiver's timestamp.
use Rattle.std.specs.Prelude.{ℕ, zero, suc, ◌≡◌, ◌-◌, ◌*◌, min, Bool, true, false, cond, Option, Some, None, List, [], ◌∷◌, ◌++◌, map, length, slice_get, slice_index, slice_index_or, slice_set, replicate, fold}
use Rattle.base.specs.Limits.{most_in_block}
use Rattle.journal.specs.declared.event.Event.{Event}
use Rattle.journal.specs.declared.event.Kind.{Kind}
use Rattle.journal.specs.declared.event.Kind.TheVariants.{Ask, Release, Arrive, Depart, Set, Watch}
use Rattle.journal.specs.Log.{Log, new_log}
use Rattle.journal.specs.Sizes.{Sizes, addresses}
use Rattle.journal.specs.AwaitedNext.{awaited_next}
use Rattle.page.specs.PageChanges.{PageChanges}
use Rattle.vtime.specs.TicksAndJoins.{tick, join}
use Rattle.interval.specs.SentIntervals.{ClosedInterval}
use Rattle.interval.specs.KeptClosings.{KeptClosings, kept_closings_pushed, kept_closings_trimmed_below, kept_closings_between}
use Rattle.lockq.specs.LockQueues.{lock_queue_unheld, lock_queue_at, with_lock_queue, lock_queue_asked, lock_queue_released}
use Rattle.barrier.specs.BarrierEpisodes.{BarrierEpisodes, unmet_barrier_episodes, barrier_episode_full, barrier_episode_with_one_more, barrier_episode_arrived, barrier_episode_departed}
use Rattle.transit.specs.Letters.{Letter, letter}
use Rattle.transit.specs.declared.message.Message.{Message}
use Rattle.transit.specs.Letters.LetterKind.{grant, departure}
use Rattle.journal.specs.DidEvent.{event}
use Rattle.book.specs.BookState.{BookState, book_state_time_of}
use Rattle.book.specs.Messages.{message_for}

-- no closed interval of n processors
abbrev pub transition_no_closings : ℕ → KeptClosings
transition_no_closings n = record { kept = []; first = replicate n 0; next = replicate n 0; pushed = 0 }

-- an empty book, with room for a block of last events of each processor
abbrev pub transition_new_book : Sizes → BookState
transition_new_book s = record {
  words = s.words;
  journal = record (new_log s.processors (addresses s)) { room = most_in_block * s.processors };
  closed = transition_no_closings s.processors;
  times = replicate s.processors (replicate s.processors 0);
  locks = record { processors = s.processors; locks = replicate s.locks (lock_queue_unheld s.processors) };
  barrier = unmet_barrier_episodes s.processors;
  flags = replicate s.flags None;
  awaits = replicate s.processors None;
  transit = replicate s.processors None;
}

-- the journal goes on with these events
abbrev pub transition_appended : Log → List Event → Log
transition_appended log es = record log { events = log.events ++ es }

-- a block is handed in
abbrev pub transition_handed_in : BookState → List Event → BookState
transition_handed_in b block = record b { journal = transition_appended b.journal block }

-- the last block of a processor is handed in, for which room was kept
abbrev pub transition_handed_last : BookState → List Event → BookState
transition_handed_last b block =
    record b {
      journal =
          record b.journal { events = b.journal.events ++ block; room = b.journal.room - length block };
    }

-- p does this
abbrev pub transition_logged : BookState → ℕ → Kind → BookState
transition_logged b p k = record b { journal = transition_appended b.journal (event p k ∷ []); awaits = slice_set b.awaits p (awaited_next k) }

-- p's open interval, with what it stored
abbrev pub transition_open_interval : BookState → ℕ → List PageChanges → ClosedInterval
transition_open_interval b p records = record { owner = p; number = slice_index (book_state_time_of b p) p; records = records }

-- p does this and closes its interval
abbrev pub transition_closed_by : BookState → ℕ → Kind → List PageChanges → BookState
transition_closed_by b p k records = record (transition_logged b p k) {
  closed = kept_closings_pushed b.closed (transition_open_interval b p records);
  times = slice_set b.times p (tick (book_state_time_of b p) p);
}

-- a grant, at this time, to a processor with that timestamp
abbrev pub transition_grant_to : KeptClosings → List ℕ → List ℕ → Letter
transition_grant_to c t own = record { kind = grant; time = t; notices = kept_closings_between c own t }

-- the book's grant to p of a lock that was released at this time
abbrev pub transition_grant : BookState → ℕ → List ℕ → Letter
transition_grant b p t = transition_grant_to b.closed t (book_state_time_of b p)

-- the message, if nobody holds the lock
abbrev pub transition_if_free : Option ℕ → Letter → Option Letter
transition_if_free None m = Some m
transition_if_free (Some q) m = None

-- p asks for a lock
abbrev pub transition_asked : BookState → ℕ → ℕ → List PageChanges → BookState
transition_asked b p l records = record (transition_closed_by b p (Ask l) records) {
  locks = with_lock_queue b.locks l (lock_queue_asked (lock_queue_at b.locks l) p);
  transit = slice_set b.transit p
      (transition_if_free (lock_queue_at b.locks l).holder (transition_grant (transition_closed_by b p (Ask l) records) p (lock_queue_at b.locks l).time));
}

-- a message and who is to have it
abbrev pub transition_addressed : ℕ × Message → ℕ × Letter
transition_addressed x = (x.0, letter x.1)

-- who holds a lock next that is released at this time, and its grant
abbrev pub transition_addressed_grant : KeptClosings → List (List ℕ) → List ℕ → ℕ → ℕ × Letter
transition_addressed_grant c times t r = (r, transition_grant_to c t (slice_index_or times r []))

-- the first of the queue is granted the lock
abbrev pub transition_mail_passed : BookState → List ℕ → List ℕ → List (Option Letter)
transition_mail_passed b [] t = b.transit
transition_mail_passed b (r ∷ queue) t = slice_set b.transit r (Some (transition_grant b r t))

-- p releases a lock
abbrev pub transition_released : BookState → ℕ → ℕ → List PageChanges → BookState
transition_released b p l records = record (transition_closed_by b p (Release l) records) {
  locks = with_lock_queue b.locks l (lock_queue_released (lock_queue_at b.locks l) (tick (book_state_time_of b p) p));
  transit = transition_mail_passed (transition_closed_by b p (Release l) records) (lock_queue_at b.locks l).queue (tick (book_state_time_of b p) p);
}

-- a departure, at this time, to a processor with that timestamp
abbrev pub transition_departure_to : KeptClosings → List ℕ → List ℕ → Letter
transition_departure_to c t own = record { kind = departure; time = t; notices = kept_closings_between c own t }

-- the departures that p's arrival at this time brings to those with these timestamps
abbrev pub transition_departures_to : KeptClosings → BarrierEpisodes → List (List ℕ) → ℕ → List ℕ → Option (List Letter)
transition_departures_to c b times p t = cond (barrier_episode_full (barrier_episode_with_one_more b p t)) (Some (map (transition_departure_to c (join b.gathered t)) times)) None

-- a complete episode lets all depart
abbrev pub transition_mail_met : Bool → BookState → List ℕ → List (Option Letter)
transition_mail_met false b t = b.transit
transition_mail_met true b t = map (λ (own : List ℕ). Some (transition_departure_to b.closed t own)) b.times

-- p arrives at the barrier
abbrev pub transition_arrived : BookState → ℕ → List PageChanges → BookState
transition_arrived b p records = record (transition_closed_by b p Arrive records) {
  barrier = barrier_episode_arrived b.barrier p (tick (book_state_time_of b p) p);
  transit = transition_mail_met (barrier_episode_full (barrier_episode_with_one_more b.barrier p (tick (book_state_time_of b p) p))) (transition_closed_by b p Arrive records)
      (join b.barrier.gathered (tick (book_state_time_of b p) p));
}

-- the time of a flag after one more set
abbrev pub transition_flag_joined : Option (List ℕ) → List ℕ → List ℕ
transition_flag_joined None t = t
transition_flag_joined (Some u) t = join u t

-- p sets a flag
abbrev pub transition_set : BookState → ℕ → ℕ → List PageChanges → BookState
transition_set b p f records = record (transition_closed_by b p (Set f) records) {
  flags = slice_set b.flags f (Some (transition_flag_joined (slice_index_or b.flags f None) (tick (book_state_time_of b p) p)));
}

-- p watches a flag
abbrev pub transition_watched : BookState → ℕ → ℕ → List PageChanges → BookState
transition_watched b p f records = transition_closed_by b p (Watch f) records

-- the book after p does this, which closes its interval, with the records of that
abbrev pub transition_closed : Kind → BookState → ℕ → List PageChanges → BookState
transition_closed (Ask l) b p records = transition_asked b p l records
transition_closed (Release l) b p records = transition_released b p l records
transition_closed Arrive b p records = transition_arrived b p records
transition_closed (Set f) b p records = transition_set b p f records
transition_closed (Watch f) b p records = transition_watched b p f records
transition_closed _ b p records = b

-- p does this, which takes this time over
abbrev pub transition_joined : BookState → ℕ → Kind → List ℕ → BookState
transition_joined b p k t = record (transition_logged b p k) { times = slice_set b.times p (join (book_state_time_of b p) t) }

-- the barrier after p takes a grant or a departure
abbrev pub transition_barrier_left : Kind → BarrierEpisodes → ℕ → BarrierEpisodes
transition_barrier_left Depart b p = barrier_episode_departed b p
transition_barrier_left _ b p = b

-- the lesser of a number and an entry for q
abbrev pub transition_lesser : ℕ → ℕ → List ℕ → ℕ
transition_lesser q n t = min n (slice_index t q)

-- the least entry for q
abbrev pub transition_least : List (List ℕ) → ℕ → ℕ
transition_least times q = fold (transition_lesser q) (slice_index (slice_index_or times 0 []) q) times

-- the first n owners' intervals are trimmed that all of these times cover
abbrev pub transition_trimmed_by : KeptClosings → List (List ℕ) → ℕ → KeptClosings
transition_trimmed_by c times zero = c
transition_trimmed_by c times (suc n) = kept_closings_trimmed_below (transition_trimmed_by c times n) n (transition_least times n)

-- the book with the intervals trimmed that everyone's timestamp covers
abbrev pub transition_trimmed : BookState → BookState
transition_trimmed b = record b { closed = transition_trimmed_by b.closed b.times (length b.times) }

-- p takes this message, for which it waited
abbrev pub transition_received : BookState → ℕ → Kind → Letter → BookState
transition_received b p k m =
    record (transition_joined b p k m.time) { transit = slice_set b.transit p None; barrier = transition_barrier_left k b.barrier p }

-- and what everyone has performed then is trimmed
abbrev pub transition_taken : BookState → ℕ → Kind → Letter → BookState
transition_taken b p k m = transition_trimmed (transition_received b p k m)

-- p takes this message, which has come for what it waits for
pub record TransitionTakes (old : BookState) (p : ℕ) (m : Letter) (new : BookState) : Type 0 where
  pub kind : Kind
  pub awaits : slice_get old.awaits p ≡ Some (Some kind)
  pub message : message_for old p kind ≡ Some m
  pub after : new ≡ transition_taken old p kind m
