-- What an arrival rests on, and what it makes, read off the book.
use Rattle.std.proofs.Common.{suc, ◌++◌, take, ◌≡◌, ◌≢◌, ℕ, ◌+◌, ◌<◌, inl, inr, List, [], ◌∷◌, length, map, Bool, true, false, cond, Option, Some, None, replicate, slice_get, slice_set, slice_index, slice_index_or, subst, sym, refl, ap, ◌∙◌, arith}
use Rattle.std.proofs.lemmas.Bool.{cases_eq}
use Rattle.std.proofs.lemmas.Option.{slice_get-get_or, same_Some, none-some}
use Rattle.std.proofs.lemmas.List.{length-set, length-map, map-append, get_or-set_same, get_or-set_other}
use Rattle.base.proofs.SlicesAndCounts.{slice_take-suc_at}
use Rattle.book.proofs.Calling.IdleCalls.{idle_call_default_same}
use Rattle.base.proofs.SliceSets.{slice_get-set_found, slice_get-set_other}
use Rattle.journal.specs.declared.event.Event.{Event}
use Rattle.journal.specs.declared.event.Kind.{Kind}
use Rattle.journal.specs.declared.event.Kind.TheVariants.{Ask, Acquire, Arrive, Depart}
use Rattle.journal.specs.Sizes.{Sizes}
use Rattle.journal.specs.Events.{event_count, event_arrives, event_departs}
use Rattle.journal.specs.WellFormed.{LastIs, WellFormedAllows}
use Rattle.journal.specs.AwaitedNext.{AwaitsNothingNext}
use Rattle.journal.proofs.Journals.WellFormedStays.{well_formed_stays_last_unique}
use Rattle.page.specs.PageChanges.{PageChanges}
use Rattle.vtime.specs.TicksAndJoins.{tick, join}
use Rattle.interval.specs.SentIntervals.{ClosedInterval}
use Rattle.interval.specs.KeptClosings.{KeptClosings, kept_closings_pushed}
use Rattle.barrier.specs.BarrierEpisodes.{BarrierEpisodes, barrier_episode_full, barrier_episode_with_one_more, barrier_episode_arrived}
use Rattle.barrier.specs.declared.barrier.Stage.TheVariants.{Away, Here}
use Rattle.transit.specs.Letters.{Letter}
use Rattle.journal.specs.DidEvent.{did}
use Rattle.book.specs.BookStamps.{EachStampedAt}
use Rattle.book.specs.BookMail.{ComesByBookMail}
use Rattle.book.specs.BookBarrier.{IsAtBookBarrierStage}
use Rattle.book.specs.BookState.{BookState, book_state_time_of}
use Rattle.book.specs.Transitions.{transition_handed_in, transition_open_interval, transition_closed_by, transition_departure_to, transition_departures_to, transition_mail_met, transition_arrived}
use Rattle.book.specs.AllowedCalls.{AllowsClosingCall, AllowsNoticesOfCall}
use Rattle.book.specs.RepresentedHistory.{Represents}
use Rattle.book.proofs.Parts.Each.{each_item_at, each_is_at}
use Rattle.book.proofs.Parts.LastEvents.{last_event_count_others}
use Rattle.book.proofs.Parts.PostedMail.{idle_allowed_no_posted_mail, no_posted_mail}
use Rattle.book.proofs.Calling.Posting.{posting_all_same}
use Rattle.book.proofs.Parts.BarrierStages.{barrier_stage_away, barrier_stage_idle_counts, waits_at_barrier_stage, arrived_barrier_stages_here, arrived_barrier_stages}
use Rattle.book.proofs.Parts.ProcessorTimes.{IsIdleProcessorTold, processor_times_idle_awaits_none, processor_times_index_in_range, processor_time_stamp, processor_times_within_closing}

-- when the last one arrives the others wait, and nobody may go on
barrier_arrival_lets_nobody : {s : Sizes} {h : List Event} {b : BookState} {p : ℕ} → IsIdleProcessorTold s h b p → (q : ℕ) (t : List ℕ)
    → barrier_episode_full (barrier_episode_with_one_more b.barrier p t) ≡ true → q < s.processors → (a : Kind)
    → ComesByBookMail a → ¬ WellFormedAllows s h q a
barrier_arrival_lets_nobody {s} {h} {b} {p} call q t full less a posted allowed = elim (cases_eq q p) [
  | inl is ↦ (let P : ℕ → Type 0 = λ x. WellFormedAllows s h x a in idle_allowed_no_posted_mail s h p a free posted (subst P is allowed))
  | inr apart ↦ others apart a posted allowed
]
  where
    told : Represents s h b
    told = call.told

    free : AwaitsNothingNext h p
    free = processor_times_idle_awaits_none s h b p told call.idle

    lt : p < s.processors
    lt = processor_times_index_in_range s h b p None told call.idle

    all : (event_count event_arrives h p ≡ told.barrier.complete)
        × EachStampedAt s.processors (IsAtBookBarrierStage (did h p Arrive) told.barrier.complete) (slice_set b.barrier.stages p Here)
    all = arrived_barrier_stages s h p b.barrier told.well_formed free lt told.barrier

    here : IsAtBookBarrierStage (did h p Arrive) told.barrier.complete q Here
    here = arrived_barrier_stages_here s h p b.barrier told.well_formed free lt told.barrier full q less

    waits : q ≢ p → (i : ℕ) × LastIs h q i Arrive
    waits apart =
        let a = last_event_count_others event_arrives h p Arrive q apart in
        let d = last_event_count_others event_departs h p Arrive q apart in
        let x = here.0 in
        let y = here.1 in
        waits_at_barrier_stage s h q told.well_formed (omega arith)

    others : q ≢ p → (k : Kind) → ComesByBookMail k → ¬ WellFormedAllows s h q k
    others apart (Acquire l) is_posted may = let w =
        waits apart in absurd (cc ((well_formed_stays_last_unique h q may.0 w.0 (Ask l) Arrive may.1 w.1).1))
    others apart Depart is_posted may =
        let one = may.2 p lt in
        let d = last_event_count_others event_departs h p Arrive q apart in
        let x = all.0 in
        let y = here.1 in
        absurd (omega arith)
    others apart _ is_posted may = absurd is_posted

-- what an arrival rests on
pub record IsBarrierArrival (b : BookState) (p : ℕ) : Type 0 where
  pub away : slice_get b.barrier.stages p ≡ Some Away
  pub stages : length b.barrier.stages ≡ length b.closed.first
  pub own_long : length (book_state_time_of b p) ≡ length b.closed.first
  pub sent : (r : ℕ) → r < length b.times → AllowsNoticesOfCall b.closed (slice_set b.times p (tick (book_state_time_of b p) p)) r
  pub none : barrier_episode_full (barrier_episode_with_one_more b.barrier p (tick (book_state_time_of b p) p)) ≡ true → b.transit ≡ replicate (length b.times) None

barrier_arrival_by_history : (s : Sizes) (h : List Event) (b : BookState) (p : ℕ) → Represents s h b → slice_get b.awaits p ≡ Some None
    → IsBarrierArrival b p
barrier_arrival_by_history s h b p told idle =
    let own = (processor_time_stamp s h b p told lt).long in
    let first = told.closed.first_long in
    let stages = told.barrier.stages.long in
    record {
      away = each_item_at s.processors (IsAtBookBarrierStage h told.barrier.complete) b.barrier.stages p Away told.barrier.stages lt
          ∙ ap (λ st. Some st) (sym away);
      stages = omega arith;
      own_long = omega arith;
      sent = sent;
      none = none;
    }
  where
    lt : p < s.processors
    lt = processor_times_index_in_range s h b p None told idle

    away : Away ≡ slice_index_or b.barrier.stages p Away
    away = barrier_stage_away h told.barrier.complete p (slice_index_or b.barrier.stages p Away)
        (barrier_stage_idle_counts s h p told.well_formed (processor_times_idle_awaits_none s h b p told idle))
        (each_is_at s.processors (IsAtBookBarrierStage h told.barrier.complete) b.barrier.stages p Away told.barrier.stages lt)

    after : List (List ℕ)
    after = slice_set b.times p (tick (book_state_time_of b p) p)

    long : (r : ℕ) (t : List ℕ) → r < length after → slice_get after r ≡ Some t → length t ≡ length b.closed.first
    long r t less at = elim (cases_eq r p) [
      | inl is ↦ mine is
      | inr apart ↦ (
          let old = told.times.each r t (sym (slice_get-set_other b.times p r (tick (book_state_time_of b p) p) apart) ∙ at) in
          old.long ∙ sym told.closed.first_long)
    ]
      where
        mine : r ≡ p → length t ≡ length b.closed.first
        mine is =
            let P : ℕ → Type 0 = λ x. slice_get after x ≡ Some t in
            let found = slice_get-set_found b.times p (tick (book_state_time_of b p) p) t (subst P is at) in
            let own = (processor_time_stamp s h b p told lt).long in
            ap (λ (x : List ℕ). length x) (sym found) ∙ length-set (book_state_time_of b p) p (slice_index (book_state_time_of b p) p + 1)
            ∙ own ∙ sym told.closed.first_long

    sent : (r : ℕ) → r < length b.times → AllowsNoticesOfCall b.closed after r
    sent r less =
        let same = length-set b.times p (tick (book_state_time_of b p) p) in
        let read = slice_get-get_or after r [] (omega arith) in
        record {
          within = omega arith;
          long = long r (slice_index_or after r []) (omega arith) read;
          kept = λ q. processor_times_within_closing s h b p told lt r q (slice_index_or after r []) read;
        }

    none : barrier_episode_full (barrier_episode_with_one_more b.barrier p (tick (book_state_time_of b p) p)) ≡ true → b.transit ≡ replicate (length b.times) None
    none full =
        let times = told.times.long in
        let transit = told.transit.long in
        posting_all_same b.transit None (λ q less. nothing full q (omega arith))
        ∙ ap (λ n. replicate n None) (transit ∙ sym times)
      where
        nothing : barrier_episode_full (barrier_episode_with_one_more b.barrier p (tick (book_state_time_of b p) p)) ≡ true → (q : ℕ) → q < s.processors
            → slice_get b.transit q ≡ Some None
        nothing all_here q less =
            let transit = told.transit.long in
            let read = slice_get-get_or b.transit q None (omega arith) in
            read ∙ ap (λ (x : Option Letter). Some x)
            (sym (no_posted_mail s h q (slice_index_or b.transit q None)
            (barrier_arrival_lets_nobody (record { told = told; idle = idle }) q (tick (book_state_time_of b p) p) all_here less)
            (told.transit.each q (slice_index_or b.transit q None) read)))

pub barrier_arrival_allowed : (b : BookState) (p : ℕ) (block : List Event) → AllowsClosingCall b p block → IsBarrierArrival b p
barrier_arrival_allowed b p block may = barrier_arrival_by_history may.by.sizes may.by.history b p may.by.told may.hands_in.idle

pub barrier_arrival_read : (b now : BookState) (p : ℕ) (block : List Event) → b ≡ now → AllowsClosingCall now p block → IsBarrierArrival b p
barrier_arrival_read b now p block same may = subst (λ x. IsBarrierArrival x p) (sym same) (barrier_arrival_allowed now p block may)

-- two functions over a list, one after the other
barrier_arrival_map_twice : {A B C : Type 0} (f : A → B) (g : B → C) (xs : List A) → map g (map f xs) ≡ map (λ x. g (f x)) xs
barrier_arrival_map_twice f g [] = refl
barrier_arrival_map_twice f g (x ∷ xs) = ap (λ ys. g (f x) ∷ ys) (barrier_arrival_map_twice f g xs)

-- the departures of all, or none
barrier_arrival_mail_some : (full : Bool) (c : BookState) (u : List ℕ) (ms : List Letter)
    → Some ms ≡ cond full (Some (map (transition_departure_to c.closed u) c.times)) None
    → map (λ (m : Letter). Some m) ms ≡ transition_mail_met full c u
barrier_arrival_mail_some true c u ms made =
    ap (λ (xs : List Letter). map (λ (m : Letter). Some m) xs)
    (same_Some ms (map (transition_departure_to c.closed u) c.times) made)
    ∙ barrier_arrival_map_twice (transition_departure_to c.closed u) (λ (m : Letter). Some m) c.times
barrier_arrival_mail_some false c u ms made = absurd (none-some ms (sym made))

barrier_arrival_mail_none : (full : Bool) (c : BookState) (u : List ℕ)
    → None ≡ cond full (Some (map (transition_departure_to c.closed u) c.times)) None → c.transit ≡ transition_mail_met full c u
barrier_arrival_mail_none true c u made = absurd (none-some (map (transition_departure_to c.closed u) c.times) made)
barrier_arrival_mail_none false c u made = refl

-- p arrives at this time
module _ (old b : BookState) (p : ℕ) (block : List Event) (records : List PageChanges) (t : List ℕ)
    (is : b ≡ transition_closed_by (transition_handed_in old block) p Arrive records) (time : t ≡ tick (book_state_time_of old p) p) where
  barrier_arrival_is : (barrier : BarrierEpisodes) (transit : List (Option Letter)) → barrier ≡ barrier_episode_arrived b.barrier p t
      → transit ≡ transition_mail_met (barrier_episode_full (barrier_episode_with_one_more b.barrier p t)) b (join b.barrier.gathered t)
      → record b { barrier = barrier; transit = transit } ≡ transition_arrived (transition_handed_in old block) p records
  barrier_arrival_is barrier transit here mail = rw is (let now = rw is at here in let post = rw is at mail in cc)

  -- what stands of the departures when the interval is closed
  barrier_arrival_departures_same : (o : Option (List Letter))
      → o ≡ transition_departures_to (kept_closings_pushed old.closed (transition_open_interval old p records)) old.barrier (slice_set old.times p t) p t
      → o ≡ transition_departures_to b.closed b.barrier b.times p t
  barrier_arrival_departures_same o made = cc

  -- an arrival that completes the episode
  pub barrier_arrival_met : (barrier : BarrierEpisodes) (transit : List (Option Letter)) (ms : List Letter)
      → barrier ≡ barrier_episode_arrived b.barrier p t → transit ≡ map (λ (m : Letter). Some m) ms
      → Some ms ≡ transition_departures_to (kept_closings_pushed old.closed (transition_open_interval old p records)) old.barrier
      (slice_set old.times p t) p t
      → record b { barrier = barrier; transit = transit } ≡ transition_arrived (transition_handed_in old block) p records
  barrier_arrival_met barrier transit ms here post made =
      barrier_arrival_is barrier transit here
      (post ∙ barrier_arrival_mail_some (barrier_episode_full (barrier_episode_with_one_more b.barrier p t)) b (join b.barrier.gathered t) ms
      (barrier_arrival_departures_same (Some ms) made))

  -- an arrival that leaves it open
  pub barrier_arrival_alone : (barrier : BarrierEpisodes) → barrier ≡ barrier_episode_arrived b.barrier p t
      → None ≡ transition_departures_to (kept_closings_pushed old.closed (transition_open_interval old p records)) old.barrier
      (slice_set old.times p t) p t
      → record b { barrier = barrier } ≡ transition_arrived (transition_handed_in old block) p records
  barrier_arrival_alone barrier here made =
      barrier_arrival_is barrier b.transit here
      (barrier_arrival_mail_none (barrier_episode_full (barrier_episode_with_one_more b.barrier p t)) b (join b.barrier.gathered t) (barrier_arrival_departures_same None made))

-- all have no message when all departures are made
pub barrier_arrival_finds_no_mail : (old : BookState) (p : ℕ) (c : KeptClosings) (t : List ℕ) (ms : List Letter) → IsBarrierArrival old p
    → t ≡ tick (book_state_time_of old p) p → Some ms ≡ transition_departures_to c old.barrier (slice_set old.times p t) p t
    → old.transit ≡ replicate (length ms) None
barrier_arrival_finds_no_mail old p c t ms is time made = go (barrier_episode_full (barrier_episode_with_one_more old.barrier p t)) refl made
  where
    go : (full : Bool) → barrier_episode_full (barrier_episode_with_one_more old.barrier p t) ≡ full
        → Some ms ≡ cond full (Some (map (transition_departure_to c (join old.barrier.gathered t)) (slice_set old.times p t)))
        None → old.transit ≡ replicate (length ms) None
    go false all one = absurd (none-some ms (sym one))
    go true all one =
        let same = ap (λ (xs : List Letter). length xs)
        (same_Some ms (map (transition_departure_to c (join old.barrier.gathered t)) (slice_set old.times p t)) one)
        ∙ length-map (slice_set old.times p t) (transition_departure_to c (join old.barrier.gathered t))
        ∙ length-set old.times p t in
        is.none (ap (λ (u : List ℕ). barrier_episode_full (barrier_episode_with_one_more old.barrier p u)) (sym time) ∙ all)
        ∙ ap (λ (n : ℕ). replicate n None) (sym same)

-- the departures as they were made, read off the book before the call
pub barrier_arrival_departures_made : {old b : BookState} {i : ClosedInterval} {o : Option (List Letter)} → (p : ℕ)
    (records : List PageChanges) (t : List ℕ)
    → b ≡ old → i ≡ transition_open_interval b p records
    → o ≡ transition_departures_to (kept_closings_pushed b.closed i) b.barrier (slice_set b.times i.owner t) i.owner t
    → o ≡ transition_departures_to (kept_closings_pushed old.closed (transition_open_interval old p records)) old.barrier (slice_set old.times p t) p t
barrier_arrival_departures_made p records t same opened made = cc

-- old is the timestamp of q once p has closed its interval at the time own: p's own, another's, t, as it was
pub record IsTimeAfterBarrierArrival (times : List (List ℕ)) (p q : ℕ) (own old : List ℕ) : Type 0 where
  pub t : List ℕ
  pub closer : p < length times
  pub there : q < length times
  pub read : t ≡ slice_index_or times q t
  pub mine : q ≡ p → old ≡ own
  pub others : q ≢ p → old ≡ t

-- each one's timestamp once p has closed its interval
pub barrier_arrival_time_read : {times : List (List ℕ)} {p q : ℕ} {own old : List ℕ} → IsTimeAfterBarrierArrival times p q own old
    → old ≡ slice_index_or (slice_set times p own) q []
barrier_arrival_time_read {times} {p} {q} {own} {old} after = elim (cases_eq q p) [
  | inl is ↦ (
      let P : ℕ → Type 0 = λ x. own ≡ slice_index_or (slice_set times p own) x [] in
      after.mine is ∙ subst P (sym is) (sym (get_or-set_same times p own [] after.closer)))
  | inr apart ↦ after.others apart ∙ after.read ∙ idle_call_default_same times q after.t [] after.there
      ∙ sym (get_or-set_other times p q own [] apart)
]

-- the departures ns: to those before q, ms, comes one, m, for q, whose timestamp is old
pub record IsDepartingByBarrierArrival (c : KeptClosings) (u : List ℕ) (times : List (List ℕ)) (q : ℕ) (ns : List Letter) : Type 0 where
  pub old : List ℕ
  pub ms : List Letter
  pub m : Letter
  pub made : ms ≡ map (transition_departure_to c u) (take q times)
  pub less : q < length times
  pub read : old ≡ slice_index_or times q []
  pub one : m ≡ transition_departure_to c u old
  pub more : ns ≡ ms ++ m ∷ []

-- one more departure is made
pub barrier_arrival_departing_step : {c : KeptClosings} {u : List ℕ} {times : List (List ℕ)} {q : ℕ} {ns : List Letter}
    → IsDepartingByBarrierArrival c u times q ns → ns ≡ map (transition_departure_to c u) (take (q + 1) times)
barrier_arrival_departing_step {c} {u} {times} {q} {ns} step =
    let old = step.old in
    let at = slice_get-get_or times q [] step.less ∙ ap (λ (t : List ℕ). Some t) (sym step.read) in
    let next : q + 1 ≡ suc q = omega arith in
    step.more ∙ ap (λ (xs : List Letter). xs ++ step.m ∷ []) step.made
    ∙ ap (λ (x : Letter). map (transition_departure_to c u) (take q times) ++ x ∷ []) step.one
    ∙ sym (map-append (transition_departure_to c u) (take q times) (old ∷ []))
    ∙ ap (λ (ts : List (List ℕ)). map (transition_departure_to c u) ts)
    (sym (slice_take-suc_at times q old at) ∙ ap (λ (n : ℕ). take n times) (sym next))

-- the departures ms, with the episode's time u, where p's arrival at the time own completes it
pub record AreDeparturesByBarrierArrival (c : KeptClosings) (b : BarrierEpisodes) (times : List (List ℕ)) (p : ℕ) (own : List ℕ)
    (ms : List Letter) : Type 0 where
  pub u : List ℕ
  pub full : Bool
  pub is : full ≡ barrier_episode_full (barrier_episode_with_one_more b p own)
  pub all : full ≡ true
  pub time : u ≡ join b.gathered own
  pub made : ms ≡ map (transition_departure_to c u) times

-- the departures, where the arrival completes the episode, and none where it doesn't
pub barrier_arrival_departures_are : {c : KeptClosings} {b : BarrierEpisodes} {times : List (List ℕ)} {p : ℕ} {own : List ℕ} {ms : List Letter}
    → AreDeparturesByBarrierArrival c b times p own ms → Some ms ≡ transition_departures_to c b times p own
barrier_arrival_departures_are {c} {b} {times} {p} {own} {ms} are =
    let is = are.is in
    let all = are.all in
    let time = are.time in
    let made = are.made in
    cc

pub barrier_arrival_none_depart : (c : KeptClosings) (b : BarrierEpisodes) (times : List (List ℕ)) (p : ℕ) (own : List ℕ) (full : Bool)
    → full ≡ barrier_episode_full (barrier_episode_with_one_more b p own) → full ≡ false → None ≡ transition_departures_to c b times p own
barrier_arrival_none_depart c b times p own full is some = cc
