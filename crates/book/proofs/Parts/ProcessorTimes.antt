-- The book stays what the history says: each part under one event.
use Rattle.std.proofs.Common.{◌≡◌, ◌≢◌, ℕ, ◌+◌, ◌<◌, ◌≤◌, zero, suc, inl, inr, List, [], length, true, false, Option, Some, None, slice_get, slice_set, slice_index, slice_index_or, subst, sym, ◌∙◌, arith}
use Rattle.std.proofs.lemmas.Bool.{cases_eq, cases_lt}
use Rattle.std.proofs.lemmas.Option.{none-some, slice_get_within, slice_get-get_or, get_or_from_slice_get}
use Rattle.std.proofs.lemmas.List.{get_or-set_same, get_or-set_other, get_or_past}
use Rattle.journal.specs.declared.event.Event.{Event}
use Rattle.journal.specs.declared.event.Kind.{Kind}
use Rattle.journal.specs.Sizes.{Sizes}
use Rattle.journal.specs.Events.{event_count, event_closes, event_takes}
use Rattle.journal.specs.WellFormed.{WellFormedKindInRange, WellFormedAllows, WellFormedNext, WellFormed}
use Rattle.journal.specs.AwaitedNext.{awaited_next, AwaitsNothingNext}
use Rattle.journal.specs.Pasts.{InPast}
use Rattle.journal.specs.Brings.{Brings}
use Rattle.base.proofs.SliceSets.{slice_get-set_found, slice_get-set_other, slice_get-set_same}
use Rattle.journal.proofs.Journals.WellFormedStays.{well_formed_stays_push}
use Rattle.journal.proofs.Times.PushedTimes.{pushed_time_own_entry}
use Rattle.journal.proofs.Journals.MayGoOn.{may_go_on_idle}
use Rattle.page.specs.PageChanges.{PageChanges}
use Rattle.vtime.specs.TicksAndJoins.{tick, join}
use Rattle.vtime.proofs.Joins.{get_or-join}
use Rattle.interval.specs.KeptClosings.{kept_closings_pushed, kept_closings_between}
use Rattle.transit.specs.Letters.{Letter}
use Rattle.journal.specs.DidEvent.{event, did}
use Rattle.book.specs.BookStamps.{EachStampedAt, IsBookStamp, IsAwaitedByBookStamps}
use Rattle.book.specs.BookMail.{BookMailCarries}
use Rattle.book.specs.KeptIntervals.{AreIntervalContents, AreKeptIntervals, KeepsUncoveredIntervals, AreKeptIntervalsTight}
use Rattle.book.specs.BookState.{BookState, book_state_time_of}
use Rattle.book.specs.Transitions.{transition_open_interval}
use Rattle.book.specs.RepresentedHistory.{Represents}
use Rattle.book.specs.RepresentedHistory.{RepresentsSizes}
use Rattle.book.proofs.Parts.Each.{each_set, each_is_at}
use Rattle.book.proofs.Parts.PostedMail.{idle_posted_mail}
use Rattle.book.proofs.Parts.LastEvents.{last_event_awaits_idle, last_event_awaited_others, last_event_awaited_now}
use Rattle.book.proofs.Parts.Stamps.{stamp_others, stamp_closing, stamp_taking}
use Rattle.book.proofs.Parts.BookIntervals.{IsClosingBookInterval, book_intervals_closing}
use Rattle.interval.proofs.News.BetweenUnchanged.{between_unchanged_by_push}

-- whose number is found is a processor
pub processor_times_index_in_range : (s : Sizes) (h : List Event) (b : BookState) (p : ℕ) (w : Option Kind) → Represents s h b
    → slice_get b.awaits p ≡ Some w → p < s.processors
processor_times_index_in_range s h b p w told at =
    let within = slice_get_within b.awaits p w at in
    let long = told.awaits.long in
    omega arith

-- p waits for nothing in a book that is told by the history
pub record IsIdleProcessorTold (s : Sizes) (h : List Event) (b : BookState) (p : ℕ) : Type 0 where
  pub told : Represents s h b
  pub idle : slice_get b.awaits p ≡ Some None

-- a book with as many processors, addresses and words a page has the same sizes
pub processor_times_same_sizes : (s : Sizes) (b c : BookState) → RepresentsSizes s b
    → (c.journal.processors ≡ b.journal.processors) × (c.words ≡ b.words)
    × (c.journal.addresses ≡ b.journal.addresses) × (c.locks.processors ≡ b.locks.processors) → RepresentsSizes s c
processor_times_same_sizes s b c is same = record {
  processors = same.0 ∙ is.processors;
  words = same.1 ∙ is.words;
  addresses = same.2 ∙ is.addresses;
  lockers = same.3 ∙ is.lockers;
}

-- a timestamp that grows covers what it covered
processor_times_within_set : (first : List ℕ) (times : List (List ℕ)) (p : ℕ) (u : List ℕ) → p < length times
    → ((q : ℕ) → slice_index (slice_index_or times p []) q ≤ slice_index u q) → KeepsUncoveredIntervals first times
    → KeepsUncoveredIntervals first (slice_set times p u)
processor_times_within_set first times p u lt grows within r q t at = elim (cases_eq r p) [
  | inl is ↦ (
      let P : ℕ → Type 0 = λ x. slice_get (slice_set times p u) x ≡ Some t in
      let same = slice_get-set_found times p u t (subst P is at) in
      let old = within p q (slice_index_or times p []) (slice_get-get_or times p [] lt) in
      let more = grows q in
      subst (λ v. slice_index first q ≤ slice_index v q) same (omega arith))
  | inr isnt ↦ within r q t (sym (slice_get-set_other times p r u isnt) ∙ at)
]

-- a tick takes nothing back
pub tick_grows_processor_time : (t : List ℕ) (p q : ℕ) → slice_index t q ≤ slice_index (tick t p) q
tick_grows_processor_time t p q = elim (cases_eq q p) [
  | inl is ↦ (let P : ℕ → Type 0 = λ x. slice_index t x ≤ slice_index (tick t p) x in subst P (sym is) here)
  | inr isnt ↦ (let e = get_or-set_other t p q (slice_index t p + 1) 0 isnt in omega arith)
]
  where
    here : slice_index t p ≤ slice_index (tick t p) p
    here = elim (cases_lt p (length t)) [
      | inl lt ↦ (let e = get_or-set_same t p (slice_index t p + 1) 0 lt in omega arith)
      | inr past ↦ (let e = get_or_past t p 0 past in omega arith)
    ]

join_grows_processor_time : (t u : List ℕ) (q : ℕ) → slice_index t q ≤ slice_index (join t u) q
join_grows_processor_time t u q = let e = get_or-join t u q in omega arith

-- of a processor of a book that is told
module _ (s : Sizes) (h : List Event) (b : BookState) (p : ℕ) (told : Represents s h b) where
  -- who awaits nothing is idle
  pub processor_times_idle_awaits_none : slice_get b.awaits p ≡ Some None → AwaitsNothingNext h p
  processor_times_idle_awaits_none none = last_event_awaits_idle h p (told.awaits.each p None none)

  -- and has no message
  pub processor_times_awaits_no_mail : slice_get b.awaits p ≡ Some None → (r : ℕ) (m : Letter) → slice_get b.transit r ≡ Some (Some m) → r ≢ p
  processor_times_awaits_no_mail none r m at is =
      let P : ℕ → Type 0 = λ x. slice_get b.transit x ≡ Some (Some m) in
      none-some m (idle_posted_mail s h p (Some m) (processor_times_idle_awaits_none none) (told.transit.each p (Some m) (subst P is at)))

  module _ (k : Kind) where
    -- an idle processor's event may follow
    pub processor_times_awaits_follow : slice_get b.awaits p ≡ Some None → WellFormedKindInRange s k → WellFormedAllows s h p k → WellFormedNext s h (event p k)
    processor_times_awaits_follow none range allowed =
        may_go_on_idle s h p k (processor_times_index_in_range s h b p None told none) (processor_times_idle_awaits_none none) range allowed

    pub processor_times_well_formed : WellFormedNext s h (event p k) → WellFormed s (did h p k)
    processor_times_well_formed may = (well_formed_stays_push s h (event p k)).1 (told.well_formed, may)

    -- what is waited for
    pub processor_times_awaits_set : EachStampedAt s.processors (IsAwaitedByBookStamps (did h p k)) (slice_set b.awaits p (awaited_next k))
    processor_times_awaits_set =
        each_set s.processors (IsAwaitedByBookStamps h) (IsAwaitedByBookStamps (did h p k)) b.awaits p (awaited_next k) told.awaits
        (λ q w isnt at is. last_event_awaited_others h p k q w isnt is) (last_event_awaited_now h p k)

  module _ (lt : p < s.processors) where
    -- p's timestamp
    pub processor_time_stamp : IsBookStamp s.processors h (InPast h p) (book_state_time_of b p)
    processor_time_stamp = each_is_at s.processors (λ q t. IsBookStamp s.processors h (InPast h q) t) b.times p [] told.times lt

    -- all timestamps, once p has another one
    processor_times_set : (k : Kind) (t : List ℕ) → IsBookStamp s.processors (did h p k) (InPast (did h p k) p) t
        → EachStampedAt s.processors (λ q u. IsBookStamp s.processors (did h p k) (InPast (did h p k) q) u) (slice_set b.times p t)
    processor_times_set k t stamp =
        each_set s.processors (λ q u. IsBookStamp s.processors h (InPast h q) u)
        (λ q u. IsBookStamp s.processors (did h p k) (InPast (did h p k) q) u) b.times p t told.times
        (λ q u isnt at is. stamp_others s.processors h p k q u isnt is) stamp

    -- the timestamps after a closing event
    pub processor_times_closing : (k : Kind) → event_takes k ≡ false → event_closes k ≡ true
        → EachStampedAt s.processors (λ q t. IsBookStamp s.processors (did h p k) (InPast (did h p k) q) t)
        (slice_set b.times p (tick (book_state_time_of b p) p))
    processor_times_closing k quiet closes =
        processor_times_set k (tick (book_state_time_of b p) p) (stamp_closing s.processors h p k (book_state_time_of b p) lt quiet closes processor_time_stamp)

    -- and after an event that takes
    pub processor_times_taking : (k : Kind) (u : List ℕ) → event_closes k ≡ false → IsBookStamp s.processors h (Brings h p k) u
        → EachStampedAt s.processors (λ q t. IsBookStamp s.processors (did h p k) (InPast (did h p k) q) t)
        (slice_set b.times p (join (book_state_time_of b p) u))
    processor_times_taking k u quiet brings =
        processor_times_set k (join (book_state_time_of b p) u) (stamp_taking s.processors h p k (book_state_time_of b p) u quiet processor_time_stamp brings)

    -- the number of p's open interval
    pub processor_time_number : slice_index (book_state_time_of b p) p ≡ event_count event_closes h p
    processor_time_number = pushed_time_own_entry h p (slice_index (book_state_time_of b p)) processor_time_stamp.is

    -- p has a place among the timestamps
    processor_times_timed : p < length b.times
    processor_times_timed = subst (λ n. p < n) (sym told.times.long) lt

    -- the closed intervals after a closing event
    pub processor_times_closed_now : (k : Kind) (records : List PageChanges) → event_closes k ≡ true
        → AreIntervalContents s h p (event_count event_closes h p) records
        → AreKeptIntervals s (did h p k) (kept_closings_pushed b.closed (transition_open_interval b p records))
    processor_times_closed_now k records closes stored =
        let now : IsClosingBookInterval s h p k b.closed (slice_index (book_state_time_of b p) p) records = record {
          closes = closes;
          mine = lt;
          number = processor_time_number;
          covered = told.within p p (book_state_time_of b p) (slice_get-get_or b.times p [] processor_times_timed);
          stored = subst (λ n. AreIntervalContents s h p n records) (sym processor_time_number) stored;
          before = told.closed;
        } in
        book_intervals_closing now

    pub processor_times_within_closing : KeepsUncoveredIntervals b.closed.first (slice_set b.times p (tick (book_state_time_of b p) p))
    processor_times_within_closing =
        processor_times_within_set b.closed.first b.times p (tick (book_state_time_of b p) p) processor_times_timed (tick_grows_processor_time (book_state_time_of b p) p) told.within

    pub processor_times_within_taking : (u : List ℕ) → KeepsUncoveredIntervals b.closed.first (slice_set b.times p (join (book_state_time_of b p) u))
    processor_times_within_taking u =
        processor_times_within_set b.closed.first b.times p (join (book_state_time_of b p) u) processor_times_timed (join_grows_processor_time (book_state_time_of b p) u) told.within

    -- with two processors or more, a tick leaves what everyone covers
    pub processor_times_tight_closing : 1 < s.processors → AreKeptIntervalsTight b.closed.first (slice_set b.times p (tick (book_state_time_of b p) p))
    processor_times_tight_closing more q less =
        let found = told.tight more q less in
        let long = told.times.long in
        elim (cases_eq found.0 p) [
          | inr isnt ↦ (
            found.0,
            found.1,
            slice_get-set_other b.times p found.0 (tick (book_state_time_of b p) p) isnt ∙ found.2,
            found.3,
          )
          | inl is ↦ elim (cases_eq q p) [
            | inr apart ↦ (
                let P : ℕ → Type 0 = λ x. slice_get b.times x ≡ Some found.1 in
                let own = sym (get_or_from_slice_get b.times p found.1 [] (subst P is found.2)) in
                let same = get_or-set_other (book_state_time_of b p) p q (slice_index (book_state_time_of b p) p + 1) 0 apart in
                let entry = subst (λ (t : List ℕ). slice_index t q ≤ slice_index b.closed.first q) own found.3 in
                (p, tick (book_state_time_of b p) p, slice_get-set_same b.times p (tick (book_state_time_of b p) p) processor_times_timed, omega arith))
            | inl own ↦ (
                let P : ℕ → Type 0 = λ x. slice_get b.times x ≡ Some found.1 in
                let mine = sym (get_or_from_slice_get b.times p found.1 [] (subst P is found.2)) in
                let Q : ℕ → Type 0 = λ x. slice_index found.1 x ≤ slice_index b.closed.first x in
                let entry = subst (λ (t : List ℕ). slice_index t p ≤ slice_index b.closed.first p) mine
                (subst Q own found.3) in
                let number = processor_time_number in
                let r = another p s.processors more in
                let at = slice_get-get_or b.times r.0 [] (omega (arith, r.1)) in
                let most = (told.times.each r.0 (book_state_time_of b r.0) at).is.within p in
                let R : ℕ → Type 0 = λ x. slice_index (book_state_time_of b r.0) x ≤ slice_index b.closed.first x in (
                  r.0,
                  book_state_time_of b r.0,
                  slice_get-set_other b.times p r.0 (tick (book_state_time_of b p) p) r.2 ∙ at,
                  subst R (sym own) (omega arith),
                ))
          ]
        ]
      where
        another : (p n : ℕ) → 1 < n → (r : ℕ) × (r < n) × (r ≢ p)
        another zero n more = (1, more, λ e. absurd (omega arith))
        another (suc p) n more = (0, omega arith, λ e. absurd (omega arith))

    -- the notices of a message posted before a closing event
    pub processor_times_old_notices : (records : List PageChanges) (r : ℕ) (m : Letter) (t : List ℕ) → r ≢ p
        → slice_get b.transit r ≡ Some (Some m) → slice_get (slice_set b.times p (tick (book_state_time_of b p) p)) r ≡ Some t
        → m.notices ≡ kept_closings_between (kept_closings_pushed b.closed (transition_open_interval b p records)) t m.time
    processor_times_old_notices records r m t isnt at time =
        let mail : BookMailCarries s h r m = told.transit.each r (Some m) at in
        let most = mail.time.is.within p in
        let number = processor_time_number in
        told.notices r m t at (sym (slice_get-set_other b.times p r (tick (book_state_time_of b p) p) isnt) ∙ time)
        ∙ sym (between_unchanged_by_push b.closed (transition_open_interval b p records) t m.time (omega arith))
