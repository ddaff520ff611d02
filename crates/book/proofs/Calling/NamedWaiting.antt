-- Whom an event lets go on, read off the book.
use Rattle.std.proofs.Common.{◌≡◌, ℕ, ◌<◌, IfSome, IsSome, inl, inr, ◌↔◌, EachIndex, IsTrue, List, [], length, map, Bool, true, false, Option, Some, None, slice_get, subst, sym, refl, ap, ◌∙◌, arith}
use Rattle.std.proofs.lemmas.Option.{none-some, slice_get-map, same_Some}
use Rattle.std.proofs.lemmas.List.{length-map}
use Rattle.std.specs.Option.{option_map}
use Rattle.base.specs.Limits.{most_processors}
use Rattle.base.specs.InOrderOnce.{Has}
use Rattle.transit.specs.Mail.{mail}
use Rattle.journal.specs.declared.event.Event.{Event}
use Rattle.journal.specs.declared.event.Kind.{Kind}
use Rattle.journal.specs.declared.event.Kind.TheVariants.{Ask, Acquire, Release, Arrive, Depart, Set, Watch, Await}
use Rattle.journal.specs.Sizes.{Sizes}
use Rattle.journal.specs.DidEvent.{event, did}
use Rattle.journal.specs.WellFormed.{WellFormedKindInRange, WellFormedNext}
use Rattle.journal.specs.Deadlocks.{IsDeadlock}
use Rattle.journal.proofs.Journals.WellFormedStays.{well_formed_stays_push}
use Rattle.lockq.specs.LockQueues.{lock_queue_at, lock_queue_unheld, lock_queue_line}
use Rattle.journal.specs.declared.closing_and_awaited.Awaited.{Awaited}
use Rattle.journal.specs.declared.closing_and_awaited.Awaited.TheVariants.{Grant, Departure, Signal}
use Rattle.journal.specs.ClosingKinds.{closing_awaits_kind}
use Rattle.book.specs.BookLockLines.{HasBookLockLine}
use Rattle.book.specs.BookState.{BookState}
use Rattle.book.specs.Messages.{message_has_come}
use Rattle.book.specs.RepresentedHistory.{Represents, RepresentsSomeHistory}
use Rattle.book.specs.BookWaits.{IsBookWaitDone, HasClosedBeforeBookWaits, IsNamedByBookWaits}
use Rattle.book.proofs.Parts.Each.{each_is_at}
use Rattle.book.proofs.Told.Flags.{told_flag_last_watch}
use Rattle.book.proofs.Told.NamedReady.{BookWaitsInVain, named_none_ready_deadlock, named_ready_none_by_deadlock}
use Rattle.book.proofs.Calling.WaitingPlaces.{WaitsInVainAtPlace, IsDoneWaitingAtPlace, waiting_place_map}

-- numbers of the book after an event that closed p's interval
pub record NamedWaitingStandsAfter (b : BookState) (p : ℕ) (k : Kind) : Type 0 where
  pub mail : length b.awaits ≡ length b.transit
  pub within : p < length b.transit
  pub lock : (l : ℕ) → k ≡ Release l → l < length b.locks.locks
  pub next : (l q : ℕ) → k ≡ Release l → (lock_queue_at b.locks l).holder ≡ Some q → q < length b.awaits
  pub flag : (f : ℕ) → k ≡ Set f → f < length b.flags

pub named_waiting_stands_after : (b : BookState) (p : ℕ) (k : Kind) → HasClosedBeforeBookWaits b p k → NamedWaitingStandsAfter b p k
named_waiting_stands_after b p k closed =
    let awaits_long = told.awaits.long in
    let transit_long = told.transit.long in
    let processor = may.processor in
    record {
      mail = omega arith;
      within = omega arith;
      lock = λ l is. (let lt = range_lock l is in let long = told.locks.long in omega arith);
      next = λ l q is holds. holder l q (range_lock l is) holds;
      flag = λ f is. (let lt : f < s.flags = subst (λ (x : Kind). WellFormedKindInRange s x) is may.in_range in
          let long = told.flags.long in omega arith);
    }
  where
    s : Sizes
    s = closed.sizes

    told : Represents s (did closed.history p k) b
    told = closed.told

    may : WellFormedNext s closed.history (event p k)
    may = ((well_formed_stays_push s closed.history (event p k)).0 told.well_formed).1

    range_lock : (l : ℕ) → k ≡ Release l → l < s.locks
    range_lock l is = subst (λ (x : Kind). WellFormedKindInRange s x) is may.in_range

    holder : (l q : ℕ) → l < s.locks → (lock_queue_at b.locks l).holder ≡ Some q → q < length b.awaits
    holder l q lt holds =
        let h = did closed.history p k in
        let is : HasBookLockLine s.processors h l (lock_queue_at b.locks l) =
        each_is_at s.locks (HasBookLockLine s.processors h) b.locks.locks l (lock_queue_unheld b.locks.processors) told.locks lt in
        let first : slice_get (lock_queue_line (lock_queue_at b.locks l)) 0 ≡ Some q =
        ap (λ (o : Option ℕ). slice_get (lock_queue_line (record { holder = o; queue = (lock_queue_at b.locks l).queue; time = [] })) 0)
        holds in
        let awaits_long = told.awaits.long in
        elim (is.line_is.asks 0 q first) [
          | inl asks ↦ (let one = (told.well_formed asks.0 (event q (Ask l)) asks.1.does).processor in omega arith)
          | inr held ↦ (let one =
              (told.well_formed held.1.place (event q (Acquire l)) held.1.acquires).processor in omega arith)
        ]

-- who holds the released lock next is among those whose waits the book keeps
pub named_waiting_next_within : {b : BookState} {p : ℕ} {k : Kind} {l : ℕ} → (awaits : List (Option Awaited)) → NamedWaitingStandsAfter b p k
    → k ≡ Release l → b.awaits ≡ map (option_map closing_awaits_kind) awaits → (o : Option ℕ) → o ≡ (lock_queue_at b.locks l).holder
    → IfSome o (λ q. q < length awaits)
named_waiting_next_within awaits stands released are None is = tt
named_waiting_next_within {l = l} awaits stands released are (Some q) is =
    subst (λ (n : ℕ). q < n)
    (ap (λ (ws : List (Option Kind)). length ws) are ∙ length-map awaits (option_map closing_awaits_kind))
    (stands.next l q released (sym is))

-- the book's lists, as they are read
pub record IsNamedWaitingRead (b now : BookState) (awaits : List (Option Awaited)) (flags : List (Option (List ℕ))) : Type 0 where
  pub same : b ≡ now
  pub awaits_are : b.awaits ≡ map (option_map closing_awaits_kind) awaits
  pub flags_are : flags ≡ b.flags

-- who waits by them for what has come waits so by the book
pub named_waiting_done : {b now : BookState} {awaits : List (Option Awaited)} {flags : List (Option (List ℕ))}
    → IsNamedWaitingRead b now awaits flags → (a : Awaited) (q : ℕ)
    → IsDoneWaitingAtPlace awaits flags b.transit a q ↔ IsBookWaitDone now (closing_awaits_kind a) q
named_waiting_done {b} {now} {awaits} {flags} read a q = (there, back)
  where
    waits : slice_get b.awaits q ≡ Some (Some (closing_awaits_kind a)) ↔ slice_get awaits q ≡ Some (Some a)
    waits = subst (λ (ws : List (Option Kind)). slice_get ws q ≡ Some (Some (closing_awaits_kind a)) ↔ slice_get awaits q ≡ Some (Some a))
        (sym read.awaits_are) (waiting_place_map awaits q a)

    there : IsDoneWaitingAtPlace awaits flags b.transit a q → IsBookWaitDone now (closing_awaits_kind a) q
    there x = subst (λ (c : BookState). IsBookWaitDone c (closing_awaits_kind a) q) read.same (record {
      waits = waits.1 x.0;
      come = subst (λ (fs : List (Option (List ℕ))). message_has_come fs b.transit q (closing_awaits_kind a) ≡ true) read.flags_are x.1;
    })

    back : IsBookWaitDone now (closing_awaits_kind a) q → IsDoneWaitingAtPlace awaits flags b.transit a q
    back y =
        let x = subst (λ (c : BookState). IsBookWaitDone c (closing_awaits_kind a) q) (sym read.same) y in (
          waits.0 x.waits,
          subst (λ (fs : List (Option (List ℕ))). message_has_come fs b.transit q (closing_awaits_kind a) ≡ true) (sym read.flags_are) x.come,
        )

-- who waits by them in vain does so by the book
pub named_waiting_in_vain : {b now : BookState} {awaits : List (Option Awaited)} {flags : List (Option (List ℕ))}
    → IsNamedWaitingRead b now awaits flags → (q : ℕ) → WaitsInVainAtPlace awaits flags b.transit q ↔ BookWaitsInVain now q
named_waiting_in_vain {b} {now} {awaits} {flags} read q = (there, back)
  where
    there : WaitsInVainAtPlace awaits flags b.transit q → BookWaitsInVain now q
    there x = subst (λ (c : BookState). BookWaitsInVain c q) read.same (record {
      kind = closing_awaits_kind x.0;
      waits = subst (λ (ws : List (Option Kind)). slice_get ws q ≡ Some (Some (closing_awaits_kind x.0))) (sym read.awaits_are)
          ((waiting_place_map awaits q x.0).1 x.1);
      come = subst (λ (fs : List (Option (List ℕ))). message_has_come fs b.transit q (closing_awaits_kind x.0) ≡ false) read.flags_are x.2;
    })

    back : BookWaitsInVain now q → WaitsInVainAtPlace awaits flags b.transit q
    back y =
        let x = subst (λ (c : BookState). BookWaitsInVain c q) (sym read.same) y in
        let at = subst (λ (ws : List (Option Kind)). slice_get ws q ≡ Some (Some x.kind)) read.awaits_are x.waits in
        let a = found (slice_get awaits q) refl x.kind
        (sym (slice_get-map (option_map closing_awaits_kind) awaits q) ∙ at) in (
          a.0,
          a.1,
          subst (λ (fs : List (Option (List ℕ))). message_has_come fs b.transit q (closing_awaits_kind a.0) ≡ false) (sym read.flags_are)
              (subst (λ (k : Kind). message_has_come b.flags b.transit q k ≡ false) (sym a.2) x.come),
        )
      where
        found : (o : Option (Option Awaited)) → slice_get awaits q ≡ o → (k : Kind)
            → option_map (option_map closing_awaits_kind) o ≡ Some (Some k)
            → (a : Awaited) × (slice_get awaits q ≡ Some (Some a)) × (closing_awaits_kind a ≡ k)
        found None is k at = absurd cc
        found (Some None) is k at = absurd (none-some k (same_Some None (Some k) at))
        found (Some (Some a)) is k at = (a, is, same_Some (closing_awaits_kind a) k (same_Some (Some (closing_awaits_kind a)) (Some k) at))

-- of a book that is told by some history, what its lists rest on
pub record StandsForNamedWaiting (b : BookState) : Type 0 where
  pub mail : length b.awaits ≡ length b.transit
  pub flags : (p f : ℕ) → slice_get b.awaits p ≡ Some (Some (Await f)) → f < length b.flags

pub stands_for_named_waiting : (b : BookState) → RepresentsSomeHistory b → StandsForNamedWaiting b
stands_for_named_waiting b by =
    let told = by.told in
    let awaits_long = told.awaits.long in
    let transit_long = told.transit.long in
    let flags_long = told.flags.long in
    record {
      mail = omega arith;
      flags = λ p f waits. (let last = told_flag_last_watch by.history p f (told.awaits.each p (Some (Await f)) waits) in
          let range : f < by.sizes.flags =
          (told.well_formed last.0 (event p (Watch f)) last.1.does).in_range in omega arith);
    }

-- whether all wait in vain tells whether there is a deadlock
pub named_waiting_deadlocked : {b now : BookState} {awaits : List (Option Awaited)} {flags : List (Option (List ℕ))}
    → IsNamedWaitingRead b now awaits flags → (r : Bool)
    → IsTrue r ↔ EachIndex awaits (WaitsInVainAtPlace awaits flags b.transit) → (s : Sizes) (h : List Event) → Represents s h now
    → IsTrue r ↔ IsDeadlock s h
named_waiting_deadlocked {b} {now} {awaits} {flags} read r is s h told = (
  (λ e. named_none_ready_deadlock s h now told (λ p lt. (named_waiting_in_vain read p).0 (is.0 e p (subst (λ (n : ℕ). p < n) long lt)))),
  (λ dead. is.1 (λ p lt. (named_waiting_in_vain read p).1 (named_ready_none_by_deadlock s h now told dead p (subst (λ (n : ℕ). p < n) (sym long) lt)))),
)
  where
    long : length now.awaits ≡ length awaits
    long = ap (λ (c : BookState). length c.awaits) (sym read.same) ∙ ap (λ (ws : List (Option Kind)). length ws) read.awaits_are
        ∙ length-map awaits (option_map closing_awaits_kind)

-- the next holder that was found is the one whom the book names after a release
pub named_waiting_release : {b now : BookState} {awaits : List (Option Awaited)} {flags : List (Option (List ℕ))}
    → IsNamedWaitingRead b now awaits flags → (p l q : ℕ) (next : Option ℕ) → next ≡ (lock_queue_at b.locks l).holder
    → (found : List ℕ)
    → Has found q ↔ ((next ≡ Some q) × (q < most_processors) × (slice_get awaits q ≡ Some (Some (Grant l)))
    × (message_has_come flags b.transit q (Acquire l) ≡ true))
    → Has found q ↔ IsNamedByBookWaits now p (Release l) q
named_waiting_release {b} {now} {awaits} {flags} read p l q next next_is found is = (
  (λ has. (let x = is.0 has in (sym holder ∙ x.0, x.1, (named_waiting_done read (Grant l) q).0 (x.2, x.3)))),
  (λ named. (let come = (named_waiting_done read (Grant l) q).1 named.2 in is.1 (holder ∙ named.0, named.1, come.0, come.1))),
)
  where
    holder : next ≡ (lock_queue_at now.locks l).holder
    holder = next_is ∙ ap (λ (c : BookState). (lock_queue_at c.locks l).holder) read.same

-- those who were found are the ones whom it names after an arrival that completed the episode
pub named_waiting_arrival : {b now : BookState} {awaits : List (Option Awaited)} {flags : List (Option (List ℕ))}
    → IsNamedWaitingRead b now awaits flags → (p q : ℕ) (ready : Bool) → IsTrue ready ↔ IsSome (mail b.transit p)
    → ready ≡ true → (found : List ℕ)
    → Has found q ↔ ((q < most_processors) × (slice_get awaits q ≡ Some (Some Departure))
    × (message_has_come flags b.transit q Depart ≡ true))
    → Has found q ↔ IsNamedByBookWaits now p Arrive q
named_waiting_arrival {b} {now} {awaits} {flags} read p q ready is_ready may found is = (
  (λ has. (let x = is.0 has in (own, x.0, (named_waiting_done read Departure q).0 (x.1, x.2)))),
  (λ named. (let come = (named_waiting_done read Departure q).1 named.2 in is.1 (named.1, come.0, come.1))),
)
  where
    own : message_has_come now.flags now.transit p Depart ≡ true
    own = subst (λ (c : BookState). message_has_come c.flags c.transit p Depart ≡ true) read.same (is_ready.0 may)

-- and after a set
pub named_waiting_set : {b now : BookState} {awaits : List (Option Awaited)} {flags : List (Option (List ℕ))}
    → IsNamedWaitingRead b now awaits flags → (p f q : ℕ) (found : List ℕ)
    → Has found q ↔ ((q < most_processors) × (slice_get awaits q ≡ Some (Some (Signal f)))
    × (message_has_come flags b.transit q (Await f) ≡ true))
    → Has found q ↔ IsNamedByBookWaits now p (Set f) q
named_waiting_set {b} {now} {awaits} {flags} read p f q found is = (
  (λ has. (let x = is.0 has in (x.0, (named_waiting_done read (Signal f) q).0 (x.1, x.2)))),
  (λ named. (let come = (named_waiting_done read (Signal f) q).1 named.1 in is.1 (named.0, come.0, come.1))),
)
