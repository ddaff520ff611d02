-- What a seat's calls that close its interval, and wait, add to what its processor called.
use Rattle.std.proofs.Common.{ℕ, Bool, true, false, ◌≡◌, inr, Option, Some, None, Result, Ok, Err, OnErr, OnOk, List, [], ◌∷◌, ◌++◌, map, refl, sym, ap, subst, ◌∙◌, append-nil}
use Rattle.std.specs.Prelude.{is_some}
use Rattle.std.specs.Result.{result_err}
use Rattle.std.proofs.lemmas.Option.{same_Some}
use Rattle.journal.specs.declared.event.Kind.{Kind}
use Rattle.journal.specs.declared.event.Kind.TheVariants.{Load, Store, Fetch, Ask, Acquire, Release, Arrive, Depart, Set, Watch, Await}
use Rattle.journal.specs.DidEvent.{event}
use Rattle.journal.specs.AwaitedNext.{awaited_next}
use Rattle.book.specs.declared.refused.Refused.{Refused}
use Rattle.cluster.specs.Copies.Local.{Local, calls}
use Rattle.cluster.specs.Copies.AfterNews.{locks_held_after_news}
use Rattle.cluster.specs.ClosingCalls.{IsClosingCall}
use Rattle.cluster.specs.ProcessorRefusals.{processor_refusal_is_waiting, processor_refusal_or_spent}
use Rattle.cluster.specs.TakingCalls.{IsTakingCall, taking_call_added}
use Rattle.cluster.specs.WaitingCalls.{IsWaitingCall}
use Rattle.cluster.specs.declared.waited.Waited.{Waited}
use Rattle.seats.specs.declared.fault.SeatFault.{SeatFault}
use Rattle.seats.specs.declared.fault.SeatFault.TheVariants as fault
use Rattle.seats.specs.SeatCalls.{SeatCallsBesides, SeatCallsInside, IsSeatCallBegun, HasDone, IsSeatCallTaken, IsLeftUndone, IsSeatCallUndone, SeatCallWaitsStill, seat_call_and_answer, seat_calls_held_through, seat_call_answer}
use Rattle.seats.proofs.SeatAccess.{seat_access_besides, seat_access_besides_then, seat_access_inside_then, seat_access_undone_refused}

-- what it waits for
pub seat_closing_waits_for : (m : Local) → processor_refusal_is_waiting m ≡ true → (last : Kind) × (m.awaits ≡ Some last)
seat_closing_waits_for m is = by m.awaits refl is
  where
    by : (o : Option Kind) → m.awaits ≡ o → is_some o ≡ true → (last : Kind) × (m.awaits ≡ Some last)
    by (Some k) e i = (k, e)
    by None e i = absurd (cc)

-- or that it waits for nothing
pub seat_closing_waits_not : (m : Local) → processor_refusal_is_waiting m ≡ false → m.awaits ≡ None
seat_closing_waits_not m is = by m.awaits refl is
  where
    by : (o : Option Kind) → m.awaits ≡ o → is_some o ≡ false → m.awaits ≡ None
    by (Some k) e i = absurd (cc)
    by None e i = e

-- nothing done, and then nothing
pub seat_closing_undone_then : (l m n : Local) → IsSeatCallUndone l m → IsSeatCallUndone m n → IsSeatCallUndone l n
seat_closing_undone_then l m n first next = record {
  inside = seat_access_inside_then l m n [] [] first.inside next.inside;
  block_is = next.block_is ∙ first.block_is;
}

-- whatever is answered
pub seat_closing_undone_by : {B E : Type 0} (m n : Local) (q : Result B E) → IsSeatCallUndone m n → OnErr q (IsSeatCallUndone m n)
seat_closing_undone_by m n (Ok y) undone = tt
seat_closing_undone_by m n (Err e) undone = undone

-- a processor that is as it was
pub seat_closing_undone_same : (m n : Local) → n ≡ m → SeatCallsInside m n [] → IsSeatCallUndone m n
seat_closing_undone_same m n e inside = record { inside = inside; block_is = ap (λ (x : Local). x.block) e }

-- a processor whose take came to nothing
pub seat_closing_waits_still : {B E : Type 0} (m n : Local) (q : Result B E) (last : Kind) → m.awaits ≡ Some last → OnErr q (IsSeatCallUndone m n)
    → OnErr q (SeatCallWaitsStill m n)
seat_closing_waits_still m n (Ok y) last is none = tt
seat_closing_waits_still m n (Err e) last is undone = record { undone = undone; last = last; awaits_is = is }

-- the events that a take adds
seat_closing_taken_events : (p : ℕ) (o : Option Kind) → taking_call_added p o ≡ map (event p) (seat_call_answer o)
seat_closing_taken_events p None = refl
seat_closing_taken_events p (Some k) = refl

-- a take of what has come
pub seat_closing_taken : {A : Type 0} (m n : Local) (r : Result A Refused) {x : A} → r ≡ Ok x → IsTakingCall m n (result_err r)
    → IsSeatCallTaken m n
seat_closing_taken {A} m n r {x} is call =
    let done = call.ok (rw is refl) in
    let taken = done.0.after in
    record {
      besides = seat_access_besides m n (seat_call_answer m.awaits) call.same
          (done.2 ∙ ap (λ es. calls m ++ es) (seat_closing_taken_events m.number m.awaits)) call.uncut call.covers call.allowed;
      held_is = ap (λ (l : Local). l.held) taken.after
          ∙ ap (λ o. seat_calls_held_through (seat_call_answer o) m.held) (sym taken.waits);
      idle = ap (λ (l : Local). l.awaits) taken.after;
      block_is = ap (λ (l : Local). l.block) taken.after;
    }

-- or one that was refused
pub seat_closing_undone_take : {A : Type 0} (m n : Local) (r : Result A Refused) {e : Refused} → r ≡ Err e → IsTakingCall m n (result_err r)
    → IsSeatCallUndone m n
seat_closing_undone_take {A} m n r {e} is call =
    seat_access_undone_refused m n e (subst (λ (x : Result A Refused). IsTakingCall m n (result_err x)) is call)

-- a processor that awaits nothing has taken it
pub seat_closing_taken_none : (m : Local) → m.awaits ≡ None → SeatCallsInside m m [] → IsSeatCallTaken m m
seat_closing_taken_none m none inside = record {
  besides = subst (λ o. SeatCallsBesides m m (seat_call_answer o)) (sym none) inside.besides;
  held_is = ap (λ o. seat_calls_held_through (seat_call_answer o) m.held) (sym none);
  idle = none;
  block_is = refl;
}

-- a take after some that came too early
pub seat_closing_taken_after : (l m n : Local) → IsSeatCallUndone l m → IsSeatCallTaken m n → IsSeatCallTaken l n
seat_closing_taken_after l m n first took = record {
  besides = subst (λ o. SeatCallsBesides l n (seat_call_answer o)) first.inside.awaits_is
      (seat_access_besides_then l m n [] (seat_call_answer m.awaits) first.inside.besides took.besides);
  held_is = took.held_is ∙ ap (λ o. seat_calls_held_through (seat_call_answer o) m.held) first.inside.awaits_is
      ∙ ap (λ h. seat_calls_held_through (seat_call_answer l.awaits) h) first.inside.held_is;
  idle = took.idle;
  block_is = took.block_is ∙ first.block_is;
}

-- a wait, whatever it answers
pub seat_closing_undone_wait : (m n : Local) (answer : Result Waited Refused) → IsWaitingCall m n answer → IsSeatCallUndone m n
seat_closing_undone_wait m n answer call = record {
  inside = record {
    besides = seat_access_besides m n []
        (record {
          lock = ap (λ (x : Local). x.lock) call.kept;
          number = ap (λ (x : Local). x.number) call.kept;
          sizes = ap (λ (x : Local). x.sizes) call.kept;
        })
        (call.calls_are ∙ sym (append-nil (calls m))) (ap (λ (x : Local). x.own_cut) call.kept) call.covers call.allowed;
    held_is = ap (λ (x : Local). x.held) call.kept;
    awaits_is = ap (λ (x : Local). x.awaits) call.kept;
  };
  block_is = ap (λ (x : Local). x.block) call.kept;
}

-- what begins a wait changes no lock
seat_closing_begun_held : (k last : Kind) (held : List Bool) → awaited_next k ≡ Some last → locks_held_after_news k held ≡ held
seat_closing_begun_held (Load a v) last held e = absurd (cc)
seat_closing_begun_held (Store a v) last held e = absurd (cc)
seat_closing_begun_held (Fetch w n r d) last held e = absurd (cc)
seat_closing_begun_held (Ask l) last held e = refl
seat_closing_begun_held (Acquire l) last held e = absurd (cc)
seat_closing_begun_held (Release l) last held e = absurd (cc)
seat_closing_begun_held Arrive last held e = refl
seat_closing_begun_held Depart last held e = absurd (cc)
seat_closing_begun_held (Set f) last held e = absurd (cc)
seat_closing_begun_held (Watch f) last held e = refl
seat_closing_begun_held (Await f) last held e = absurd (cc)

module _ {A : Type 0} (test : Option Refused) (k : Kind) (l m : Local) (r : Result A Refused) {x : A} (is : r ≡ Ok x)
    (call : IsClosingCall test k l m (result_err r)) where
  seat_closing_awaits_after : m.awaits ≡ awaited_next k
  seat_closing_awaits_after = ap (λ (y : Local). y.awaits) (call.ok (rw is refl)).0.after

  seat_closing_held_then_after : m.held ≡ locks_held_after_news k l.held
  seat_closing_held_then_after = ap (λ (y : Local). y.held) (call.ok (rw is refl)).0.after

  seat_closing_block_after : m.block ≡ []
  seat_closing_block_after = ap (λ (y : Local). y.block) (call.ok (rw is refl)).0.after

  seat_closing_calls : SeatCallsBesides l m (k ∷ [])
  seat_closing_calls = seat_access_besides l m (k ∷ []) call.same (call.ok (rw is refl)).2 call.uncut call.covers call.allowed

  -- the call was made, and what it waits for was taken
  seat_closing_done : (n : Local) → IsSeatCallTaken m n → HasDone l n (seat_call_and_answer k)
  seat_closing_done n took = record {
    besides = subst (λ o. SeatCallsBesides l n (k ∷ seat_call_answer o)) seat_closing_awaits_after
        (seat_access_besides_then l m n (k ∷ []) (seat_call_answer m.awaits) seat_closing_calls took.besides);
    held_is = took.held_is ∙ ap (λ o. seat_calls_held_through (seat_call_answer o) m.held) seat_closing_awaits_after
        ∙ ap (λ h. seat_calls_held_through (seat_call_answer (awaited_next k)) h) seat_closing_held_then_after;
    idle = took.idle;
    handed = took.block_is ∙ seat_closing_block_after;
  }

  -- or it waits still
  seat_closing_begun : (n : Local) → SeatCallWaitsStill m n → IsSeatCallBegun l n k
  seat_closing_begun n still =
      let ends : awaited_next k ≡ Some still.last = sym seat_closing_awaits_after ∙ still.awaits_is in
      record {
        besides = seat_access_besides_then l m n (k ∷ []) [] seat_closing_calls still.undone.inside.besides;
        held_is = still.undone.inside.held_is ∙ seat_closing_held_then_after ∙ seat_closing_begun_held k still.last l.held ends;
        last = still.last;
        ends = ends;
        awaits_is = still.undone.inside.awaits_is ∙ still.awaits_is;
      }

  -- by what ended the wait
  pub seat_closing_done_by : {B E : Type 0} (n : Local) (q : Result B E) → OnOk q (IsSeatCallTaken m n) → OnOk q (HasDone l n (seat_call_and_answer k))
  seat_closing_done_by n (Ok y) took = seat_closing_done n took
  seat_closing_done_by n (Err e) none = tt

  pub seat_closing_left_by : {B E : Type 0} (n : Local) (q : Result B E) → OnErr q (SeatCallWaitsStill m n) → OnErr q (IsLeftUndone l n k)
  seat_closing_left_by n (Ok y) none = tt
  seat_closing_left_by n (Err e) still = inr (seat_closing_begun n still)

  pub seat_closing_begun_by : {B E : Type 0} (n : Local) (q : Result B E) → OnErr q (SeatCallWaitsStill m n) → OnErr q (IsSeatCallBegun l n k)
  seat_closing_begun_by n (Ok y) none = tt
  seat_closing_begun_by n (Err e) still = seat_closing_begun n still

  -- what was made wasn't refused at once
  pub seat_closing_not_at_once : {P : Type 0} (e : Refused) → processor_refusal_or_spent test l ≡ Some e → P
  seat_closing_not_at_once e due =
      let out : result_err r ≡ Some e = (call.outside e due).0 in
      let none : result_err r ≡ None = rw is refl in
      absurd (let some : None ≡ Some e = sym none ∙ out in cc)

module _ {A : Type 0} (test : Option Refused) (k : Kind) (l m : Local) (r : Result A Refused) {e : Refused} (is : r ≡ Err e)
    (call : IsClosingCall test k l m (result_err r)) where
  -- it was refused
  pub seat_closing_undone : IsSeatCallUndone l m
  seat_closing_undone = seat_access_undone_refused l m e (subst (λ (y : Result A Refused). IsClosingCall test k l m (result_err y)) is call)

  -- for the reason that is due at once, if there is one
  pub seat_closing_refused_at_once : {B : Type 0} (d : Refused) (q : Result B SeatFault) → q ≡ Err (fault.Refused e)
      → processor_refusal_or_spent test l ≡ Some d → (q ≡ Err (fault.Refused d)) × (m ≡ l)
  seat_closing_refused_at_once d q answers due =
      let out = call.outside d due in
      let some : result_err r ≡ Some e = rw is refl in
      let same : e ≡ d = same_Some e d (sym some ∙ out.0) in
      (answers ∙ ap (λ x. Err (fault.Refused x)) same, out.1)
