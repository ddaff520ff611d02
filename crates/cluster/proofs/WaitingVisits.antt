-- A call that waits.
use Rattle.std.proofs.Common.{◌≡◌, ◌≢◌, ◌↔◌, true, is_some, Result, Ok, Err, Option, Some, None, List, ◌++◌, refl, sym, ap, subst, ◌∙◌}
use Rattle.std.specs.Result.{IsErrAnd}
use Rattle.journal.specs.declared.event.Event.{Event}
use Rattle.journal.specs.Deadlocks.{IsDeadlock}
use Rattle.journal.specs.Sizes.{Sizes}
use Rattle.journal.specs.WellFormed.{Ready}
use Rattle.turn.specs.declared.chair.ChairToken.{ChairToken}
use Rattle.book.specs.BookState.{BookState}
use Rattle.book.specs.RepresentedHistory.{Represents}
use Rattle.book.specs.declared.refused.Refused.{Refused}
use Rattle.book.specs.declared.refused.Refused.TheVariants.{SeatSpent}
use Rattle.cluster.specs.Copies.Local.{Local}
use Rattle.cluster.specs.Copies.Sound.{IsSound}
use Rattle.cluster.specs.declared.keeper.View.{View}
use Rattle.cluster.specs.declared.waited.Waited.{Waited}
use Rattle.cluster.specs.declared.waited.Waited.TheVariants.{MayHaveCome, Stuck, Deserted}
use Rattle.cluster.specs.KeptViews.{view_having_seen}
use Rattle.cluster.specs.ProcessorRefusals.{processor_refusal_of_flush}
use Rattle.cluster.specs.WaitingCalls.{IsWaitingCall}
use Rattle.cluster.proofs.CoveringHistories.{covers}
use Rattle.cluster.proofs.EndedCalls.{ended_call_copies_alike, ended_call_free_of, ended_call_not_spent, ended_call_seat_spent, ended_call_unchanged_is, ended_call_seen, ended_call_keeps_calls, ended_call_allowed, ended_call_sound}
use Rattle.cluster.proofs.Visiting.{Visit, visiting_processor_on}

-- what is there is something
pub waiting_visit_awaited : {A : Type 0} (o : Option A) → is_some o ≡ true → (x : A) × (o ≡ Some x)
waiting_visit_awaited None h = absurd (cc)
waiting_visit_awaited (Some x) h = (x, refl)

-- what a `?` answers
pub waiting_visit_answered_with : {A : Type 0} (r : Result A Refused) (e : Refused) → IsErrAnd r (λ d. d ≡ e) → r ≡ Err e
waiting_visit_answered_with (Ok a) e h = absurd h
waiting_visit_answered_with (Err d) e h = ap (λ (x : Refused). Err x) h

-- who awaits nothing
pub waiting_visit_idle : {m : Local} → IsSound m → m.awaits ≡ None → IsWaitingCall m m (Ok MayHaveCome)
waiting_visit_idle {m} sound none = record {
  kept = refl;
  idle = λ _. (refl, refl);
  outside = λ waits. absurd (waits none);
  looked = λ waits. absurd (waits none);
  stuck = λ is. absurd (cc is);
  deserted = λ is. absurd (cc is);
  calls_are = refl;
  covers = covers m sound;
  allowed = λ h. h;
}

-- who has entered as often as it may
pub waiting_visit_spent : {m : Local} → IsSound m → m.awaits ≢ None → m.entries ≡ m.lock.limit
    → IsWaitingCall m m (Err SeatSpent)
waiting_visit_spent {m} sound waits all = record {
  kept = refl;
  idle = λ none. absurd (waits none);
  outside = λ _ e there. (let same : ◌≡◌ {A = Option Refused} (Some SeatSpent) (Some e) = sym (ended_call_seat_spent m all) ∙ there in cc same, refl);
  looked = λ _ free. absurd (ended_call_free_of (processor_refusal_of_flush m) SeatSpent free (ended_call_seat_spent m all));
  stuck = λ is. absurd (cc is);
  deserted = λ is. absurd (cc is);
  calls_are = refl;
  covers = covers m sound;
  allowed = λ h. h;
}

-- who looked
pub waiting_visit_looked : {m : Local} {b : BookState} {after : ChairToken BookState View} (v : Visit m b b after) → m.awaits ≢ None
    → (w : Waited) → ((s : Sizes) (h : List Event) → Represents s h b → w ≡ Stuck ↔ IsDeadlock s h)
    → ((s : Sizes) (h : List Event) → Represents s h b → w ≡ Deserted → ¬ Ready s h m.number)
    → IsWaitingCall m (visiting_processor_on after m) (Ok w)
waiting_visit_looked {m} {b} {after} v waits w stuck deserted =
    let alike = ended_call_copies_alike m.copies in
    let now = visiting_processor_on after m in
    let is = ended_call_unchanged_is v m.copies alike in
    let history = m.seen ++ v.finds.rest in
    let told = v.finds.kept.told in
    let seen = ended_call_seen v m.copies alike in
    let Keeps : Local → Type 0 = λ n. n ≡ record m { entries = n.entries; seen = n.seen; cut = n.cut } in
    let P : List Event → Type 0 = λ h. w ≡ Stuck ↔ IsDeadlock m.sizes h in
    let exact = subst P (sym seen) (stuck m.sizes history told) in
    let Q : List Event → Type 0 = λ h. w ≡ Deserted → ¬ Ready m.sizes h m.number in
    let late = subst Q (sym seen) (deserted m.sizes history told) in
    record {
      kept = subst Keeps (sym is) refl;
      idle = λ none. absurd (waits none);
      outside = λ _ e there. absurd (ended_call_free_of (processor_refusal_of_flush m) e (ended_call_not_spent v) there);
      looked = λ _ _. record {
        entered = record {
          rest = v.finds.rest;
          away = v.finds.away;
          cut = b.journal.base.cut;
          more = v.finds.kept.behind m.number (view_having_seen m.sizes m.seen m.cut m.own_cut) v.finds.at;
          after = is;
        };
        ok = refl;
        exact = λ dead. ap (λ (x : Waited). Ok x) (exact.1 dead);
      };
      stuck = λ said. exact.0 (cc said);
      deserted = λ said. late (cc said);
      calls_are = ended_call_keeps_calls v m.copies alike;
      covers = covers now (ended_call_sound v m.copies alike);
      allowed = λ _. ended_call_allowed v m.copies alike;
    }
