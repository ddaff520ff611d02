-- When a waiting processor may go on, and what else keeps a journal well formed.
use Rattle.std.proofs.Common.{◌≡◌, ℕ, ◌<◌, List, [], ◌∷◌, ◌++◌, length, false, IsTrue, Some, None, subst, sym, refl, ap, append_assoc, append-nil}
use Rattle.std.proofs.lemmas.Option.{same_Some}
use Rattle.journal.specs.declared.event.Event.{Event}
use Rattle.journal.specs.declared.event.Kind.{Kind}
use Rattle.journal.specs.declared.event.Kind.TheVariants.{Load, Store, Fetch, Ask, Acquire, Arrive, Depart, Watch, Await}
use Rattle.journal.specs.DidEvent.{event}
use Rattle.journal.specs.Sizes.{Sizes}
use Rattle.journal.specs.Events.{EventAt, event_takes, event_closes}
use Rattle.journal.specs.WellFormed.{WellFormedKindInRange, LastIs, WellFormedAnswer, WellFormedAllows, WellFormedNext, WellFormed}
use Rattle.journal.specs.AwaitedNext.{awaited_next, AwaitsNothingNext}
use Rattle.base.proofs.SlicesAndCounts.{slice_push_induction}
use Rattle.journal.proofs.Order.EventPlacesAndCounts.{event_place_longer, event_place_at_end}
use Rattle.journal.proofs.Journals.WellFormedStays.{well_formed_stays_push, well_formed_stays_last_unique, well_formed_stays_last_now}

-- what is awaited is what answers
pub may_go_on_awaited_answers : (a k : Kind) → awaited_next a ≡ Some k → WellFormedAnswer a k
may_go_on_awaited_answers (Ask l) k h = sym (same_Some (Acquire l) k h)
may_go_on_awaited_answers Arrive k h = sym (same_Some Depart k h)
may_go_on_awaited_answers (Watch f) k h = sym (same_Some (Await f) k h)
may_go_on_awaited_answers _ k h = tt

-- after a call that doesn't wait comes anything
pub may_go_on_idle_answers : (a k : Kind) → awaited_next a ≡ None → WellFormedAnswer a k
may_go_on_idle_answers (Ask l) k h = absurd cc
may_go_on_idle_answers Arrive k h = absurd cc
may_go_on_idle_answers (Watch f) k h = absurd cc
may_go_on_idle_answers _ k h = tt

-- p's last event waits for this, and its numbers are in range where that one's are
pub record MayGoOnWaitingFor (s : Sizes) (j : List Event) (p : ℕ) (k : Kind) : Type 0 where
  pub place : ℕ
  pub call : Kind
  pub last : LastIs j p place call
  pub awaits : awaited_next call ≡ Some k
  pub in_range : WellFormedKindInRange s call → WellFormedKindInRange s k

-- what a processor is allowed to take it waits for
pub may_go_on_waiting_for : (s : Sizes) (j : List Event) (p : ℕ) (k : Kind) → IsTrue (event_takes k) → WellFormedAllows s j p k
    → MayGoOnWaitingFor s j p k
may_go_on_waiting_for s j p (Acquire l) h a = record { place = a.0; call = Ask l; last = a.1; awaits = refl; in_range = λ r. r }
may_go_on_waiting_for s j p Depart h a = record { place = a.0; call = Arrive; last = a.1; awaits = refl; in_range = λ r. tt }
may_go_on_waiting_for s j p (Await f) h a = record { place = a.0; call = Watch f; last = a.3; awaits = refl; in_range = λ r. r }
may_go_on_waiting_for s j p _ h a = absurd cc

-- what a processor is allowed to take may follow
pub may_go_on_taking : (s : Sizes) (j : List Event) (p : ℕ) (k : Kind) → WellFormed s j → IsTrue (event_takes k)
    → WellFormedAllows s j p k → WellFormedNext s j (event p k)
may_go_on_taking s j p k well taking allowed =
    let w = may_go_on_waiting_for s j p k taking allowed in
    let call = well w.place (event p w.call) w.last.does in
    record {
      processor = call.processor;
      in_range = w.in_range call.in_range;
      answers =
          λ i b last. subst (λ a. WellFormedAnswer a k) (well_formed_stays_last_unique j p w.place i w.call b w.last last).1
          (may_go_on_awaited_answers w.call k w.awaits);
      allowed = allowed;
    }

-- of an idle processor what is in range and allowed may follow
pub may_go_on_idle : (s : Sizes) (j : List Event) (p : ℕ) (k : Kind) → p < s.processors → AwaitsNothingNext j p → WellFormedKindInRange s k
    → WellFormedAllows s j p k → WellFormedNext s j (event p k)
may_go_on_idle s j p k within idle range allowed =
    record {
      processor = within;
      in_range = range;
      answers = λ i a last. may_go_on_idle_answers a k (idle i a last);
      allowed = allowed;
    }

may_go_on_quiet_allowed : (s : Sizes) (j : List Event) (p : ℕ) (k : Kind) → event_takes k ≡ false → event_closes k ≡ false
    → WellFormedAllows s j p k
may_go_on_quiet_allowed s j p (Load a v) h g = tt
may_go_on_quiet_allowed s j p (Store a v) h g = tt
may_go_on_quiet_allowed s j p (Fetch w n r d) h g = tt
may_go_on_quiet_allowed s j p _ h g = absurd cc

may_go_on_quiet_idle : (k : Kind) → event_closes k ≡ false → awaited_next k ≡ None
may_go_on_quiet_idle (Ask l) g = absurd cc
may_go_on_quiet_idle Arrive g = absurd cc
may_go_on_quiet_idle (Watch f) g = absurd cc
may_go_on_quiet_idle _ g = refl

-- p's event at place k of the block is a load, a store or a fetch, within the sizes
pub record MayGoOnPlainAt (s : Sizes) (p : ℕ) (e : Event) : Type 0 where
  pub mine : e.processor ≡ p
  pub takes : event_takes e.kind ≡ false
  pub closes : event_closes e.kind ≡ false
  pub in_range : WellFormedKindInRange s e.kind

-- loads, stores and fetches of an idle processor keep a journal well formed, and the processor idle
pub may_go_on_plain_block : (s : Sizes) (j block : List Event) (p : ℕ) → p < s.processors → WellFormed s j → AwaitsNothingNext j p
    → ((k : ℕ) (e : Event) → EventAt block k e → MayGoOnPlainAt s p e) → WellFormed s (j ++ block) × AwaitsNothingNext (j ++ block) p
may_go_on_plain_block s j block p within well idle =
    slice_push_induction
    (λ es. ((k : ℕ) (e : Event) → EventAt es k e → MayGoOnPlainAt s p e) → WellFormed s (j ++ es) × AwaitsNothingNext (j ++ es) p)
    start step block
  where
    start : ((k : ℕ) (e : Event) → EventAt [] k e → MayGoOnPlainAt s p e) → WellFormed s (j ++ []) × AwaitsNothingNext (j ++ []) p
    start plain = rw append-nil (well, idle)

    pushed : (es : List Event) (e : Event) → MayGoOnPlainAt s p e → WellFormed s es → AwaitsNothingNext es p
        → WellFormed s (es ++ e ∷ []) × AwaitsNothingNext (es ++ e ∷ []) p
    pushed es e x w i =
        let same : (event p e.kind) ≡ e = ap (λ q. event q e.kind) (sym x.mine) in
        let may =
        subst (λ f. WellFormedNext s es f) same
        (may_go_on_idle s es p e.kind within i x.in_range (may_go_on_quiet_allowed s es p e.kind x.takes x.closes)) in
        let last = subst (λ q. LastIs (es ++ e ∷ []) q (length es) e.kind) x.mine (well_formed_stays_last_now es e) in (
          (well_formed_stays_push s es e).1 (w, may),
          λ m a now. subst (λ b. awaited_next b ≡ None)
              (well_formed_stays_last_unique (es ++ e ∷ []) p (length es) m e.kind a last now).1 (may_go_on_quiet_idle e.kind x.closes),
        )

    step : (es : List Event) (e : Event)
        → (((k : ℕ) (f : Event) → EventAt es k f → MayGoOnPlainAt s p f) → WellFormed s (j ++ es) × AwaitsNothingNext (j ++ es) p)
        → ((k : ℕ) (f : Event) → EventAt (es ++ e ∷ []) k f → MayGoOnPlainAt s p f)
        → WellFormed s (j ++ (es ++ e ∷ [])) × AwaitsNothingNext (j ++ (es ++ e ∷ [])) p
    step es e ih plain =
        let old = ih (λ k f at. plain k f (event_place_longer es (e ∷ []) k f at)) in
        rw append_assoc at (pushed (j ++ es) e (plain (length es) e (event_place_at_end es e)) old.0 old.1)
