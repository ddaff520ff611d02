-- When a processor's next event may come, by what it waits for.
use Rattle.std.proofs.Common.{◌≡◌, ◌≢◌, ℕ, ◌+◌, ◌<◌, ◌≤◌, ◌↔◌, List, Option, Some, Bool, IsTrue, false, subst, sym, refl, ◌∙◌}
use Rattle.std.specs.Prelude.{None}
use Rattle.std.proofs.lemmas.Bool.{false≢true}
use Rattle.std.proofs.lemmas.Option.{none-some, same_Some}
use Rattle.journal.specs.declared.event.Event.{Event}
use Rattle.journal.specs.declared.event.Kind.{Kind}
use Rattle.journal.specs.declared.event.Kind.TheVariants.{Ask, Acquire, Release, Arrive, Depart, Watch, Await}
use Rattle.journal.specs.DidEvent.{event}
use Rattle.journal.specs.Sizes.{Sizes}
use Rattle.journal.specs.Events.{event_count, event_arrives, event_departs, event_takes}
use Rattle.journal.specs.AwaitedNext.{awaited_next}
use Rattle.journal.specs.WellFormed.{WellFormedAllows, WellFormedAnswer, WellFormedKindInRange, LastIs, WellFormedGrant, WellFormedNext}
use Rattle.journal.proofs.Journals.WellFormedStays.{well_formed_stays_last_unique}
use Rattle.journal.proofs.Journals.MayGoOn.{may_go_on_awaited_answers, may_go_on_idle_answers, may_go_on_waiting_for}
use Rattle.judge.specs.FrontTells.{FrontTellsFlagSet}
use Rattle.judge.specs.Why.{WhyWaitsFor}
use Rattle.judge.proofs.Verdicts.{verdict_quiet_kind, verdict_waits_takes}
use Rattle.explore.proofs.Asked.{waits_asks}

-- a lock that is waited for
pub enabled_acquire : (s : Sizes) (j : List Event) (p l : ℕ) (b : Bool) → WhyWaitsFor j p (Acquire l)
    → ((i : ℕ) → LastIs j p i (Ask l) → IsTrue b ↔ WellFormedGrant j i l) → IsTrue b ↔ WellFormedAllows s j p (Acquire l)
enabled_acquire s j p l b waits is =
    let asks = waits_asks j p l waits in (
      λ yes. (asks.0, asks.1, (is asks.0 asks.1).0 yes),
      λ may. (is may.0 may.1).1 may.2,
    )

-- a departure after one's arrival
pub enabled_depart_awaited : (a : Kind) → awaited_next a ≡ Some Depart → a ≡ Arrive
enabled_depart_awaited (Ask m) is = absurd cc
enabled_depart_awaited Arrive is = refl
enabled_depart_awaited (Watch f) is = absurd cc
enabled_depart_awaited _ is = absurd (none-some Depart is)

pub enabled_depart : (s : Sizes) (j : List Event) (p n : ℕ) (b : Bool) → s.processors ≡ n → WhyWaitsFor j p Depart
    → IsTrue b ↔ ((q : ℕ) → q < n → event_count event_departs j p + 1 ≤ event_count event_arrives j q)
    → IsTrue b ↔ WellFormedAllows s j p Depart
enabled_depart s j p n b many waits is =
    let last = subst (LastIs j p waits.place) (enabled_depart_awaited waits.kind waits.awaits) waits.last in (
      λ yes. (waits.place, last, λ q lt. is.0 yes q (subst (λ m. q < m) many lt)),
      λ may. is.1 (λ q lt. may.2 q (subst (λ m. q < m) (sym many) lt)),
    )

-- a flag that is watched
pub enabled_await_awaited : (a : Kind) (f : ℕ) → awaited_next a ≡ Some (Await f) → a ≡ Watch f
enabled_await_awaited (Ask m) f is = absurd cc
enabled_await_awaited Arrive f is = absurd cc
enabled_await_awaited (Watch g) f is = cc
enabled_await_awaited _ f is = absurd (none-some (Await f) is)

pub enabled_await : (s : Sizes) (j : List Event) (p f : ℕ) (b : Bool) → WhyWaitsFor j p (Await f)
    → IsTrue b ↔ FrontTellsFlagSet j f → IsTrue b ↔ WellFormedAllows s j p (Await f)
enabled_await s j p f b waits is =
    let last = subst (LastIs j p waits.place) (enabled_await_awaited waits.kind f waits.awaits) waits.last in (
      λ yes. let set = is.0 yes in (waits.place, set.0, set.1, last, set.2),
      λ may. is.1 (may.1, may.2, may.4),
    )

-- nothing else is waited for
pub enabled_otherwise_unawaited : (j : List Event) (p : ℕ) (k : Kind) → ((l : ℕ) → k ≢ Acquire l) → k ≢ Depart
    → ((f : ℕ) → k ≢ Await f) → ¬ WhyWaitsFor j p k
enabled_otherwise_unawaited j p k acquires departs awaits waits =
    false≢true (sym (verdict_quiet_kind k acquires departs awaits) ∙ verdict_waits_takes j p k waits)

-- what a processor is allowed to take it waits for
pub enabled_taking_is_awaited : (s : Sizes) (j : List Event) (p : ℕ) (k : Kind) → IsTrue (event_takes k) → WellFormedAllows s j p k
    → WhyWaitsFor j p k
enabled_taking_is_awaited s j p k takes allowed =
    let w = may_go_on_waiting_for s j p k takes allowed in
    record { place = w.place; kind = w.call; last = w.last; awaits = w.awaits }

-- other calls of a processor that waits for nothing are allowed
pub enabled_quiet_call : (s : Sizes) (j : List Event) (p : ℕ) (k : Kind) → ((l : ℕ) → k ≢ Ask l) → ((l : ℕ) → k ≢ Release l)
    → event_takes k ≡ false → WellFormedAllows s j p k
enabled_quiet_call s j p (Ask l) asks releases quiet = absurd (asks l refl)
enabled_quiet_call s j p (Release l) asks releases quiet = absurd (releases l refl)
enabled_quiet_call s j p (Acquire l) asks releases quiet = absurd (false≢true (sym quiet))
enabled_quiet_call s j p Depart asks releases quiet = absurd (false≢true (sym quiet))
enabled_quiet_call s j p (Await f) asks releases quiet = absurd (false≢true (sym quiet))
enabled_quiet_call s j p _ asks releases quiet = tt

-- what answers a call is what its processor waits for
enabled_answer_is_awaited : (a k b : Kind) → awaited_next a ≡ Some k → WellFormedAnswer a b → k ≡ b
enabled_answer_is_awaited (Ask l) k b waits is = sym (is ∙ same_Some (Acquire l) k waits)
enabled_answer_is_awaited Arrive k b waits is = sym (is ∙ same_Some Depart k waits)
enabled_answer_is_awaited (Watch f) k b waits is = sym (is ∙ same_Some (Await f) k waits)
enabled_answer_is_awaited _ k b waits is = absurd (none-some k waits)

-- a processor that waits does nothing else
pub enabled_only_awaited : (s : Sizes) (j : List Event) (p : ℕ) (k b : Kind) → WhyWaitsFor j p k → WellFormedNext s j (event p b) → k ≡ b
enabled_only_awaited s j p k b waits may = enabled_answer_is_awaited waits.kind k b waits.awaits (may.answers waits.place waits.kind waits.last)

-- it may go on exactly where that is allowed
pub enabled_waiting_may_follow : (s : Sizes) (j : List Event) (p : ℕ) (k : Kind) → p < s.processors → WellFormedKindInRange s k
    → WhyWaitsFor j p k → WellFormedAllows s j p k ↔ WellFormedNext s j (event p k)
enabled_waiting_may_follow s j p k within range waits = (
  λ allowed. record {
    processor = within;
    in_range = range;
    answers = λ i a last. subst (λ x. WellFormedAnswer x k) (well_formed_stays_last_unique j p waits.place i waits.kind a waits.last last).1
        (may_go_on_awaited_answers waits.kind k waits.awaits);
    allowed = allowed;
  },
  λ may. may.allowed,
)

-- and one that waits for nothing, too
pub enabled_idle_may_follow : (s : Sizes) (j : List Event) (p : ℕ) (k : Kind) → p < s.processors → WellFormedKindInRange s k
    → ((b : Kind) → ¬ WhyWaitsFor j p b) → WellFormedAllows s j p k ↔ WellFormedNext s j (event p k)
enabled_idle_may_follow s j p k within range idle = (
  λ allowed. record {
    processor = within;
    in_range = range;
    answers = λ i a last. may_go_on_idle_answers a k (none (awaited_next a) i a refl last);
    allowed = allowed;
  },
  λ may. may.allowed,
)
  where
    none : (o : Option Kind) (i : ℕ) (a : Kind) → awaited_next a ≡ o → LastIs j p i a → awaited_next a ≡ None
    none None i a is last = is
    none (Some b) i a is last = absurd (idle b (record { place = i; kind = a; last = last; awaits = is }))
