-- What may come next may come next in the lax sense; and where a reason is true, an event may not.
use Rattle.std.proofs.Common.{◌≡◌, ℕ, inl, inr, List, take, Some, IsTrue, true, false, subst, sym, refl, ◌∙◌, arith}
use Rattle.std.proofs.lemmas.Bool.{false≢true}
use Rattle.std.proofs.lemmas.Option.{same_Some, none-some}
use Rattle.journal.specs.declared.event.Event.{Event}
use Rattle.journal.specs.declared.event.Kind.{Kind}
use Rattle.journal.specs.declared.event.Kind.TheVariants.{Ask, Acquire, Arrive, Depart, Watch, Await}
use Rattle.journal.specs.Sizes.{Sizes}
use Rattle.journal.specs.Events.{event_takes}
use Rattle.journal.specs.WellFormed.{WellFormedAllows, WellFormedAnswer, WellFormedNext}
use Rattle.journal.specs.AwaitedNext.{awaited_next}
use Rattle.journal.proofs.Journals.WellFormedStays.{well_formed_stays_last_unique}
use Rattle.judge.specs.declared.why.Why.{Why}
use Rattle.judge.specs.declared.why.Why.TheVariants.{NoSuchProcessor, OutOfRange, Waits, AsksWhatItHolds, NotAsked}
use Rattle.judge.specs.declared.why.Why.TheVariants.{HeldBy, AskedEarlier, NotHeld, NotArrived, NotSet}
use Rattle.judge.specs.LaxWellFormed.{LaxAllowed, LaxLaw, LaxMayFollow}
use Rattle.judge.specs.Why.{IsWhy, WhyMayTake, WhyWaitsFor, WhyLaw}

-- what is allowed is so in the lax sense
pub refusing_lax_allowed : (s : Sizes) (j : List Event) (p : ℕ) (k : Kind) → WellFormedAllows s j p k → LaxAllowed s j p k
refusing_lax_allowed s j p (Acquire l) a = a.2.free
refusing_lax_allowed s j p (Await f) a = (a.1, a.2, a.4)
refusing_lax_allowed s j p _ a = a

pub refusing_may_lax : (s : Sizes) (j : List Event) (e : Event) → WellFormedNext s j e → LaxMayFollow s j e
refusing_may_lax s j e m = record {
  processor = m.processor;
  in_range = m.in_range;
  answers = m.answers;
  allowed = refusing_lax_allowed s j e.processor e.kind m.allowed;
}

pub refusing_lax_law : LaxLaw
refusing_lax_law s j well k e at = refusing_may_lax s (take k j) e (well k e at)

-- what answers a call is what it waits for
refusing_answers_kind : (a k b : Kind) → awaited_next a ≡ Some k → WellFormedAnswer a b → b ≡ k
refusing_answers_kind (Ask l) k b waits is = is ∙ same_Some (Acquire l) k waits
refusing_answers_kind Arrive k b waits is = is ∙ same_Some Depart k waits
refusing_answers_kind (Watch f) k b waits is = is ∙ same_Some (Await f) k waits
refusing_answers_kind _ k b waits is = absurd (none-some k waits)

-- who may take waits for that, or, lax, needs not
refusing_waits_taking : (s : Sizes) (j : List Event) (p : ℕ) (k : Kind) → IsTrue (event_takes k) → WellFormedAllows s j p k
    → WhyWaitsFor j p k
refusing_waits_taking s j p (Acquire l) takes a = record { place = a.0; kind = Ask l; last = a.1; awaits = refl }
refusing_waits_taking s j p Depart takes a = record { place = a.0; kind = Arrive; last = a.1; awaits = refl }
refusing_waits_taking s j p (Await f) takes a = record { place = a.0; kind = Watch f; last = a.3; awaits = refl }
refusing_waits_taking s j p _ takes a = absurd (false≢true takes)

refusing_may_take : (s : Sizes) (j : List Event) (p : ℕ) (k : Kind) → IsTrue (event_takes k) → LaxAllowed s j p k
    → WhyMayTake true j p k
refusing_may_take s j p (Acquire l) takes a = inr (refl, refl)
refusing_may_take s j p Depart takes a = inl (record { place = a.0; kind = Arrive; last = a.1; awaits = refl })
refusing_may_take s j p (Await f) takes a = inr (refl, refl)
refusing_may_take s j p _ takes a = absurd (false≢true takes)

-- where a reason other than the order of asks is true
refuses_lax : (s : Sizes) (j : List Event) (e : Event) (w : Why) → IsWhy true s j e w → ¬ LaxMayFollow s j e
refuses_lax s j e NoSuchProcessor is m = let lt = m.processor in omega arith
refuses_lax s j e OutOfRange is m = is m.in_range
refuses_lax s j e (Waits k) is m =
    is.1 (refusing_answers_kind is.0.kind k e.kind is.0.awaits (m.answers is.0.place is.0.kind is.0.last))
refuses_lax s j e AsksWhatItHolds is m = subst (LaxAllowed s j e.processor) is.1 m.allowed is.2
refuses_lax s j e NotAsked is m = is.1 (refusing_may_take s j e.processor e.kind is.0 m.allowed)
refuses_lax s j e (HeldBy q) is m = subst (LaxAllowed s j e.processor) is.1 m.allowed q is.2
refuses_lax s j e (AskedEarlier q i) is m = false≢true (sym is.3)
refuses_lax s j e NotHeld is m = is.2 (subst (LaxAllowed s j e.processor) is.1 m.allowed)
refuses_lax s j e (NotArrived q) is m =
    let a = subst (LaxAllowed s j e.processor) is.0 m.allowed in
    let enough = a.2 q is.1 in
    let few = is.2 in
    omega arith
refuses_lax s j e NotSet is m =
    let a = subst (LaxAllowed s j e.processor) is.1 m.allowed in is.2 a.0 a.1 a.2

-- where any reason is
refuses : (s : Sizes) (j : List Event) (e : Event) (w : Why) → IsWhy false s j e w → ¬ WellFormedNext s j e
refuses s j e (AskedEarlier q i) is m =
    let a = subst (WellFormedAllows s j e.processor) is.1 m.allowed in
    let one = well_formed_stays_last_unique j e.processor a.0 is.2.place (Ask is.0) (Ask is.0) a.1 is.2.asked in
    let before = is.2.before in
    a.2.first i q (omega (arith, one.0)) is.2.earlier
refuses s j e NotAsked is m = is.1 (inl (refusing_waits_taking s j e.processor e.kind is.0 m.allowed))
refuses s j e w is m = refuses_lax s j e w is (refusing_may_lax s j e m)

pub refusing_why_law : WhyLaw
refusing_why_law true s j e w is = refuses_lax s j e w is
refusing_why_law false s j e w is = refuses s j e w is
