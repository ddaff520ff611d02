use Rattle.std.proofs.Common.{◌≡◌, ℕ, List, Option, Some, None, IfOk, MatchOption, IfSome, length, take, subst, ap, ◌∙◌}
use Rattle.std.proofs.Math.Seq.{take-length}
use Rattle.std.proofs.lemmas.Result.{IfOk-weaker}
use Rattle.journal.specs.declared.event.Event.{Event}
use Rattle.journal.specs.declared.event.Kind.TheVariants.{Load}
use Rattle.journal.specs.DidEvent.{event}
use Rattle.journal.specs.EventsInRange.{EventAddressesInRange}
use Rattle.journal.specs.Base.{Base}
use Rattle.journal.specs.ReplayMemory.{Replays}
use Rattle.journal.specs.ExplainedAnswersFromBase.{ExplainedFromBase}
use Rattle.journal.specs.RacesFromBase.{RaceFreeFromBase, IsFirstRaceFromBase}
use Rattle.journal.proofs.Flat.FlatBeforeRace.{flat_before_race_from_base}
use Rattle.journal.proofs.journal.Journal.first_race.Goals as goal

pub returns-clause-first : goal.returns-clause-first
returns-clause-first c =
    let log = c.args.self.now in
    let whole : take c.len.result log.events ≡ log.events =
    ap (λ n. take n log.events) c.len.ensures.value ∙ take-length log.events in
    subst (λ (xs : List Event). IfOk c.race_before.result
    (λ o. MatchOption o (RaceFreeFromBase log.base xs) (λ r. IsFirstRaceFromBase log.base xs r.0 r.1)))
    whole c.race_before.ensures.race

-- up to the second event of the first race an explained journal replays
flat_before : (b : Base) (events : List Event) → EventAddressesInRange (length b.memory) events → (o : Option (ℕ × ℕ))
    → MatchOption o (RaceFreeFromBase b events) (λ r. IsFirstRaceFromBase b events r.0 r.1)
    → IfSome o (λ r. ExplainedFromBase b events → Replays b.memory (take r.1 events))
flat_before b events in_range None h = tt
flat_before b events in_range (Some r) h =
    λ explained. flat_before_race_from_base b events r.0 r.1 (λ i p a v d. in_range i (event p (Load a v)) d) explained h

pub returns-clause-flat : goal.returns-clause-flat
returns-clause-flat c =
    let log = c.args.self.now in
    IfOk-weaker c.race_before.result
    (λ o. MatchOption o (RaceFreeFromBase log.base log.events) (λ r. IsFirstRaceFromBase log.base log.events r.0 r.1))
    (λ o. IfSome o (λ r. ExplainedFromBase log.base log.events → Replays log.base.memory (take r.1 log.events)))
    (flat_before log.base log.events c.race_before.ensures.in_range)
    (returns-clause-first c)
