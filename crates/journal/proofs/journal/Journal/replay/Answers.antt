use Rattle.std.proofs.Common.{IsSome, ◌↔◌}
use Rattle.std.proofs.lemmas.Result.{IfOk-weaker}
use Rattle.journal.specs.declared.event.Kind.TheVariants.{Load}
use Rattle.journal.specs.DidEvent.{event}
use Rattle.journal.specs.ReplayMemory.{Replays}
use Rattle.journal.specs.ExplainedAnswersFromBase.{ExplainedFromBase}
use Rattle.journal.specs.RacesFromBase.{RaceFreeFromBase}
use Rattle.journal.proofs.Flat.FlatBeforeRace.{flat_race_free_from_base}
use Rattle.journal.proofs.Journals.JournalMemory.{journal_memory_addresses_in_base}
use Rattle.journal.proofs.journal.Journal.replay.Goals as goal

pub replay_of-requires : goal.replay_of-requires
replay_of-requires c =
    rw (c.base.ensures, c.events.ensures.value)
    (journal_memory_addresses_in_base c.self.inside c.self.invariant c.args.self.now c.self.view_is)

pub returns-clause-replays : goal.returns-clause-replays
returns-clause-replays c = rw (← c.base.ensures, ← c.events.ensures.value) c.replay_of.ensures.replays

pub returns-clause-flat : goal.returns-clause-flat
returns-clause-flat c =
    let log = c.args.self.now in
    IfOk-weaker c.replay_of.result (λ o. IsSome o ↔ Replays log.base.memory log.events)
    (λ o. ExplainedFromBase log.base log.events → RaceFreeFromBase log.base log.events → IsSome o)
    (λ o same explained free. same.1 (flat_race_free_from_base log.base log.events
    (λ i p a v d. journal_memory_addresses_in_base c.self.inside c.self.invariant log c.self.view_is i (event p (Load a v)) d)
    explained free))
    (returns-clause-replays c)
