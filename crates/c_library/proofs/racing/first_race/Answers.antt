use Rattle.std.proofs.Common.{◌≡◌, List, map, subst, ◌∙◌}
use Rattle.std.specs.Prelude.{MatchOption}
use Rattle.journal.specs.declared.event.Event.{Event}
use Rattle.journal.specs.Races.{IsFirstRace, RaceFree}
use Rattle.c_library.specs.Given.{given_event_of}
use Rattle.c_library.specs.GivenHistories.{CanGivenHistoryBeTaken}
use Rattle.c_library.proofs.racing.first_race.Goals as goal

pub returns-clause-told : goal.returns-clause-told
returns-clause-told c =
    let es = c.args.events.now in
    let found = c.in_ok-found.found in
    let history = c.in_ok-history.ensures.taken in
    let is : c.deref.result.now ≡ map given_event_of es = c.deref.ensures.value ∙ history.is in
    record {
      taken = subst (λ n. CanGivenHistoryBeTaken c.args.sizes n es) c.addresses-addresses.ensures history.taken;
      race = found;
      first =
          subst (λ (j : List Event). MatchOption found (RaceFree j) (λ r. IsFirstRace j r.0 r.1)) is
          c.in_ok-found.ensures;
      is = c.told_verdict_race.ensures;
    }
