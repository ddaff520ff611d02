use Rattle.std.proofs.Common.{◌+◌, List, length, sym, ap, subst, ◌∙◌}
use Rattle.journal.specs.declared.event.Event.{Event}
use Rattle.journal.specs.Races.{IsFirstRace}
use Rattle.journal.proofs.Order.EventPlacesAndCounts.{event_place_inside}
use Rattle.explore.specs.Prefixes.FlatBeginnings.{IsFlatBeginning}
use Rattle.explore.proofs.FirstRaces.{first_race_of_front, first_race_front_begins, first_race_front_length}
use Rattle.explore.proofs.search.racing_history.cut_racing_history.Goals as goal

pub returns : goal.returns
returns c = λ s begins.
    let k = c.args.second in
    let es = c.args.events.items in
    let first = c.requires in
    let lt = event_place_inside es k first.race.second first.race.second_at in
    let items = c.truncate.ensures.items in
    record {
      beginning = subst (IsFlatBeginning s) (sym items) (first_race_front_begins s es (k + 1) begins);
      last = k;
      is_last = ap (λ (xs : List Event). length xs) items ∙ first_race_front_length es k lt;
      race =
          subst (λ xs. IsFirstRace xs c.args.first k) (sym items) (first_race_of_front es c.args.first k lt first);
    }
