use Rattle.std.proofs.Common.{◌≡◌, length, map, subst, ap, ◌∙◌, arith}
use Rattle.std.proofs.lemmas.List.{length-map}
use Rattle.journal.specs.Sizes.{Sizes, addresses}
use Rattle.judge.specs.JudgedSizes.{AreJudgedSizesSmall}
use Rattle.c_library.specs.Given.{given_event_of, given_sizes}
use Rattle.c_library.specs.GivenHistories.{AreGivenHistoryEvents}
use Rattle.c_library.proofs.EventsWithin.{events_within_addresses, events_within_processors}
use Rattle.c_library.proofs.given_history.given_history.Goals as goal

pub returns-clause-taken : goal.returns-clause-taken
returns-clause-taken c =
    let es = c.args.events.now in
    let s = given_sizes c.args.sizes in
    let j = c.in_ok-history.history.items in
    let same = c.sizes-given.ensures in
    let is : j ≡ map given_event_of es = c.in_ok-history.ensures in
    let few = c.are_given_few.ensures.0 c.if-not-are_given_few.false in
    let long : length j ≡ length es = ap length is ∙ length-map es given_event_of in
    let within : AreGivenHistoryEvents s es =
    subst (λ (t : Sizes). AreGivenHistoryEvents t es) same (c.are_given_history_events.ensures.0 c.if-not-are_given_history_events.false) in
    record {
      taken = record {
        small = subst AreJudgedSizesSmall same (c.are_small.ensures.0 c.if-not-are_small.false);
        room_is = c.if-room-given.false ∙ ap addresses same;
        few = few;
        within = within;
      };
      is = is;
      few = omega arith;
      processors = events_within_processors s es j is within;
      addresses = events_within_addresses s es j is within;
    }
