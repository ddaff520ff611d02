use Rattle.std.proofs.Common.{◌≡◌, ◌∙◌, length, ap, subst, arith}
use Rattle.std.proofs.lemmas.List.{length-map}
use Rattle.judge.specs.JudgedSizes.{AreJudgedSizes}
use Rattle.c_library.specs.Given.{given_event_of}
use Rattle.c_library.proofs.given_judged.given_judged_events.Goals as goal

pub returns-clause-taken : goal.returns-clause-taken
returns-clause-taken c =
    let events = c.in_ok-given_events_of.field-0.items in
    let few = c.are_given_few.ensures.0 c.if-not-are_given_few.false in
    record {
      judged = record {
        small = subst AreJudgedSizes c.sizes.ensures (c.are_judged.ensures.0 c.if-not-are_judged.false);
        rules = c.are_known.ensures.0 c.if-not-are_known.false;
        few = few;
        known = c.have_given_kinds.ensures.0 c.if-not-have_given_kinds.false;
      };
      is = c.in_ok-given_events_of.ensures;
      few = omega (arith, few, ap length c.in_ok-given_events_of.ensures ∙ length-map c.args.events.now given_event_of);
    }
