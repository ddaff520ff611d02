use Rattle.std.proofs.Common.{◌≡◌, List, length, map, subst, ap, sym, ◌∙◌, arith}
use Rattle.journal.specs.declared.event.Event.{Event}
use Rattle.journal.specs.Sizes.{Sizes}
use Rattle.judge.specs.JudgedSizes.{AreJudgedSizes, judged_sizes_of}
use Rattle.lrc_check.specs.declared.checked.Rules.{Rules}
use Rattle.lrc_check.specs.CheckVerdicts.{IsTrueCheckVerdict}
use Rattle.c_library.specs.Given.{given_event_of, given_sizes, given_rules_of}
use Rattle.c_library.proofs.given_judged.judge_given.Goals as goal

pub returns-clause-told : goal.returns-clause-told
returns-clause-told c =
    let s = given_sizes c.args.sizes in
    let found = c.in_ok-found.found in
    let taken = c.in_ok-history.ensures.taken in
    let is : c.deref.result.now ≡ map given_event_of c.args.events.now = c.deref.ensures.value ∙ taken.is in
    record {
      judged = taken.judged;
      found = found;
      checked =
          subst (λ (j : List Event). IsTrueCheckVerdict (given_rules_of c.args.rules) s j found) is
          (subst (λ (t : Sizes). IsTrueCheckVerdict (given_rules_of c.args.rules) t c.deref.result.now found) c.sizes.ensures
          (subst (λ (r : Rules). IsTrueCheckVerdict r (judged_sizes_of c.sizes.result) c.deref.result.now found)
          c.rules.ensures c.in_ok-found.ensures.found));
      is = c.told_verdict.ensures;
    }

pub judge_history-requires-clause-sizes : goal.judge_history-requires-clause-sizes
judge_history-requires-clause-sizes c = (subst AreJudgedSizes (sym c.sizes.ensures) c.in_ok-history.ensures.taken.judged.small).streamed

pub judge_history-requires-clause-few : goal.judge_history-requires-clause-few
judge_history-requires-clause-few c = omega (arith, c.in_ok-history.ensures.taken.few, ap length c.deref.ensures.value)

pub rules-requires : goal.rules-requires
rules-requires c = c.in_ok-history.ensures.taken.judged.rules
