use Rattle.std.proofs.Common.{◌≡◌, ◌<◌, length, rules, sym, subst, arith}
use Rattle.std.proofs.lemmas.Option.{slice_get-get_or}
use Rattle.journal.specs.declared.event.Kind.TheVariants.{Set}
use Rattle.explore.specs.declared.prefixes.script_call.ScriptCall.TheVariants.{Call}
use Rattle.explore.specs.TextWalks.{AreStepSettersNoted}
use Rattle.explore.specs.Users.{IsUserStepWithin}
use Rattle.explore.proofs.TextWalks.FlagsMet.{flags_met_setter, flags_met_setters_kept}
use Rattle.explore.proofs.text.walk.note_step_setter.Goals as goal

pub returns-in-Call-Set-clause-keeps : goal.returns-in-Call-Set-clause-keeps
returns-in-Call-Set-clause-keeps c =
    let is : c.args.step ≡ Call (Set c.in-Call-Set.flag) = search rules in
    let range = subst (IsUserStepWithin c.requires.within.0) is c.requires.within.1 in
    let small = range.1 in
    let within : c.in-Call-Set.flag < length c.args.flags.now = omega arith in
    flags_met_setters_kept c.args.flags.now c.args.processor c.in-Call-Set.flag _ _ (slice_get-get_or c.args.flags.now c.in-Call-Set.flag _ within)
    c.expect.ensures.mine c.expect.ensures.keeps

pub returns-in-Call-Set-clause-notes : goal.returns-in-Call-Set-clause-notes
returns-in-Call-Set-clause-notes c =
    let is : c.args.step ≡ Call (Set c.in-Call-Set.flag) = search rules in
    let range = subst (IsUserStepWithin c.requires.within.0) is c.requires.within.1 in
    let small = range.1 in
    let within : c.in-Call-Set.flag < length c.args.flags.now = omega arith in
    subst (AreStepSettersNoted _ c.args.processor) (sym is)
    (flags_met_setter c.args.flags.now c.args.processor c.in-Call-Set.flag _ _ (slice_get-get_or c.args.flags.now c.in-Call-Set.flag _ within)
    c.expect.ensures.mine c.expect.ensures.keeps)
