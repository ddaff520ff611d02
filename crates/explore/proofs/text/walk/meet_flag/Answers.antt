use Rattle.std.proofs.Common.{◌≡◌, ◌<◌, length, rules, sym, subst, arith}
use Rattle.std.proofs.lemmas.Option.{slice_get-get_or}
use Rattle.journal.specs.declared.event.Kind.TheVariants.{Await, Set}
use Rattle.explore.specs.declared.prefixes.script_call.ScriptCall.TheVariants.{Call}
use Rattle.explore.specs.TextWalks.{IsTextWalkFlagMet}
use Rattle.explore.specs.Users.{IsUserStepWithin}
use Rattle.explore.proofs.TextWalks.FlagsMet.{flags_met_awaited, flags_met_set}
use Rattle.explore.proofs.text.walk.meet_flag.Goals as goal

pub returns-in-Call-Set : goal.returns-in-Call-Set
returns-in-Call-Set c =
    let is : c.args.step ≡ Call (Set c.in-Call-Set.flag) = search rules in
    let range = subst (IsUserStepWithin c.requires.within.0) is c.requires.within.1 in
    let small = range.1 in
    let within : c.in-Call-Set.flag < length c.args.flags.now = omega arith in
    subst (IsTextWalkFlagMet c.args.flags.now _ c.args.made.now c.args.made.now c.args.processor) (sym is)
    (flags_met_set c.args.flags.now c.args.made.now c.args.processor c.in-Call-Set.flag _ _
    (slice_get-get_or c.args.flags.now c.in-Call-Set.flag _ within) c.pass.ensures.due c.pass.ensures.made)

pub returns-then-is_passed : goal.returns-then-is_passed
returns-then-is_passed c =
    let is : c.args.step ≡ Call (Await c.in-Call-Await.flag) = search rules in
    let range = subst (IsUserStepWithin c.requires.within.0) is c.requires.within.1 in
    let small = range.1 in
    let within : c.in-Call-Await.flag < length c.args.flags.now = omega arith in
    subst (IsTextWalkFlagMet c.args.flags.now c.args.flags.now c.args.made.now c.add_steps_made.new.made c.args.processor) (sym is)
    (flags_met_awaited c.args.flags.now c.args.made.now c.add_steps_made.new.made c.args.processor c.in-Call-Await.flag _
    (slice_get-get_or c.args.flags.now c.in-Call-Await.flag _ within) (c.is_passed.ensures c.if-is_passed.true) c.add_steps_made.ensures)
