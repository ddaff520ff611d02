use Rattle.std.proofs.Common.{◌≡◌, Some, slice_get, sym, subst, arith}
use Rattle.std.proofs.lemmas.Option.{slice_get_within}
use Rattle.conformance.specs.CutInstructions.{HasCutInstruction}
use Rattle.explore.proofs.CutScripts.{cut_section_kept}
use Rattle.explore.proofs.memory.shown.has_cut_script.Goals as goal

pub returns : goal.returns
returns c = λ _ p section at cut.
    let items = c.deref-section-items.result.now in
    let kept = cut_section_kept c.args.script.now.sections.items p section at in
    let here : slice_get items p ≡ Some kept.0 = subst (λ xs. slice_get xs p ≡ Some kept.0) (sym c.deref-section-items.ensures.value) kept.1 in
    let within = slice_get_within items p kept.0 here in
    c.loop-section.invariant p kept.0 (omega (arith, within, c.loop-section-test.false)) here
    (subst HasCutInstruction (sym kept.2) cut)
