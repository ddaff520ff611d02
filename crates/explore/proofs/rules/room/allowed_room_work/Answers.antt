use Rattle.std.proofs.Common.{ℕ, ◌≡◌, ◌<◌, ◌≤◌, [], length, sym, ap, subst, ◌∙◌, slice_index_or, arith}
use Rattle.std.proofs.lemmas.List.Elements.{All-get_or}
use Rattle.std.proofs.lemmas.Option.{same_Some, slice_get-get_or, slice_get_within}
use Rattle.std.proofs.lemmas.List.Sums.{sum_by_more}
use Rattle.lrc_script.specs.Plan.{Plan, plan_of}
use Rattle.lrc_script.specs.Lawful.{IsLawful, IsLawfulSection}
use Rattle.explore.specs.AllowedRoom.{allowed_room_instructions_in}
use Rattle.explore.proofs.PrefixRuns.Steps.{prefix_steps_plan_at}
use Rattle.explore.proofs.MachineSteps.{machine_step_read_at}
use Rattle.explore.proofs.rules.room.allowed_room_work.Goals as goal

-- no section has more than 10,000
instructions_few : (s : Plan) (n : ℕ) → IsLawful s → n < length s.sections → allowed_room_instructions_in (slice_index_or s.sections n []) ≤ 10000
instructions_few s n lawful lt =
    let is = All-get_or (IsLawfulSection s) s.sections n [] lt lawful.but_uneven.sections in
    is.most

pub loop-section-preserved : goal.loop-section-preserved
loop-section-preserved c =
    let s = plan_of c.args.script.now in
    let n = c.loop-section.section-index in
    let section = c.section-item.result in
    let here = machine_step_read_at c.args.script.now.sections.items n section (subst (λ xs. n < length xs) c.deref-section-items.ensures.value c.loop-section-test.true)
    (subst (λ xs. section ≡ slice_index_or xs n section) c.deref-section-items.ensures.value c.section-item.is) in
    let at = prefix_steps_plan_at c.args.script.now.sections.items n section here in
    let within = slice_get_within s.sections n section.items at in
    let same : slice_index_or s.sections n [] ≡ section.items =
    same_Some _ _ (sym (slice_get-get_or s.sections n [] within) ∙ at) in
    let loads : c.allowed_room_instructions_in-work.result ≡ allowed_room_instructions_in (slice_index_or s.sections n []) =
    c.allowed_room_instructions_in-work.ensures ∙ ap allowed_room_instructions_in (c.deref.ensures.value ∙ sym same) in
    let more = sum_by_more allowed_room_instructions_in s.sections n [] within in
    let few = instructions_few s n c.requires within in
    let was = c.loop-section.invariant.is in
    let under = c.loop-section.invariant.few in
    record { is = omega (arith, more, loads, was); few = omega (arith, few, loads, under) }
