use Rattle.std.proofs.Common.{ℕ, ◌≡◌, ◌<◌, ◌≤◌, [], length, sym, ap, subst, ◌∙◌, slice_index_or, arith}
use Rattle.std.proofs.lemmas.List.Elements.{All-get_or}
use Rattle.std.proofs.lemmas.Option.{same_Some, slice_get-get_or, slice_get_within}
use Rattle.std.proofs.lemmas.List.Sums.{count_by-le-length, sum_by_more}
use Rattle.lrc_script.specs.Plan.{Plan, plan_of}
use Rattle.lrc_script.specs.Lawful.{IsLawful, IsLawfulSection}
use Rattle.explore.specs.declared.outcomes.telling.Detail.{Detail}
use Rattle.explore.specs.StateRoom.{state_room_keeps, state_room_replies_in}
use Rattle.explore.proofs.PrefixRuns.Steps.{prefix_steps_plan_at}
use Rattle.explore.proofs.MachineSteps.{machine_step_read_at}
use Rattle.explore.proofs.state.room.state_room_words.Goals as goal

-- no section loads more than it has instructions
loads_few : (s : Plan) (d : Detail) (n : ℕ) → IsLawful s → n < length s.sections → state_room_replies_in d (slice_index_or s.sections n []) ≤ 10001
loads_few s d n lawful lt =
    let is = All-get_or (IsLawfulSection s) s.sections n [] lt lawful.but_uneven.sections in
    let most = is.most in
    let within = count_by-le-length (state_room_keeps d) (slice_index_or s.sections n []) in
    omega arith

pub loop-section-preserved : goal.loop-section-preserved
loop-section-preserved c =
    let s = plan_of c.args.script.now in
    let d = c.args.detail in
    let n = c.loop-section.section-index in
    let section = c.section-item.result in
    let here = machine_step_read_at c.args.script.now.sections.items n section (subst (λ xs. n < length xs) c.deref-section-items.ensures.value c.loop-section-test.true)
    (subst (λ xs. section ≡ slice_index_or xs n section) c.deref-section-items.ensures.value c.section-item.is) in
    let at = prefix_steps_plan_at c.args.script.now.sections.items n section here in
    let within = slice_get_within s.sections n section.items at in
    let same : slice_index_or s.sections n [] ≡ section.items =
    same_Some _ _ (sym (slice_get-get_or s.sections n [] within) ∙ at) in
    let loads : c.state_room_replies_in-words.result ≡ state_room_replies_in d (slice_index_or s.sections n []) =
    c.state_room_replies_in-words.ensures ∙ ap (state_room_replies_in d) (c.deref.ensures.value ∙ sym same) in
    let more = sum_by_more (state_room_replies_in d) s.sections n [] within in
    let few = loads_few s d n c.requires within in
    let was = c.loop-section.invariant.is in
    let under = c.loop-section.invariant.few in
    record { is = omega (arith, more, loads, was); few = omega (arith, few, loads, under) }

pub state_room_replies_in-words-requires : goal.state_room_replies_in-words-requires
state_room_replies_in-words-requires c =
    let s = plan_of c.args.script.now in
    let n = c.loop-section.section-index in
    let section = c.section-item.result in
    let here = machine_step_read_at c.args.script.now.sections.items n section (subst (λ xs. n < length xs) c.deref-section-items.ensures.value c.loop-section-test.true)
    (subst (λ xs. section ≡ slice_index_or xs n section) c.deref-section-items.ensures.value c.section-item.is) in
    let at = prefix_steps_plan_at c.args.script.now.sections.items n section here in
    let within = slice_get_within s.sections n section.items at in
    let same : slice_index_or s.sections n [] ≡ section.items =
    same_Some _ _ (sym (slice_get-get_or s.sections n [] within) ∙ at) in
    let is = All-get_or (IsLawfulSection s) s.sections n [] within c.requires.but_uneven.sections in
    subst (λ xs. length xs ≤ 10000) (same ∙ sym c.deref.ensures.value) is.most
