use Rattle.std.proofs.Common.{◌≡◌, ◌<◌, ◌+◌, ℕ, List, [], ◌≤◌, length, arith, ap, sym, subst, ◌∙◌}
use Rattle.std.specs.Prelude.{All, slice_index_or}
use Rattle.std.specs.Global.{Vec}
use Rattle.lrc_script.specs.declared.script.Instruction.{Instruction}
use Rattle.lrc_script.specs.Plan.{plan_of, plan_sections}
use Rattle.lrc_script.specs.Lawful.{barriers}
use Rattle.lrc_script.proofs.Faults.EvenSections.{AreEvenSectionsSoFar, even_sections_more, even_sections_all, even_sections_first_barriers, even_sections_few_instructions}
use Rattle.lrc_script.proofs.uneven_barriers.uneven_line.Goals as goal

pub loop-section-preserved : goal.loop-section-preserved
loop-section-preserved c =
    let xs : List (Vec Instruction) = c.deref-section-items.result.now in
    let section : Vec Instruction = c.section-item.result in
    let lt : c.loop-section.section-index < length xs = omega arith in
    let each : All (λ (s : Vec Instruction). length s.items ≤ 10000) xs =
    subst (λ (ys : List (Vec Instruction)). All (λ (s : Vec Instruction). length s.items ≤ 10000) ys)
    (sym c.deref-section-items.ensures.value) c.requires.instructions in
    let same : barriers section.items ≡ c.barriers-expected.result =
    ap barriers (sym c.deref-in-loop-section.ensures.value) ∙ sym c.barriers.ensures
    ∙ c.if-barriers-expected.false in
    let count : length section.items ≡ c.len.result =
    ap (λ (is : List Instruction). length is) (sym c.deref-in-loop-section.ensures.value)
    ∙ c.deref-in-loop-section.ensures.len ∙ sym c.len.ensures in
    subst (λ (n : ℕ). AreEvenSectionsSoFar xs (c.loop-section.section-index + 1) c.barriers-expected.result
    (c.loop-section.line + (n + 1)))
    count (even_sections_more section
    c.loop-section.invariant lt c.section-item.is
    (even_sections_few_instructions xs c.loop-section.section-index section each lt c.section-item.is) same)

pub returns-clause-even : goal.returns-clause-even
returns-clause-even c =
    let xs : List (Vec Instruction) = c.deref-section-items.result.now in
    let value = c.deref-section-items.ensures.value in
    let first : c.barriers-expected.result ≡ barriers (slice_index_or (plan_of c.args.script.now).sections 0 []) =
    c.barriers-expected.ensures ∙ ap barriers c.deref-in_ok-first.ensures.value
    ∙ even_sections_first_barriers c.deref.result.now c.in_ok-first.field-0.now c.in_ok-first.ensures.value
    ∙ ap (λ (ys : List (Vec Instruction)). barriers (slice_index_or (plan_sections ys) 0 [])) c.deref.ensures.value
    in
    even_sections_all (plan_of c.args.script.now) xs c.loop-section.section-index c.barriers-expected.result
    c.loop-section.line (ap plan_sections (sym value)) c.loop-section.invariant (omega arith) first
