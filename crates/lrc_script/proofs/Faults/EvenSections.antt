-- Looking for the first section with another number of barriers.
use Rattle.std.proofs.Common.{◌≡◌, ℕ, suc, ◌+◌, ◌*◌, ◌<◌, ◌≤◌, List, [], ◌∷◌, ◌++◌, length, map, take, get_or, sym, ap, subst, ◌∙◌, below_more, arith}
use Rattle.std.specs.Prelude.{All, Some, slice_get}
use Rattle.std.specs.Global.{Vec}
use Rattle.std.proofs.lemmas.List.{take_more, length-map, length-append, get_or-map, get_or_default}
use Rattle.lrc_script.specs.declared.script.Instruction.{Instruction}
use Rattle.lrc_script.specs.Plan.{Plan, plan_sections}
use Rattle.lrc_script.specs.Lawful.{barriers, IsLawfullyEven}
use Rattle.lrc_script.specs.ScriptLines.{ScriptLine, script_section_line, script_instruction_line, script_section_lines}
use Rattle.lrc_script.proofs.SectionTexts.{script_section_lines-append}

-- the first sections have as many barriers, and the next one's head is this line
pub record AreEvenSectionsSoFar (sections : List (Vec Instruction)) (count expected line : ℕ) : Type 0 where
  pub same : (k : ℕ) → k < count → barriers (get_or (plan_sections sections) k []) ≡ expected
  pub line_is : line ≡ suc (suc (length (script_section_lines 0 (take count (plan_sections sections)))))
  pub small : line ≤ 2 + 10001 * count

script_section_lines-one : (k : ℕ) (is : List Instruction) → length (script_section_lines k (is ∷ [])) ≡ suc (length is)
script_section_lines-one k is =
    omega (arith, length-append (script_section_line k ∷ map script_instruction_line is) [], length-map is script_instruction_line)

pub even_sections_more : {sections : List (Vec Instruction)} {count expected line : ℕ} (section : Vec Instruction)
    → AreEvenSectionsSoFar sections count expected line → count < length sections → section ≡ get_or sections count section
    → length section.items ≤ 10000 → barriers section.items ≡ expected
    → AreEvenSectionsSoFar sections (count + 1) expected (line + (length section.items + 1))
even_sections_more {sections = sections} {count = count} {expected = expected} section h lt read few same =
    let here : get_or (plan_sections sections) count [] ≡ section.items =
    get_or-map (λ section. section.items) sections count section [] lt
    ∙ ap (λ (v : Vec Instruction). v.items) (sym read) in
    let fits : count < length (plan_sections sections) =
    omega (arith, lt, length-map sections (λ (section : Vec Instruction). section.items)) in
    let front = take count (plan_sections sections) in
    let more : take (count + 1) (plan_sections sections) ≡ front ++ section.items ∷ [] =
    take_more (plan_sections sections) count [] fits ∙ ap (λ (is : List Instruction). front ++ is ∷ []) here in
    let lines : length (script_section_lines 0 (take (count + 1) (plan_sections sections)))
    ≡ length (script_section_lines 0 front) + suc (length section.items) =
    ap (λ (xs : List (List Instruction)). length (script_section_lines 0 xs)) more
    ∙ ap (λ (ls : List ScriptLine). length ls) (script_section_lines-append 0 front (section.items ∷ []))
    ∙ length-append (script_section_lines 0 front) (script_section_lines (0 + length front) (section.items ∷ []))
    ∙ ap (λ (n : ℕ). length (script_section_lines 0 front) + n) (script_section_lines-one (0 + length front) section.items) in
    record {
      same =
          below_more (λ k. barriers (get_or (plan_sections sections) k []) ≡ expected) count h.same
          (ap barriers here ∙ same);
      line_is = omega (arith, h.line_is, lines);
      small = omega (arith, h.small, few);
    }

pub even_sections_all : (s : Plan) (sections : List (Vec Instruction)) (count expected line : ℕ)
    → s.sections ≡ plan_sections sections → AreEvenSectionsSoFar sections count expected line → length sections ≤ count
    → expected ≡ barriers (get_or s.sections 0 []) → IsLawfullyEven s
even_sections_all s sections count expected line e h all first = λ k d lt.
    let within : k < length s.sections = lt in
    let same =
    h.same k (omega (
      arith,
      lt,
      all,
      ap (λ (xs : List (List Instruction)). length xs) e,
      length-map sections
          (λ (section : Vec Instruction). section.items),
    ))
    in
    ap barriers (get_or_default s.sections k d [] lt)
    ∙ ap (λ (xs : List (List Instruction)). barriers (get_or xs k [])) e ∙ same ∙ first

pub even_sections_first_barriers : (sections : List (Vec Instruction)) (first : Vec Instruction) → Some first ≡ slice_get sections 0
    → barriers first.items ≡ barriers (get_or (plan_sections sections) 0 [])
even_sections_first_barriers [] first e = absurd cc
even_sections_first_barriers (x ∷ xs) first e = let same : first ≡ x = cc in ap (λ (v : Vec Instruction). barriers v.items) same

pub even_sections_few_instructions : (sections : List (Vec Instruction)) (k : ℕ) (section : Vec Instruction)
    → All (λ section. length section.items ≤ 10000) sections → k < length sections
    → section ≡ get_or sections k section → length section.items ≤ 10000
even_sections_few_instructions sections k section h lt read =
    subst (λ (v : Vec Instruction). length v.items ≤ 10000) (sym read) (h k section lt)
