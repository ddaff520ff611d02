-- The text of sections.
use Rattle.std.proofs.Common.{◌≡◌, ℕ, suc, ◌+◌, ◌<◌, List, [], ◌∷◌, ◌++◌, length, map, take, get_or, sym, ap, ◌∙◌, append_assoc, arith}
use Rattle.std.specs.List.{flat_map}
use Rattle.std.specs.Global.{Vec}
use Rattle.std.proofs.lemmas.List.{append-nil, take_more, map_push, length-map, length-take}
use Rattle.std.proofs.lemmas.List.Concat.{flat_map-append}
use Rattle.lrc_script.specs.declared.script.Instruction.{Instruction}
use Rattle.lrc_script.specs.ScriptLines.{ScriptLine, script_line_text, script_section_line, script_instruction_line, script_section_lines}

-- the lines of some sections and of those behind them
pub script_section_lines-append : (k : ℕ) (xs ys : List (List Instruction))
    → script_section_lines k (xs ++ ys) ≡ script_section_lines k xs ++ script_section_lines (k + length xs) ys
script_section_lines-append k [] ys = ap (λ (n : ℕ). script_section_lines n ys) (omega arith)
script_section_lines-append k (x ∷ xs) ys =
    let next : suc k + length xs ≡ k + suc (length xs) = omega arith in
    ap (λ (ls : List ScriptLine). script_section_line k ∷ map script_instruction_line x ++ ls)
    (script_section_lines-append (suc k) xs ys ∙ ap (λ (n : ℕ). script_section_lines (suc k) xs ++ script_section_lines n ys) next)
    ∙ sym (append_assoc (script_section_line k ∷ map script_instruction_line x) (script_section_lines (suc k) xs)
    (script_section_lines (k + suc (length xs)) ys))

abbrev pub section_texts : List (Vec Instruction) → List ℕ
section_texts sections = flat_map script_line_text (script_section_lines 0 (map (λ section. section.items) sections))

pub section_texts-more : (sections : List (Vec Instruction)) (k : ℕ) (section : Vec Instruction) → k < length sections
    → section ≡ get_or sections k section
    → section_texts (take k sections)
    ++ (script_line_text (script_section_line k) ++ flat_map script_line_text (map script_instruction_line section.items))
    ≡ section_texts (take (k + 1) sections)
section_texts-more sections k section lt read =
    let items : Vec Instruction → List Instruction = λ v. v.items in
    let front = map items (take k sections) in
    let count : 0 + length front ≡ k = omega (arith, length-map (take k sections) items, length-take k sections) in
    let more : map items (take (k + 1) sections) ≡ front ++ section.items ∷ [] =
    ap (map items) (take_more sections k section lt)
    ∙ map_push items (take k sections) (get_or sections k section)
    ∙ ap (λ (v : Vec Instruction). front ++ items v ∷ []) (sym read) in
    let lines : script_section_lines 0 (map items (take (k + 1) sections))
    ≡ script_section_lines 0 front ++ (script_section_line k ∷ map script_instruction_line section.items) =
    ap (script_section_lines 0) more ∙ script_section_lines-append 0 front (section.items ∷ [])
    ∙ ap (λ (n : ℕ). script_section_lines 0 front ++ script_section_lines n (section.items ∷ [])) count
    ∙ ap (λ (ls : List ScriptLine). script_section_lines 0 front ++ (script_section_line k ∷ ls))
    (append-nil (map script_instruction_line section.items)) in
    sym (ap (flat_map script_line_text) lines
    ∙ flat_map-append script_line_text (script_section_lines 0 front) (script_section_line k ∷ map script_instruction_line section.items))
