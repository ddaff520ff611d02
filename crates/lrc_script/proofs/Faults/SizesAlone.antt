-- The line of the sizes alone.
use Rattle.std.proofs.Common.{◌≡◌, ◌≢◌, ℕ, ◌+◌, List, [], ◌∷◌, length, Ok, Err, refl, sym, ap, ◌∙◌, arith}
use Rattle.std.proofs.lemmas.List.{length-append}
use Rattle.lrc_script.specs.declared.fault.ScriptFault.{ScriptFault}
use Rattle.lrc_script.specs.declared.fault.ScriptFault.TheVariants.{NoMemory}
use Rattle.lrc_script.specs.Plan.{Plan, plan_of_sizes}
use Rattle.lrc_script.specs.Lawful.{AreLawfulSizes}
use Rattle.lrc_script.specs.ScriptLines.{ScriptLine, script_line_bytes, script_cluster_line, script_show_line, script_section_lines}
use Rattle.lrc_script.specs.ScriptFront.{ScriptFront, Nothing, Headed, Within, Whole, IsScriptFrontHeaded, script_front_lines}
use Rattle.lrc_script.specs.ScriptFaults.{ScriptFaultSays}
use Rattle.lrc_script.specs.LineReading.{LineReadFails, line_read_after}
use Rattle.lrc_script.proofs.LawfulSizes.{lawful_sizes_over}
use Rattle.lrc_script.proofs.SectionTexts.{script_section_lines-append}
use Rattle.lrc_script.proofs.Front.PassedLines.{passed_line_of_cluster}
use Rattle.lrc_script.proofs.Faults.RefusedLines.{no_refused_line_adds, refused_line_says}

-- one line is the sizes'
sizes_alone_headed : (f : ScriptFront) (l : ScriptLine) → script_front_lines f ≡ l ∷ [] → (s : Plan) × (f ≡ Headed s)
sizes_alone_headed Nothing l e = absurd (omega (arith, ap (λ (ls : List ScriptLine). length ls) e))
sizes_alone_headed (Headed s) l e = (s, refl)
sizes_alone_headed (Within s is) l e =
    absurd
    (omega (
      arith,
      ap (λ (ls : List ScriptLine). length ls) e,
      ap (λ (ls : List ScriptLine). length ls) (script_section_lines-append 0 s.sections (is ∷ [])),
      length-append (script_section_lines 0 s.sections) (script_section_lines (0 + length s.sections) (is ∷ [])),
    ))
sizes_alone_headed (Whole s) l e =
    absurd
    (omega (
      arith,
      ap (λ (ls : List ScriptLine). length ls) e,
      length-append (script_section_lines 0 s.sections) (script_show_line s.shown ∷ []),
    ))

-- what was read first is the line of sizes
pub sizes_alone_found : (line : List ℕ) (f : ScriptFront) (s : Plan) → line_read_after Nothing line ≡ Ok f → f ≡ Headed s
    → IsScriptFrontHeaded s × (line ≡ script_line_bytes (script_cluster_line s))
sizes_alone_found line f s read is =
    let a = no_refused_line_adds Nothing line (Headed s) tt (read ∙ ap (λ (g : ScriptFront). Ok g) is) in
    let added : script_cluster_line s ≡ a.added = let lines = a.adds.lines_are in cc in
    (a.adds.begun, a.line_is ∙ ap script_line_bytes (sym added))

-- and nothing else
pub sizes_alone_first : (line : List ℕ) (f : ScriptFront) → line_read_after Nothing line ≡ Ok f → ((s : Plan) → f ≢ Headed s) → ⊥
sizes_alone_first line f read other =
    let a = no_refused_line_adds Nothing line f tt read in
    let h = sizes_alone_headed f a.added a.adds.lines_are in other h.0 h.1

-- why the line of sizes was refused
pub sizes_alone_fault : (line : List ℕ) (e : ScriptFault) → LineReadFails e (line_read_after Nothing line) → e ≢ NoMemory
    → ScriptFaultSays e Nothing line
sizes_alone_fault line NoMemory read ne = absurd (ne refl)
sizes_alone_fault line e read ne = refused_line_says Nothing line e read

sizes_alone_refused_only : (line : List ℕ) (e : ScriptFault) (s : Plan) → line_read_after Nothing line ≡ Err e → AreLawfulSizes s
    → line ≢ script_line_bytes (script_cluster_line s)
sizes_alone_refused_only line e s read sizes same =
    let t = plan_of_sizes s.processors s.pages s.words s.locks s.flags in
    let goes = passed_line_of_cluster t (record { sizes = lawful_sizes_over s [] [] sizes; no_sections = refl; none_shown = refl }) in
    let reads : line_read_after Nothing line ≡ Ok (Headed t) = ap (line_read_after Nothing) same ∙ goes.after_is in
    absurd cc

-- and that it is nobody's
pub sizes_alone_only : (line : List ℕ) (e : ScriptFault) → LineReadFails e (line_read_after Nothing line) → e ≢ NoMemory → (s : Plan)
    → AreLawfulSizes s → line ≢ script_line_bytes (script_cluster_line s)
sizes_alone_only line NoMemory read ne = absurd (ne refl)
sizes_alone_only line e read ne = λ s sizes. sizes_alone_refused_only line e s read sizes
