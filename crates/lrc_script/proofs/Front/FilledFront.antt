-- What is begun can be completed: the lines before begin the text of some script.
use Rattle.std.proofs.Common.{◌≡◌, ◌+◌, ◌-◌, ◌<◌, ◌≤◌, List, [], ◌∷◌, ◌++◌, length, replicate, refl, sym, ap, ◌∙◌, append_assoc, arith}
use Rattle.std.specs.Prelude.{All}
use Rattle.std.specs.List.{flat_map}
use Rattle.std.proofs.lemmas.List.{append-nil, length-append, length-replicate}
use Rattle.std.proofs.lemmas.List.Concat.{flat_map-append}
use Rattle.std.proofs.lemmas.List.Elements.{All-from_recursion, All-append, All-replicate, All-weaker, All-push, All-nil}
use Rattle.lrc_script.specs.declared.script.Instruction.{Instruction}
use Rattle.lrc_script.specs.Plan.{Plan}
use Rattle.lrc_script.specs.Lawful.{plan_addresses, AreLawfulSizes, IsLawfulSection, IsLawfulButUneven}
use Rattle.lrc_script.specs.ScriptLines.{ScriptLine, script_line_text, script_cluster_line, script_section_lines, script_show_line, script_lines_of, text}
use Rattle.lrc_script.specs.ScriptFront.{ScriptFront, Nothing, Headed, Within, Whole, IsScriptFrontLawful, script_front_lines, script_front_text}
use Rattle.lrc_script.specs.ScriptFaults.{BeginsScriptText}
use Rattle.lrc_script.proofs.LawfulSizes.{lawful_sizes_small, lawful_sizes_over, lawful_sizes_section_over, lawful_sizes_section_none}
use Rattle.lrc_script.proofs.SectionTexts.{script_section_lines-append}

-- the same sizes with these sections, then empty ones, and one address shown
abbrev filled_front : Plan → List (List Instruction) → Plan
filled_front s sections = record s { sections = sections ++ replicate (s.processors - length sections) []; shown = 0 ∷ [] }

filled_front_lawful : (s : Plan) (sections : List (List Instruction)) → AreLawfulSizes s → length sections ≤ s.processors
    → All (IsLawfulSection s) sections → IsLawfulButUneven (filled_front s sections)
filled_front_lawful s sections sizes fit each =
    let whole = filled_front s sections in
    let small = lawful_sizes_small s sizes in
    let blanks = replicate (s.processors - length sections) [] in
    let as_whole : (is : List Instruction) → IsLawfulSection s is → IsLawfulSection whole is =
    λ is k. lawful_sizes_section_over s (sections ++ blanks) (0 ∷ []) is k in
    record {
      sizes = lawful_sizes_over s (sections ++ blanks) (0 ∷ []) sizes;
      one_each =
          omega (
            arith,
            length-append sections blanks,
            length-replicate {A = List Instruction}
                (s.processors - length sections) [],
            fit,
          );
      sections =
          All-weaker (IsLawfulSection s) (IsLawfulSection whole) as_whole (sections ++ blanks) (All-append (IsLawfulSection s) sections
          blanks each (All-replicate (IsLawfulSection s) (s.processors - length sections) [] (lawful_sizes_section_none s)));
      some_shown = omega arith;
      most_shown = omega arith;
      shown = All-from_recursion (λ a. a < plan_addresses s) (0 ∷ []) (small.address, tt);
    }

filled_front_begins_from : (f : ScriptFront) (t : Plan) (ls : List ScriptLine) → IsLawfulButUneven t → script_lines_of t ≡ script_front_lines f ++ ls
    → BeginsScriptText (script_front_text f)
filled_front_begins_from f t ls lawful e =
    (t, lawful, flat_map script_line_text ls, ap (flat_map script_line_text) e ∙ flat_map-append script_line_text (script_front_lines f) ls)

filled_front_begins : (s : Plan) (sections : List (List Instruction))
    → script_lines_of (filled_front s sections)
    ≡ (script_cluster_line s ∷ script_section_lines 0 sections)
    ++ (script_section_lines (0 + length sections) (replicate (s.processors - length sections) [])
    ++ script_show_line (0 ∷ []) ∷ [])
filled_front_begins s sections =
    let blanks = replicate (s.processors - length sections) [] in
    let show = script_show_line (0 ∷ []) ∷ [] in
    ap (λ (ls : List ScriptLine). script_cluster_line s ∷ ls) (ap (λ (ls : List ScriptLine). ls ++ show)
    (script_section_lines-append 0 sections blanks)
    ∙ append_assoc (script_section_lines 0 sections) (script_section_lines (0 + length sections) blanks) show)

filled_front_least : Plan
filled_front_least = record { processors = 1; pages = 1; words = 1; locks = 0; flags = 0; sections = [] ∷ []; shown = 0 ∷ [] }

filled_front_least_lawful : IsLawfulButUneven filled_front_least
unfolding filled_front_least
filled_front_least_lawful = record {
  sizes =
      record {
        some_processors = omega arith;
        most_processors = omega arith;
        some_pages = omega arith;
        most_pages = omega arith;
        some_words = omega arith;
        most_words = omega arith;
        locks = omega arith;
        flags = omega arith;
      };
  one_each = refl;
  sections = All-from_recursion (IsLawfulSection filled_front_least) ([] ∷ []) (lawful_sizes_section_none filled_front_least, tt);
  some_shown = omega arith;
  most_shown = omega arith;
  shown = All-from_recursion (λ a. a < plan_addresses filled_front_least) (0 ∷ []) (omega arith, tt);
}

pub filled_front_begins_text : (f : ScriptFront) → IsScriptFrontLawful f → BeginsScriptText (script_front_text f)
filled_front_begins_text Nothing h = filled_front_begins_from Nothing filled_front_least (script_lines_of filled_front_least) filled_front_least_lawful refl
filled_front_begins_text (Headed s) h =
    filled_front_begins_from (Headed s) (filled_front s []) _ (filled_front_lawful s [] h.sizes (omega arith) (All-nil (IsLawfulSection s)))
    (filled_front_begins s [])
filled_front_begins_text (Within s is) h =
    let sections = s.sections ++ is ∷ [] in
    filled_front_begins_from (Within s is) (filled_front s sections) _ (filled_front_lawful s sections h.sizes
    (omega (arith, h.one_each, length-append s.sections (is ∷ [])))
    (All-push (IsLawfulSection s) s.sections is h.sections h.last))
    (filled_front_begins s sections)
filled_front_begins_text (Whole s) h = (s, h, [], sym (append-nil (text s)))
