use Rattle.std.specs.Prelude.{ℕ, ◌==◌, suc, if◌then◌else◌, List, [], ◌∷◌, ◌++◌, map, codes}
use Rattle.std.specs.List.{flat_map}
use Rattle.std.specs.Fmt.{decimal}
use Rattle.lrc_script.specs.declared.script.Instruction.{Instruction}
use Rattle.lrc_script.specs.declared.script.Instruction.TheVariants.{Load, Store, Add, Acquire, Release, Barrier, Set, Await, Cut}
use Rattle.lrc_script.specs.Plan.{Plan}

-- a line of a script: its first word, and the numbers after it
pub record ScriptLine : Type 0 where
  pub word : List ℕ
  pub numbers : List ℕ

-- the byte of a space
abbrev pub script_line_space : ℕ
script_line_space = 32

-- a space, and the number in decimal
abbrev pub script_line_spaced : ℕ → List ℕ
script_line_spaced n = script_line_space ∷ decimal n

-- the bytes of a line but its line feed
abbrev pub script_line_bytes : ScriptLine → List ℕ
script_line_bytes l = l.word ++ flat_map script_line_spaced l.numbers

-- the bytes of a line, with the line feed at its end
abbrev pub script_line_text : ScriptLine → List ℕ
script_line_text l = script_line_bytes l ++ 10 ∷ []

-- the sizes: no flags are written with four numbers
abbrev pub script_cluster_line : Plan → ScriptLine
script_cluster_line s = record {
  word = codes "cluster";
  numbers = s.processors ∷ s.pages ∷ s.words ∷ s.locks ∷ (if s.flags == 0 then [] else s.flags ∷ []);
}

-- the head of section k
abbrev pub script_section_line : ℕ → ScriptLine
script_section_line k = record { word = codes "p"; numbers = k ∷ [] }

abbrev pub script_instruction_line : Instruction → ScriptLine
script_instruction_line (Load a) = record { word = codes "load"; numbers = a ∷ [] }
script_instruction_line (Store a v) = record { word = codes "store"; numbers = a ∷ v ∷ [] }
script_instruction_line (Add a v) = record { word = codes "add"; numbers = a ∷ v ∷ [] }
script_instruction_line (Acquire l) = record { word = codes "acquire"; numbers = l ∷ [] }
script_instruction_line (Release l) = record { word = codes "release"; numbers = l ∷ [] }
script_instruction_line Barrier = record { word = codes "barrier"; numbers = [] }
script_instruction_line (Set f) = record { word = codes "set"; numbers = f ∷ [] }
script_instruction_line (Await f) = record { word = codes "await"; numbers = f ∷ [] }
script_instruction_line Cut = record { word = codes "cut"; numbers = [] }

abbrev pub script_show_line : List ℕ → ScriptLine
script_show_line shown = record { word = codes "show"; numbers = shown }

-- the lines of the sections, of which the first is section k
abbrev pub script_section_lines : ℕ → List (List Instruction) → List ScriptLine
script_section_lines k [] = []
script_section_lines k (is ∷ sections) = script_section_line k ∷ map script_instruction_line is ++ script_section_lines (suc k) sections

-- the lines of a script
abbrev pub script_lines_of : Plan → List ScriptLine
script_lines_of s = script_cluster_line s ∷ script_section_lines 0 s.sections ++ script_show_line s.shown ∷ []

-- the one text of a script
abbrev pub text : Plan → List ℕ
text s = flat_map script_line_text (script_lines_of s)
