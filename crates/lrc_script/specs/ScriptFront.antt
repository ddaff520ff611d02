-- What stands before a line of a script.
use Rattle.std.specs.Prelude.{◌≡◌, ℕ, ◌<◌, List, [], ◌∷◌, ◌++◌, length, All}
use Rattle.std.specs.List.{flat_map}
use Rattle.lrc_script.specs.declared.script.Instruction.{Instruction}
use Rattle.lrc_script.specs.Plan.{Plan}
use Rattle.lrc_script.specs.Lawful.{AreLawfulSizes, IsLawfulSection, IsLawfulButUneven}
use Rattle.lrc_script.specs.ScriptLines.{ScriptLine, script_cluster_line, script_section_lines, script_lines_of, script_line_text}

-- the lines of a script that were read: none; the cluster line; that, the whole sections and the
-- beginning of one more; or all lines
pub data ScriptFront : Type 0 where
  Nothing : ScriptFront
  Headed : Plan → ScriptFront
  Within : Plan → List Instruction → ScriptFront
  Whole : Plan → ScriptFront

abbrev pub script_front_lines : ScriptFront → List ScriptLine
script_front_lines Nothing = []
script_front_lines (Headed s) = script_cluster_line s ∷ []
script_front_lines (Within s is) = script_cluster_line s ∷ script_section_lines 0 (s.sections ++ is ∷ [])
script_front_lines (Whole s) = script_lines_of s

abbrev pub script_front_text : ScriptFront → List ℕ
script_front_text f = flat_map script_line_text (script_front_lines f)

-- the sizes are read, and no section yet
pub record IsScriptFrontHeaded (s : Plan) : Type 0 where
  pub sizes : AreLawfulSizes s
  pub no_sections : s.sections ≡ []
  pub none_shown : s.shown ≡ []

-- the sections are lawful as far as they are read
pub record IsScriptFrontLawfulWithin (s : Plan) (is : List Instruction) : Type 0 where
  pub sizes : AreLawfulSizes s
  pub sections : All (IsLawfulSection s) s.sections
  pub last : IsLawfulSection s is
  pub one_each : length s.sections < s.processors
  pub none_shown : s.shown ≡ []

-- lines that begin the text of some script that is lawful but for evenness
abbrev pub IsScriptFrontLawful : ScriptFront → Type 0
IsScriptFrontLawful Nothing = Unit {0}
IsScriptFrontLawful (Headed s) = IsScriptFrontHeaded s
IsScriptFrontLawful (Within s is) = IsScriptFrontLawfulWithin s is
IsScriptFrontLawful (Whole s) = IsLawfulButUneven s
