-- What is promised of scripts.
use Rattle.std.specs.Prelude.{ℕ, ◌≤◌, length}
use Rattle.lrc_script.specs.Plan.{Plan}
use Rattle.lrc_script.specs.Lawful.{IsLawful}
use Rattle.lrc_script.specs.ScriptLines.{text}

-- how many bytes the text of a lawful script has at most
abbrev pub script_law_most_bytes : ℕ
script_law_most_bytes = 3520418

-- no lawful script has a longer text
abbrev pub ScriptMostBytesLaw : Type 0
ScriptMostBytesLaw = (s : Plan) → IsLawful s → length (text s) ≤ script_law_most_bytes
