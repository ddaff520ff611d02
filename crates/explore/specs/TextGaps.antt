-- What the text of a script leaves open: words that it doesn't show to be guarded, and what keeps its locks from being ranked.
use Rattle.std.specs.Prelude.{◌≡◌, Bool, List, length}
use Rattle.std.specs.Global.{Vec}
use Rattle.lrc_script.specs.Plan.{Plan}
use Rattle.lrc_script.specs.Lawful.{plan_addresses}
use Rattle.explore.specs.declared.prefixes.script_call.ScriptCall.{ScriptCall}
use Rattle.explore.specs.declared.text.text_gaps.TextGaps.{TextGaps}
use Rattle.explore.specs.Prefixes.ScriptCalls.{AreScriptCallRows}
use Rattle.explore.specs.TextGuards.{AreGuardedByText}
use Rattle.explore.specs.UnguardedWords.{AreUnguardedWords}
use Rattle.explore.specs.UnrankedLocks.{AreUnrankedLocks}

-- of the script's steps, and of words that are said to be guarded
pub record AreTextGaps (s : Plan) (gaps : TextGaps) : Type 0 where
  pub rows : List (Vec ScriptCall)
  pub are : AreScriptCallRows s rows
  pub guarded : List Bool
  pub long : length guarded ≡ plan_addresses s
  pub guards : AreGuardedByText rows guarded
  pub words : AreUnguardedWords rows guarded gaps.words.items
  pub locks : AreUnrankedLocks rows gaps.locks
