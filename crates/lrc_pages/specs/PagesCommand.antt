-- What the command does with a trace.
use Rattle.std.specs.Prelude.{ℕ, ◌≡◌, ◌⊎◌, Bool, true, false, List, Option, Some, None, IfSome}
use Rattle.std.specs.Io.KnownBytes.{Appends}
use Rattle.lrc_commands.specs.ExitStatus.{IsCommandExitStatusOf, IsCommandExitStatusOfInput}
use Rattle.lrc_pages.specs.declared.page_row.PageRow.{PageRow}
use Rattle.lrc_pages.specs.declared.pages_command.PagesFault.{PagesFault}
use Rattle.lrc_pages.specs.declared.pages_command.PagesFault.TheVariants.{Command, Unfit}
use Rattle.lrc_pages.specs.PageStreams.{IsFoundOnPages}

-- so many pages are told of each size at most, if so many are asked for, and a picture or none
abbrev pub pages_told : Option ℕ → Bool → ℕ
pages_told (Some n) svg = n
pages_told None true = 32
pages_told None false = 0

-- the source had the text of a trace, and the rows are what that costs on pages of so many words
abbrev pub ArePagesFound : ℕ → List ℕ → Option (List ℕ) → List PageRow → Type 0
ArePagesFound most words source rows = IfSome source (λ bytes. IsFoundOnPages most words bytes rows)

-- such rows were found, and a text was written
pub record IsPagesCommandDone (most : ℕ) (words : List ℕ) (source before after : Option (List ℕ)) : Type 0 where
  pub rows : List PageRow
  pub found : ArePagesFound most words source rows
  pub text : List ℕ
  pub written : Appends before after text

-- the fault is the trace's
abbrev pub IsPagesFaultOfInput : PagesFault → Type 0
IsPagesFaultOfInput (Command fault) = IsCommandExitStatusOfInput fault
IsPagesFaultOfInput (Unfit words) = ⊥

-- the status of a fault, or that of running out of memory if there was none to say it
abbrev pub IsPagesStatusOf : PagesFault → ℕ → Type 0
IsPagesStatusOf (Command fault) status = IsCommandExitStatusOf fault status
IsPagesStatusOf (Unfit words) status = (status ≡ 5) ⊎ (status ≡ 4)
