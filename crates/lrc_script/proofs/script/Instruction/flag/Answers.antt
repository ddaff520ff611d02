use Rattle.std.proofs.Common.{rules}
use Rattle.lrc_script.proofs.script.Instruction.flag.Goals as goal

pub returns-in_default : goal.returns-in_default
returns-in_default c = search rules
