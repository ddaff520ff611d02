use Rattle.std.proofs.Common.{rules}
use Rattle.lrc_script.proofs.script.Instruction.address.Goals as goal

pub returns-in-Load : goal.returns-in-Load
returns-in-Load c = search rules
