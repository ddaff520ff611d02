use Rattle.std.proofs.Common.{arith}
use Rattle.lrc_script.proofs.LineLengths.{line_lengths_of_text}
use Rattle.lrc_script.proofs.laws.script_most_bytes_law.Goals as goal

pub returns : goal.returns
returns c = λ s lawful. (let most = line_lengths_of_text s lawful in omega (arith, most))
