use Rattle.std.proofs.Common.{rules}
use Rattle.lrc_json.proofs.NoFloats.{no_float_put}
use Rattle.lrc_json.proofs.members.Members.put.Goals as goal

pub returns-in_default : goal.returns-in_default
returns-in_default c = search (rules, no_float_put)
