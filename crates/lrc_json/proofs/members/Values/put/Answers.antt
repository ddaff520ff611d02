use Rattle.std.proofs.Common.{refl}
use Rattle.lrc_json.proofs.NoFloats.{value_added}
use Rattle.lrc_json.proofs.members.Values.put.Goals as goal

pub returns-in_default : goal.returns-in_default
returns-in_default c =
    value_added c.args.self.now record { values = c.push_value.new.values; fault = c.args.self.now.fault } c.args.value refl
    (rw c.in_default.is at c.push_value.ensures)
