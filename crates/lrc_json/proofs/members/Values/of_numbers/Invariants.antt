use Rattle.std.proofs.Common.{map, take}
use Rattle.lrc_json.specs.PutTogether.{HasItems, json_number}
use Rattle.lrc_json.proofs.members.Values.of_numbers.Given as goal

abbrev pub invariant-loop-number : goal.invariant-loop-number
invariant-loop-number l = HasItems l.list (map json_number (take l.number-index l.numbers))
