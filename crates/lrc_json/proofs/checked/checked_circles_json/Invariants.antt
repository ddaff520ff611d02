use Rattle.std.proofs.Common.{take}
use Rattle.lrc_json.specs.CheckedJson.{json_circles}
use Rattle.lrc_json.specs.PutTogether.{HasItems}
use Rattle.lrc_json.proofs.checked.checked_circles_json.Given as goal

abbrev pub invariant-loop-circle : goal.invariant-loop-circle
invariant-loop-circle l = HasItems l.list (json_circles (take l.circle-index l.circles))
