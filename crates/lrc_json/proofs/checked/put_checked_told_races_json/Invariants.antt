use Rattle.std.proofs.Common.{take}
use Rattle.lrc_json.specs.CheckedJson.{json_races}
use Rattle.lrc_json.specs.PutTogether.{AreLinesPut}
use Rattle.lrc_json.proofs.checked.put_checked_told_races_json.Given as goal

abbrev pub invariant-loop-race : goal.invariant-loop-race
invariant-loop-race l = AreLinesPut l.fn.lines l.lines (json_races l.judged (take l.race-index l.judged.races.races.items))
