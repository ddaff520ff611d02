use Rattle.std.proofs.Common.{take}
use Rattle.lrc_json.specs.CheckedJson.{json_unprotected_lines}
use Rattle.lrc_json.specs.PutTogether.{AreLinesPut}
use Rattle.lrc_json.proofs.checked.put_checked_unprotected_json.Given as goal

abbrev pub invariant-loop-word : goal.invariant-loop-word
invariant-loop-word l = AreLinesPut l.fn.lines l.lines (json_unprotected_lines l.told (take l.word-index l.words))
