use Rattle.std.proofs.Common.{take}
use Rattle.lrc_json.specs.CheckedJson.{json_stores}
use Rattle.lrc_json.specs.PutTogether.{HasItems}
use Rattle.lrc_json.proofs.checked.checked_stores_json.Given as goal

abbrev pub invariant-loop-store : goal.invariant-loop-store
invariant-loop-store l = HasItems l.list (json_stores l.told (take l.store-index l.stores))
