use Rattle.std.proofs.Common.{◌≡◌, ◌++◌, None, drop, false}
use Rattle.serde_json.specs.View.{items_of}
use Rattle.serde_json.specs.Written.{items_have_float}
use Rattle.lrc_json.specs.PutTogether.{items_so_far}
use Rattle.lrc_exploring.specs.ExploreJson.{explored_waits}
use Rattle.lrc_exploring.proofs.json.explored.explored_waits_json.Given as goal

abbrev pub invariant-loop-processor : goal.invariant-loop-processor
invariant-loop-processor l = l.list.fault ≡ None
    → (items_so_far l.list ++ explored_waits l.processor (drop l.processor l.hang.waits.items) ≡ explored_waits 0 l.hang.waits.items)
    × (items_have_float (items_of (items_so_far l.list)) ≡ false)
