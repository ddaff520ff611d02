use Rattle.std.proofs.Common.{◌≡◌, ◌++◌, None, drop, false}
use Rattle.serde_json.specs.View.{items_of}
use Rattle.serde_json.specs.Written.{items_have_float}
use Rattle.lrc_json.specs.EventJson.{json_events}
use Rattle.lrc_json.specs.PutTogether.{items_so_far}
use Rattle.lrc_json.proofs.events.events_json.Given as goal

abbrev pub invariant-loop-place : goal.invariant-loop-place
invariant-loop-place l = l.list.fault ≡ None
    → (items_so_far l.list ++ json_events l.place (drop l.place l.events) ≡ json_events 0 l.events) × (items_have_float (items_of (items_so_far l.list)) ≡ false)
