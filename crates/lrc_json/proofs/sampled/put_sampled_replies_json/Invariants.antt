use Rattle.std.proofs.Common.{◌≡◌, ◌++◌, None, drop, false, map}
use Rattle.serde_json.specs.View.{items_of}
use Rattle.serde_json.specs.Written.{items_have_float}
use Rattle.lrc_json.specs.PutTogether.{items_so_far}
use Rattle.lrc_json.specs.SampledJson.{json_owner, json_replies, sampled_owners}
use Rattle.lrc_json.proofs.sampled.put_sampled_replies_json.Given as goal

abbrev pub invariant-loop-reply : goal.invariant-loop-reply
invariant-loop-reply l = l.list.fault ≡ None → (l.fn.list.fault ≡ None)
    × (items_so_far l.list ++ map (json_owner l.replies) (sampled_owners l.last (drop l.reply-index l.replies))
    ≡ items_so_far l.fn.list ++ json_replies l.replies)
    × (items_have_float (items_of (items_so_far l.fn.list)) ≡ false → items_have_float (items_of (items_so_far l.list)) ≡ false)
