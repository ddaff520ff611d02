use Rattle.std.proofs.Common.{◌≡◌, ◌-◌, ◌++◌, ◌≤◌, drop}
use Rattle.lrc_sample.specs.SampleReplies.{sample_replies_marked}
use Rattle.lrc_sample.proofs.outcome.add_told_sample_outcome_replies.Given as goal

abbrev pub invariant-loop-place : goal.invariant-loop-place
invariant-loop-place l =
    (l.cut ≤ l.place)
    × (l.fn.replies.items ++ sample_replies_marked (drop l.cut l.marks) l.own
    ≡ l.replies.items ++ sample_replies_marked (drop l.place l.marks) (drop (l.place - l.cut) l.own))
