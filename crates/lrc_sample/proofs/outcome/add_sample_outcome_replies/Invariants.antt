use Rattle.std.proofs.Common.{◌≡◌, ◌++◌, take}
use Rattle.lrc_sample.specs.SampleReplies.{sample_replies_by}
use Rattle.lrc_sample.proofs.outcome.add_sample_outcome_replies.Given as goal

abbrev pub invariant-loop-event : goal.invariant-loop-event
invariant-loop-event l = l.replies.items ≡ l.fn.replies.items ++ sample_replies_by l.processor (take l.event-index l.events)
