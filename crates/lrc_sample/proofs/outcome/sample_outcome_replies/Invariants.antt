use Rattle.std.proofs.Common.{◌≡◌}
use Rattle.lrc_script.specs.Plan.{plan_of}
use Rattle.lrc_sample.specs.SampleReplies.{sample_replies_of}
use Rattle.lrc_sample.proofs.outcome.sample_outcome_replies.Given as goal

abbrev pub invariant-loop-processor : goal.invariant-loop-processor
invariant-loop-processor l = l.replies.items ≡ sample_replies_of l.detail (plan_of l.script) l.shown l.processor l.events
