use Rattle.std.proofs.Common.{◌≡◌, take}
use Rattle.conformance.specs.Follows.{calls_of}
use Rattle.explore.specs.Prefixes.ScriptCalls.{last_reply_of_script_calls}
use Rattle.explore.proofs.rules.calls.reply_before.Given as goal

abbrev pub invariant-loop-event : goal.invariant-loop-event
invariant-loop-event l = l.reply ≡ last_reply_of_script_calls (calls_of (take l.event-index l.events) l.processor)
