use Rattle.std.proofs.Common.{◌≡◌, ◌≤◌, ◌+◌, ◌++◌, drop}
use Rattle.std.specs.String.{string_bytes}
use Rattle.conformance.specs.ScheduleTexts.{schedule_turns_text}
use Rattle.conformance.proofs.schedule.put_schedule_rest.Given as goal

abbrev pub invariant-loop-next : goal.invariant-loop-next
invariant-loop-next l = record {
  told : string_bytes l.fn.text ++ schedule_turns_text l.first 1 l.rest
      ≡ string_bytes l.text ++ schedule_turns_text l.processor l.count (drop l.next-index l.rest);
  few : l.count ≤ l.next-index + 1;
}
