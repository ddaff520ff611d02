use Rattle.std.proofs.Common.{◌≡◌, ◌++◌, take}
use Rattle.lrc_report.specs.ReportText.{report_events_text}
use Rattle.lrc_explore.proofs.explored_events.put_explored_events.Given as goal

abbrev pub invariant-loop-place : goal.invariant-loop-place
invariant-loop-place l = l.text.items ≡ l.fn.text.items ++ report_events_text 0 (take l.place l.events)
