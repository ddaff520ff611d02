use Rattle.std.proofs.Common.{take}
use Rattle.lrc_report.specs.ReportText.{report_events_text}
use Rattle.lrc_report.specs.WritesThrough.{PassesThrough}
use Rattle.lrc_report.proofs.render.render_report_events.Given as goal

abbrev pub invariant-loop-index : goal.invariant-loop-index
invariant-loop-index g l = PassesThrough (g.W.Write.contents l.fn.out) (g.W.Write.contents l.out) l.fn.pending l.pending
    (report_events_text l.first (take l.index l.events))
