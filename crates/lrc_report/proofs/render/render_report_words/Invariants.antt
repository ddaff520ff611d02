use Rattle.std.proofs.Common.{take}
use Rattle.std.specs.List.{flat_map}
use Rattle.lrc_report.specs.ReportText.{report_word_text}
use Rattle.lrc_report.specs.WritesThrough.{PassesThrough}
use Rattle.lrc_report.proofs.render.render_report_words.Given as goal

abbrev pub invariant-loop-address : goal.invariant-loop-address
invariant-loop-address g l = PassesThrough (g.W.Write.contents l.fn.out) (g.W.Write.contents l.out) l.fn.pending l.pending
    (flat_map report_word_text (take l.address-index l.shown))
