use Rattle.std.proofs.Common.{◌∷◌, ◌∙◌, ap, arith}
use Rattle.std.proofs.Math.ListN.{drop_of_length-le}
use Rattle.std.proofs.lemmas.List.{drop-set}
use Rattle.lrc_report.proofs.report_line.ReportLine.clear.Goals as goal

pub returns : goal.returns
returns c =
    let bytes = c.self.inside.bytes in
    let many = c.self.invariant.0 in
    drop-set bytes 159 10 (omega (arith, many))
    ∙ ap (λ l. 10 ∷ l) (drop_of_length-le bytes {i = 160} (omega (arith, many)))
