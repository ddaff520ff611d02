use Rattle.std.proofs.Common.{◌+◌, ◌*◌, ◌<◌, length, arith}
use Rattle.std.proofs.lemmas.Nat.{mul-le}
use Rattle.judge.proofs.cut_rows.RowsOfCuts.{rows_marked}
use Rattle.judge.proofs.cut_rows.CutRows.mark.Goals as goal

pub returns-clause-marked : goal.returns-clause-marked
returns-clause-marked c =
    let rows = c.args.self.now in
    let n = c.args.number in
    let p = c.args.processor in
    let w = rows.width in
    let below = c.requires.number in
    let inside = c.requires.processor in
    let le = mul-le (n + 1) w rows.count w (omega arith) (omega arith) in
    let within : n * w + p < length rows.entries.items = omega (arith, rows.whole, rows.entries.ok.0) in
    rows_marked w rows.entries.items n p c.args.limit inside within
