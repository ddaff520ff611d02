use Rattle.std.proofs.Common.{arith}
use Rattle.std.proofs.lemmas.Grind.{common_steps}
use Rattle.judge.proofs.cut_rows.RowsOfCuts.{one_row_less}
use Rattle.judge.proofs.cut_rows.CutRows.let_go_of_first.Goals as goal

pub invariant_of-self-clause-whole : goal.invariant_of-self-clause-whole
invariant_of-self-clause-whole c =
    let rows = c.args.self.now in
    let less = one_row_less rows.count rows.width in
    grind (arith, common_steps, less)
