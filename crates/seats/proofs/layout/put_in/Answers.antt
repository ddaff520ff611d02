use Rattle.std.proofs.Common.{◌≤◌, ◌∙◌, length, min, arith}
use Rattle.std.proofs.lemmas.Grind.{common_steps}
use Rattle.seats.proofs.LayoutTables.{layout_table_put_done}
use Rattle.seats.proofs.layout.put_in.Goals as goal

pub returns-clause-each : goal.returns-clause-each
returns-clause-each c =
    let inv = c.loop-address.invariant in
    let old = c.args.table.now.items in
    let all : min c.args.to (length old) ≤ c.loop-address.address = grind (arith, common_steps) in
    λ a. inv.each a ∙ layout_table_put_done old c.args.from c.args.to c.loop-address.address a c.args.guard inv.least inv.most all
