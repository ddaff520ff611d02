use Rattle.std.proofs.Common.{◌≡◌, ◌+◌, sym, subst, arith}
use Rattle.std.proofs.lemmas.Grind.{common_steps}
use Rattle.seats.specs.Tables.{TablesOpenNothing}
use Rattle.seats.proofs.Rounds.ClosedLayouts.{closed_layout_new}
use Rattle.seats.proofs.Rounds.GridLayouts.{grid_layout_made}
use Rattle.seats.proofs.grids.Grids.layout.Goals as goal

pub returns-clause-closed : goal.returns-clause-closed
returns-clause-closed c =
    c.put_round-2.ensures.closed (c.put_round.ensures.closed (subst TablesOpenNothing (sym c.in_ok-layout.ensures) (closed_layout_new 2 c.in_ok-words.words 0)))

pub returns-clause-owns : goal.returns-clause-owns
returns-clause-owns c =
    let words : c.in_ok-words.words ≡ c.args.self.cells + c.args.self.cells = grind (arith, common_steps) in
    grid_layout_made c.args.self.cells c.args.self.share c.args.processors c.in_ok-words.words c.in_ok-layout.layout _ _ words c.in_ok-layout.ensures
    c.put_round.ensures.put c.put_round-2.ensures.put
