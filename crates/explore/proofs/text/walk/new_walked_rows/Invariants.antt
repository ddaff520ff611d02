use Rattle.explore.specs.TextWalks.{AreTextWalkRowsNew}
use Rattle.explore.proofs.text.walk.new_walked_rows.Given as goal

abbrev pub invariant-loop : goal.invariant-loop
invariant-loop l = AreTextWalkRowsNew l.counter l.rows.items
