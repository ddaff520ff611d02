use Rattle.std.proofs.Common.{arith}
use Rattle.std.proofs.lemmas.Grind.{elements}
use Rattle.causes.proofs.origin.origin_at.Goals as goal

pub overflow_mul-result : goal.overflow_mul-result
overflow_mul-result c = grind (arith, elements)

pub overflow_add-result : goal.overflow_add-result
overflow_add-result c = grind (arith, elements)

pub offset_bounds-words-address : goal.offset_bounds-words-address
offset_bounds-words-address c = grind (arith, elements)

pub bounds-words-address : goal.bounds-words-address
bounds-words-address c = grind (arith, elements)

pub returns-in-Load : goal.returns-in-Load
returns-in-Load c = grind (arith, elements)

pub returns-in_default : goal.returns-in_default
returns-in_default c = grind (arith, elements)
