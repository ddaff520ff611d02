use Rattle.std.proofs.Common.{length}
use Rattle.page.proofs.MarkBits.{mark_bits_zero}
use Rattle.page.proofs.page.Page.zero.Goals as goal

pub returns-clause-clean : goal.returns-clause-clean
returns-clause-clean c = mark_bits_zero (length c.in_ok-vec.field-0.items)
