use Rattle.std.proofs.Common.{refl}
use Rattle.test_memory.proofs.histories.Calls.{kept_new}
use Rattle.test_memory.proofs.histories.told.Told.new.Goals as goal

pub invariant_of-result : goal.invariant_of-result
invariant_of-result c =
    kept_new _ c.requires.some c.requires.word c.requires.words c.new-2.ensures.items c.in_ok-book.ensures refl
