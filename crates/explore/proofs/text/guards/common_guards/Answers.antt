use Rattle.std.proofs.Common.{ℕ, IsTrue, false, zero, suc, slice_index_or, replicate}
use Rattle.std.proofs.lemmas.Bool.{false≢true}
use Rattle.explore.proofs.text.guards.common_guards.Goals as goal

-- among so many falses there is no true
none : (n q : ℕ) → IsTrue (slice_index_or (replicate n false) q false) → ⊥
none zero q is = false≢true is
none (suc n) zero is = false≢true is
none (suc n) (suc q) is = none n q is

pub loop-lock-init : goal.loop-lock-init
loop-lock-init c = λ q is. absurd (none 32 q is)
