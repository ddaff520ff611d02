use Rattle.std.proofs.Common.{ℕ, ◌%◌, ap}
use Rattle.rand_pcg.specs.Lcg.{Lcg}
use Rattle.lrc_tester.specs.Drawing.Draw.{below}
use Rattle.lrc_tester.proofs.drawing.draw.below.Goals as goal

pub returns-clause-value : goal.returns-clause-value
unfolding below
returns-clause-value c = ap (λ (p : ℕ × Lcg). p.0 % c.args.bound) c.next_word.ensures

pub returns-clause-state : goal.returns-clause-state
unfolding below
returns-clause-state c = ap (λ (p : ℕ × Lcg). p.1) c.next_word.ensures
