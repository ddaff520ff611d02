use Rattle.std.proofs.Common.{◌≡◌, ◌↔◌, Some, subst, sym}
use Rattle.judge.specs.Why.{WhyWaitsFor}
use Rattle.explore.proofs.state.waits.Waiting.of.Goals as goal

pub returns : goal.returns
returns c = λ j tells k.
    subst (λ o. (o ≡ Some k) ↔ WhyWaitsFor j c.args.processor k) (sym c.wait_code_end_of.ensures) (tells.waits c.args.processor k)
