use Rattle.std.proofs.Common.{arith}
use Rattle.std.proofs.lemmas.List.FromFn.{fill_by_all}
use Rattle.c_library.specs.ToldExploration.{told_exploration_no_wait, told_exploration_wait_of}
use Rattle.c_library.proofs.told_exploration.told_exploration_waits.Goals as goal

pub returns : goal.returns
returns c =
    let invariant = c.loop-processor.invariant in
    let end = c.loop-processor-test.false in
    fill_by_all (told_exploration_wait_of c.args.waits.now) c.loop-processor.told 16 told_exploration_no_wait invariant.long
    (λ p lt. invariant.same p (omega arith))
