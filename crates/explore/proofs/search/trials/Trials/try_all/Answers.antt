use Rattle.explore.proofs.search.trials.Trials.try_all.Goals as goal

pub loop-number-init : goal.loop-number-init
loop-number-init c = c.in_ok-try_first.ensures

pub loop-number-preserved : goal.loop-number-preserved
loop-number-preserved c = λ are. c.in_ok-try_one.ensures (c.loop-number.invariant are)

pub returns-then-is_some : goal.returns-then-is_some
returns-then-is_some c = c.loop-number.invariant

pub returns : goal.returns
returns c = c.loop-number.invariant
