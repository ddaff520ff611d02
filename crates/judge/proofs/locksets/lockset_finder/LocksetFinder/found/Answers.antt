use Rattle.std.proofs.Common.{◌≡◌, length, subst, arith}
use Rattle.std.proofs.lemmas.List.{take_all}
use Rattle.judge.specs.Locksets.Pairs.{PairsTellUnprotected}
use Rattle.judge.proofs.locksets.lockset_finder.LocksetFinder.found.Goals as goal

pub loop-address-preserved : goal.loop-address-preserved
loop-address-preserved c = λ j tells.
    c.in_ok-add_finder_answer.ensures j (tells.words j (take_all (length j) j (omega arith))) (c.loop-address.invariant j tells)

pub returns : goal.returns
returns c = λ j tells.
    let over = c.loop-address-test.false in
    let end = c.loop-address.auto.address-end in
    let same : c.loop-address.address ≡ c.args.self.now.addresses = omega arith in
    subst (λ n. PairsTellUnprotected c.args.asked j n c.loop-address.found.items) same (c.loop-address.invariant j tells)
