-- The word is what all have added to it.
use Rattle.std.proofs.Common.{refl, arith}
use Rattle.std.proofs.lemmas.List.{get_or_read}
use Rattle.seats.proofs.GuardedRuns.{added_in_all, under_new}
use Rattle.example_counter.specs.declared.TheConstants.{COUNT, LOCK, ROUNDS}
use Rattle.example_counter.proofs.count.Goals as goal

pub returns : goal.returns
returns g c =
    let ran = c.in_ok-ran.ensures.ran in
    let under = under_new {count = 1} c.in_ok-layout.ensures c.put.ensures 0 refl (omega arith) in
    let sum = added_in_all LOCK COUNT ran (omega arith) under (λ p. ROUNDS) (λ p ks x at did. did) in
    let word = get_or_read c.in_ok-ran.ran.memory.items 0 c.index.result.now (omega (arith, ran.long)) c.index.ensures 0 in
    omega (arith, sum, word)
