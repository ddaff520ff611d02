use Rattle.std.proofs.Common.{[], ◌∷◌, refl, arith}
use Rattle.seats.proofs.BalancedRuns.{balanced_run}
use Rattle.example_bank.proofs.run.Goals as goal

pub returns : goal.returns
returns g c =
    let ran = c.in_ok-ran.ensures.ran in
    let even = balanced_run {count = 3} (0 ∷ 1 ∷ []) 2 ran c.in_ok-layout.ensures c.put.ensures (omega arith) (refl, refl) (omega arith)
    (λ p. 250) (λ p ks x did. (did.0.between.preserves, did.0.paid)) in
    record { layout = c.put.new.self; ran = ran; sum = even.0; balanced = λ p b at. (ran.ran.done p b at).1 (even.1 p) }
