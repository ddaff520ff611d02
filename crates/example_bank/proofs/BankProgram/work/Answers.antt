use Rattle.std.proofs.Common.{[], ◌∷◌, refl, arith}
use Rattle.seats.proofs.AddedTallies.{added_modulo}
use Rattle.example_bank.proofs.BankProgram.work.Goals as goal

pub loop-round-preserved : goal.loop-round-preserved
loop-round-preserved g c =
    let was = c.loop-round.invariant in
    let paid = c.in_ok-add_two.ensures in
    let moved = c.in_ok-add_two-2.ensures in
    record {
      between = moved.balance (0 ∷ 1 ∷ []) (2 ∷ []) (record { first = refl; second = refl; even = refl })
          (paid.balance (0 ∷ 1 ∷ []) (2 ∷ []) (record { first = refl; second = refl; even = refl }) was.between);
      paid = added_modulo (omega arith) (moved.sum 0 2 _ (paid.sum 0 2 c.loop-round.round was.paid));
    }

pub returns : goal.returns
returns g c =
    let was = c.loop-round.invariant in
    let kept = c.in_ok-balanced.ensures.balance was.between in
    (record { between = kept.between; paid = added_modulo (omega arith) (c.in_ok-balanced.ensures.sum 0 2 _ was.paid) }, kept.found)
