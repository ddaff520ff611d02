use Rattle.std.proofs.Common.{ℕ, ◌<◌, ◌^◌, subst, arith}
use Rattle.turn.proofs.boards.BoardLayout.new.Goals as goal

pub invariant_of-result : goal.invariant_of-result
invariant_of-result g c =
    let below = c.lawful.ensures.within 0 in
    let wide = c.requires.wide in
    record {
      some = c.requires.some;
      wide = wide;
      fits = subst (λ (n : ℕ). n < 2 ^ 64) wide (omega arith);
      more = omega arith;
    }
