use Rattle.std.proofs.Common.{ap}
use Rattle.cluster.specs.Copies.Local.{Local}
use Rattle.test_crews.proofs.crews.crew.Crew.new.Goals as goal

pub invariant_of-result : goal.invariant_of-result
invariant_of-result g c =
    let new = c.in_ok-cluster.ensures.new in
    let covers = c.in_ok-cluster.ensures.covers in
    record {
      all = new.all;
      each = λ p m at. record {
        of = record {
          lock_is = ap (λ (x : Local). x.lock) (new.each p m at);
          sizes_are = ap (λ (x : Local). x.sizes) (new.each p m at);
          allowed = covers.allowed p m at;
          covers = covers.covers p m at;
        };
        number_is = ap (λ (x : Local). x.number) (new.each p m at);
      };
    }
