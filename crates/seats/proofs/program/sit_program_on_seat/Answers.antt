use Rattle.std.proofs.Common.{sym, ap, ◌∙◌}
use Rattle.cluster.specs.NewClusters.{SharedCluster}
use Rattle.cluster.specs.Copies.Local.{Local}
use Rattle.seats.specs.Sitting.{SittingSeat}
use Rattle.seats.proofs.program.sit_program_on_seat.Goals as goal

pub work-requires-clause-sits : goal.work-requires-clause-sits
work-requires-clause-sits g c κs within =
    let here = ap (λ (id : SittingSeat). id.cluster) c.requires.at in
    record {
      cluster = sym here;
      own = ap (λ (m : Local). m.lock) c.requires.new ∙ ap (λ (x : SharedCluster). x.lock) here;
      sizes = ap (λ (m : Local). m.sizes) c.requires.new ∙ ap (λ (x : SharedCluster). x.sizes) here;
      number = ap (λ (m : Local). m.number) c.requires.new;
      uncut = ap (λ (m : Local). m.own_cut) c.requires.new;
      covers = c.requires.covers;
      allowed = c.requires.allowed;
    }
