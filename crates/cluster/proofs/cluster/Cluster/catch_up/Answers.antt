use Rattle.std.proofs.Common.{refl, sym, ap}
use Rattle.cluster.specs.Copies.Local.{Local}
use Rattle.cluster.proofs.CaughtUpProcessor.{processor_is_caught_up, caught_up_processor_may_confer, caught_up_processor_seated, caught_up_processor_sound}
use Rattle.cluster.proofs.cluster.Cluster.catch_up.Goals as goal

pub confer-requires-clause-may : goal.confer-requires-clause-may
confer-requires-clause-may g c = caught_up_processor_may_confer _ _ _ _

pub invariant_of-processor : goal.invariant_of-processor
invariant_of-processor g c =
    let m = c.processor.invariant in
    let made = c.confer.ensures in (
      caught_up_processor_sound c.processor.inside.chair c.confer.new.chair m.0 m.1 refl _ _ made.then made.same.0 made.same.1,
      caught_up_processor_seated c.processor.inside.chair c.confer.new.chair m.0 m.1 refl _ _ made.then made.same.0 made.same.2,
      m.2,
    )

pub returns-clause-processor : goal.returns-clause-processor
returns-clause-processor g c =
    let m = c.processor.invariant in
    let made = c.confer.ensures in
    rw (← c.processor.view_is) (processor_is_caught_up c.processor.inside.chair c.confer.new.chair m.0 m.1 refl _ _ made.then
    c.args.other.now (ap (λ (x : Local). x.seen) (sym c.other.view_is)) made.same.0 made.same.1)
