use Rattle.test_crews.proofs.crews.Crewing.{all_of}
use Rattle.test_crews.proofs.crews.crew.Crew.finish.Goals as goal

pub finish-requires-after_bounds : goal.finish-requires-after_bounds
finish-requires-after_bounds g c κs within =
    all_of c.self.inside.cluster c.self.inside.processors.items c.self.invariant
