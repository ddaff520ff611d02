use Rattle.test_crews.proofs.crews.Stepping.{by_wait}
use Rattle.test_crews.proofs.crews.calls.wait_on.Goals as goal

pub returns : goal.returns
returns g c = by_wait _ _ _ _ c.requires c.wait.ensures
