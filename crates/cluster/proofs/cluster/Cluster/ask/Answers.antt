-- Given by hand, so that a close by another event is refused without a search.
use Rattle.cluster.proofs.cluster.Cluster.ask.Goals as goal

pub returns : goal.returns
returns g c = c.close.ensures
