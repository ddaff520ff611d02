use Rattle.std.proofs.Common.{rules}
use Rattle.lrc_script.proofs.uneven_barriers.is_barrier.Goals as goal

pub returns-in-Barrier : goal.returns-in-Barrier
returns-in-Barrier c = search rules
