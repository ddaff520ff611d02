use Rattle.std.proofs.Common.{arith}
use Rattle.std.proofs.lemmas.Grind.{elements}
use Rattle.lrc_run.proofs.cluster_run.run_all.Goals as goal

pub run_all_threads-requires : goal.run_all_threads-requires
run_all_threads-requires g c = grind (arith, elements)
