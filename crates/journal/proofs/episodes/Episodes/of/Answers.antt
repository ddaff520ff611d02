use Rattle.journal.proofs.episodes.Episodes.of.Goals as goal

pub loop-place-init : goal.loop-place-init
loop-place-init c = c.new-episodes.ensures c.args.processors
