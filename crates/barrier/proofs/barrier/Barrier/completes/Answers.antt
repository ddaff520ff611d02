use Rattle.std.proofs.Common.{List, length, count_by, ap, ◌∙◌}
use Rattle.barrier.specs.declared.barrier.Stage.{Stage}
use Rattle.barrier.specs.BarrierEpisodes.{BarrierEpisodes, is_here_for_barrier_episode}
use Rattle.barrier.proofs.LastArrivals.{last_arrival_test}
use Rattle.barrier.proofs.barrier.Barrier.completes.Goals as goal

pub returns-clause-full : goal.returns-clause-full
returns-clause-full c time =
    let stages = ap (λ (b : BarrierEpisodes). b.stages) c.self.view_is in
    let count = c.count_here.ensures ∙ ap (count_by is_here_for_barrier_episode) (c.as_slice.ensures ∙ stages) in
    let long = c.len.ensures.value ∙ ap (λ (ss : List Stage). length ss) stages in
    last_arrival_test c.args.self.now.stages c.args.processor c.count_here.result c.len.result c.requires count long
