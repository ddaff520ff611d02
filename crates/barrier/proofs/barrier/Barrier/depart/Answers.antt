use Rattle.std.proofs.Common.{◌≡◌, Some, List, slice_get, refl, sym, subst}
use Rattle.barrier.specs.declared.barrier.Stage.{Stage}
use Rattle.barrier.specs.declared.barrier.Stage.TheVariants.{Away, Free}
use Rattle.barrier.specs.BarrierEpisodes.{BarrierEpisodes, HasGatheredForBarrierEpisode}
use Rattle.barrier.proofs.LastArrivals.{arrival_written_back, last_arrivals_after_departure}
use Rattle.barrier.proofs.barrier.Barrier.depart.Goals as goal

pub returns-clause-gathers : goal.returns-clause-gathers
returns-clause-gathers c times has =
    let i = c.self.inside in
    let old : BarrierEpisodes = record { stages = i.stages.items; gathered = i.gathered; last = i.last } in
    let Had : BarrierEpisodes → Type 0 = λ b. HasGatheredForBarrierEpisode b times in
    let IsFree : BarrierEpisodes → Type 0 = λ b. slice_get b.stages c.args.processor ≡ Some Free in
    let gathered =
    last_arrivals_after_departure old c.args.processor times (subst IsFree (sym c.self.view_is) c.requires)
    (subst Had (sym c.self.view_is) has) in
    let Gathered : List Stage → Type 0 = λ ss. HasGatheredForBarrierEpisode (record old { stages = ss }) times in
    subst Gathered (sym (arrival_written_back c.args.processor Away old.stages c.deref_mut.result.now old.stages
    c.deref_mut.ensures.value refl))
    gathered
