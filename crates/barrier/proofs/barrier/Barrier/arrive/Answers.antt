use Rattle.std.proofs.Common.{ℕ, ◌≡◌, Bool, Some, List, [], ◌∷◌, ◌++◌, length, set, slice_get, refl, ap, sym, subst}
use Rattle.std.specs.List.{refill}
use Rattle.barrier.specs.declared.barrier.Stage.{Stage}
use Rattle.barrier.specs.declared.barrier.Stage.TheVariants.{Away, Here}
use Rattle.vtime.specs.TicksAndJoins.{join}
use Rattle.barrier.specs.BarrierEpisodes.{BarrierEpisodes, HasGatheredForBarrierEpisode, GathersForBarrierEpisode}
use Rattle.barrier.proofs.LastArrivals.{last_arrival_by_slice, arrival_written_back, last_arrival_gathered}
use Rattle.barrier.proofs.barrier.Barrier.arrive.Goals as goal

pub returns-then-full-clause-complete : goal.returns-then-full-clause-complete
returns-then-full-clause-complete c =
    last_arrival_by_slice c.args.self.now.stages c.self.inside.stages.items c.deref_mut.result.now c.as_slice.result.now
    c.args.processor _ c.requires.away c.deref_mut.ensures.value (ap (λ (b : BarrierEpisodes). b.stages) c.self.view_is)
    c.as_slice.ensures c.barrier_all_here-full.ensures

pub returns-else-full-clause-complete : goal.returns-else-full-clause-complete
returns-else-full-clause-complete c =
    last_arrival_by_slice c.args.self.now.stages c.self.inside.stages.items c.deref_mut.result.now c.as_slice.result.now
    c.args.processor _ c.requires.away c.deref_mut.ensures.value (ap (λ (b : BarrierEpisodes). b.stages) c.self.view_is)
    c.as_slice.ensures c.barrier_all_here-full.ensures

pub returns-else-full-clause-gathers : goal.returns-else-full-clause-gathers
returns-else-full-clause-gathers c times has =
    let i = c.self.inside in
    let p = c.args.processor in
    let time = c.args.time.now in
    let old : BarrierEpisodes = record { stages = i.stages.items; gathered = i.gathered; last = i.last } in
    let Had : BarrierEpisodes → Type 0 = λ b. HasGatheredForBarrierEpisode b times in
    let IsAway : BarrierEpisodes → Type 0 = λ b. slice_get b.stages p ≡ Some Away in
    let gathered =
    last_arrival_gathered old p time times (subst IsAway (sym c.self.view_is) c.requires.away)
    (subst Had (sym c.self.view_is) has) in
    let Stages : List Stage → Type 0 =
    λ ss. HasGatheredForBarrierEpisode (record { stages = ss; gathered = join i.gathered time; last = i.last })
    (times ++ time ∷ []) in
    let staged =
    subst Stages
    (sym (arrival_written_back p Here old.stages c.deref_mut.result.now old.stages c.deref_mut.ensures.value refl))
    gathered in
    let new : List ℕ → BarrierEpisodes =
    λ g. record {
      stages = refill (length old.stages) old.stages (set c.deref_mut.result.now p Here);
      gathered = g;
      last = i.last;
    }
    in
    let Joined : List ℕ → Type 0 = λ g. HasGatheredForBarrierEpisode (new g) (times ++ time ∷ []) in
    let Answered : Bool → Type 0 = λ full. GathersForBarrierEpisode full (new c.join.new.self) time times in
    subst Answered (sym c.if-full.false) (subst Joined (sym c.join.ensures.value) staged)
