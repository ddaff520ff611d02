use Rattle.std.proofs.Common.{◌<◌, length, slice_index, sym, subst}
use Rattle.std.specs.Prelude.{IfSome}
use Rattle.explore.proofs.Persistence.{persistence_late}
use Rattle.explore.proofs.search.persistent_set.settle_barrier.Goals.{in-Some, in-None}
use Rattle.explore.proofs.search.persistent_set.settle_barrier.Goals as goal

pub returns-in-Some-late-clause-settled : goal.returns-in-Some-late-clause-settled
returns-in-Some-late-clause-settled c = λ yes g tells waits.
    let late = c.in-Some-late.late in
    let found : IfSome c.match-late_processor.late (λ q. (q < length c.args.steps.now)
    × (slice_index c.args.state.now.waiting.arrivals q < slice_index c.args.state.now.waiting.arrivals c.args.processor)) =
    elim c.match-late_processor.branch [
      | in-Some w ↦ subst (λ o. IfSome o (λ q. (q < length c.args.steps.now)
          × (slice_index c.args.state.now.waiting.arrivals q < slice_index c.args.state.now.waiting.arrivals c.args.processor))) (sym w.late-is) w.in-Some.ensures
      | in-None w ↦ subst (λ o. IfSome o (λ q. (q < length c.args.steps.now)
          × (slice_index c.args.state.now.waiting.arrivals q < slice_index c.args.state.now.waiting.arrivals c.args.processor))) (sym w.late-is) w.late_processor-late.ensures
    ] in
    let behind : (late < length c.args.steps.now)
    × (slice_index c.args.state.now.waiting.arrivals late < slice_index c.args.state.now.waiting.arrivals c.args.processor) =
    subst (λ o. IfSome o (λ q. (q < length c.args.steps.now)
    × (slice_index c.args.state.now.waiting.arrivals q < slice_index c.args.state.now.waiting.arrivals c.args.processor))) c.in-Some-late.is found in
    persistence_late c.args.steps.now g c.add_member.new.members c.args.state.now.waiting c.args.processor late tells waits behind.0 behind.1
    (c.add_member.ensures.added yes)
