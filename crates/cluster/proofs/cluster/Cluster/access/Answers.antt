use Rattle.std.proofs.Common.{◌≡◌, false, sym, ap, subst, ◌∙◌}
use Rattle.std.proofs.lemmas.Result.{err_from_is_err_and}
use Rattle.journal.specs.ClosingKinds.{closing_awaits_kind}
use Rattle.cluster.specs.Copies.Sound.{IsSound}
use Rattle.cluster.specs.ProcessorRefusals.{processor_refusal_is_waiting}
use Rattle.cluster.specs.ReadyAccess.{IsAccessReadyBy, IsReadyAccessRefused}
use Rattle.cluster.proofs.CoveringHistories.{covers}
use Rattle.cluster.proofs.MayAccessAndFetch.{may_access_mapped}
use Rattle.cluster.proofs.ReadyAccess.{ready_access_found, ready_access_made, ready_access_readied, ready_access_refused_by, ready_access_waits}
use Rattle.cluster.proofs.cluster.Cluster.access.Given as given
use Rattle.cluster.proofs.cluster.Cluster.access.Goals as goal
use Rattle.cluster.proofs.cluster.Cluster.access.Goals.{After-is_some, After-make_ready}

-- the processor waits if it awaits something
waits : (g : given.Over) (c : After-is_some g) → processor_refusal_is_waiting c.args.processor.now ≡ c.is_some.result
waits g c =
    sym (ap processor_refusal_is_waiting c.processor.view_is) ∙ may_access_mapped closing_awaits_kind _ ∙ sym c.is_some.ensures

-- what made the access ready, or couldn't
readied : (g : given.Over) (c : After-make_ready g) → processor_refusal_is_waiting c.args.processor.now ≡ false
    → IsAccessReadyBy c.args.processor.now c.args.address c.make_ready.new.processor c.make_ready.result
readied g c idle =
    ready_access_readied c.args.processor.now c.access_once.new.processor c.make_ready.new.processor c.args.address c.access_once.result
    c.make_ready.result c.in-Err.ensures.err c.access_once.ensures.covers idle c.access_once.ensures.refused c.in-Err.is
    c.make_ready.ensures

pub returns-then-is_some : goal.returns-then-is_some
returns-then-is_some g c =
    ready_access_waits c.args.processor.now c.args.address
    (waits g (goal.at.returns-then-is_some g c).After-is_some ∙ c.if-is_some.true)

pub returns-in-Ok : goal.returns-in-Ok
returns-in-Ok g c =
    ready_access_found c.args.processor.now c.access_once.new.processor c.args.address c.args.access c.in-Ok.word
    (sym c.in-Ok.ensures.refused) (covers _ (subst IsSound c.processor.view_is c.processor.invariant.0)) c.in-Ok.ensures.ok c.in-Ok.ensures.covers

pub returns-in_ok-make_ready-in-Err : goal.returns-in_ok-make_ready-in-Err
returns-in_ok-make_ready-in-Err g c =
    let once = c.access_once-in-Err in
    let at = goal.at.returns-in_ok-make_ready-in-Err g c in
    ready_access_made c.args.processor.now c.make_ready.new.processor once.new.processor c.args.address c.args.access once.result
    c.in_ok-make_ready-in-Err.was (readied g at.After-make_ready (waits g at.After-is_some ∙ c.if-is_some.false)) once.ensures.refused
    once.ensures.ok once.ensures.covers

pub returns-in_err-make_ready-in-Err : goal.returns-in_err-make_ready-in-Err
returns-in_err-make_ready-in-Err g c =
    let m = c.args.processor.now in
    let a = c.args.address in
    let mid = c.make_ready.new.processor in
    let told = err_from_is_err_and c.from_residual.result c.from_residual.ensures.1 in
    let at = goal.at.returns-in_err-make_ready-in-Err g c in
    rw told.1 (subst (IsReadyAccessRefused m a mid) (sym told.2)
    (ready_access_refused_by m mid a c.in_err-make_ready-in-Err.was
    (readied g at.After-make_ready (waits g at.After-is_some ∙ c.if-is_some.false))))
