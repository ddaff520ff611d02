use Rattle.std.proofs.Common.{◌≡◌, ◌/◌, Some, slice_get, sym, ap, ◌∙◌, subst, rules, refl}
use Rattle.std.specs.Option.{option_map}
use Rattle.std.specs.Result.{result_err}
use Rattle.journal.specs.ClosingKinds.{closing_awaits_kind}
use Rattle.cluster.specs.Copies.Local.{Local}
use Rattle.cluster.specs.SeatedProcessor.{seated_processor}
use Rattle.cluster.specs.declared.processor.Processor.TheInside.{Inside}
use Rattle.cluster.specs.Copies.Sound.{IsSound}
use Rattle.cluster.proofs.Access.{access_copy_found, access_past, access_at}
use Rattle.cluster.proofs.processor.Processor.admit.Given as given
use Rattle.cluster.proofs.processor.Processor.admit.Goals as goal
use Rattle.cluster.proofs.processor.Processor.admit.Goals.{In-Some}

-- what the fields say of the processor
abbrev local_of : (g : given.Over) → Inside g.row.T.Denot → Local
local_of g i =
    seated_processor i.chair i.number i.shape i.block.items i.replicas.items i.stored i.time i.held.items
    (option_map closing_awaits_kind i.awaits)

-- the copy that is found is the processor's
found : (g : given.Over) (c : In-Some g)
    → let m = c.args.self.now in
    slice_get m.copies (c.args.address / m.sizes.words) ≡ Some c.in-Some.replica.now
found g c =
    let look = c.in-Some.ensures.lookup in
    access_copy_found _ _ c.args.address _ c.in-Some.replica.now
    (ap (local_of g) c.self-inside.view_is ∙ c.self.view_is) c.deref.ensures.value
    look.3.0 look.1

pub returns-in_default-clause-refused : goal.returns-in_default-clause-refused
returns-in_default-clause-refused g c =
    access_past _ _ c.args.address _ (ap (local_of g) c.self-inside.view_is ∙ c.self.view_is)
    (subst IsSound c.self.view_is c.self.invariant.0)
    c.deref.ensures.value c.in_default.ensures.lookup.3

pub returns-then-not-is_valid-clause-refused : goal.returns-then-not-is_valid-clause-refused
returns-then-not-is_valid-clause-refused g c =
    access_at _ _ c.args.address c.in-Some.replica.now _
    (ap (local_of g) c.self-inside.view_is ∙ c.self.view_is)
    (subst IsSound c.self.view_is c.self.invariant.0)
    (found g (goal.at.returns-then-not-is_valid-clause-refused g c).In-Some)
    (rw (sym c.if-not-is_valid.ensures) refl)

pub returns-in_err-admit_event-clause-refused : goal.returns-in_err-admit_event-clause-refused
returns-in_err-admit_event-clause-refused g c =
    let same : result_err c.from_residual.result ≡ Some c.in_err-admit_event.field-0.0 =
    search rules in
    rw same
    (access_at _ _ c.args.address c.in-Some.replica.now _
    (ap (local_of g) c.self-inside.view_is ∙ c.self.view_is)
    (subst IsSound c.self.view_is c.self.invariant.0)
    (found g (goal.at.returns-in_err-admit_event-clause-refused g c).In-Some)
    (rw (sym c.if-not-is_valid.ensures) c.in_err-admit_event.ensures))

pub returns-clause-refused : goal.returns-clause-refused
returns-clause-refused g c =
    access_at _ _ c.args.address c.in-Some.replica.now _
    (ap (local_of g) c.self-inside.view_is ∙ c.self.view_is)
    (subst IsSound c.self.view_is c.self.invariant.0)
    (found g (goal.at.returns-clause-refused g c).In-Some)
    (rw (sym c.if-not-is_valid.ensures) c.in_ok-admit_event.ensures)
