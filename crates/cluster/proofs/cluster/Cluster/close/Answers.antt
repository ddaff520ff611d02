use Rattle.std.proofs.Common.{refl, sym}
use Rattle.journal.specs.ClosingKinds.{closing_kind}
use Rattle.journal.proofs.Journals.EveryClosing.{every_closing_closes}
use Rattle.book.specs.declared.refused.Refused.TheVariants.{SeatSpent, NoMemory}
use Rattle.cluster.proofs.Admitting.{admitted_may_make}
use Rattle.cluster.proofs.EndedCalls.{ended_call_refused_with, ended_call_outside, ended_call_unmade}
use Rattle.cluster.proofs.cluster.Cluster.close.Goals as goal

pub returns-in_err-admit_closing : goal.returns-in_err-admit_closing
returns-in_err-admit_closing g c =
    rw (ended_call_refused_with _ _ c.from_residual.ensures.1, ← c.in_err-admit_closing.ensures, ← c.processor.view_is)
    (ended_call_outside _ c.processor.invariant.0 refl)

pub returns-then-is_spent : goal.returns-then-is_spent
returns-then-is_spent g c =
    rw (← c.in_ok-admit_closing.ensures, ← c.processor.view_is)
    (ended_call_outside SeatSpent c.processor.invariant.0 (rw (← c.is_spent.ensures, c.if-is_spent.true) refl))

pub returns-in_err-records : goal.returns-in_err-records
returns-in_err-records g c =
    rw (
      ended_call_refused_with _ NoMemory c.from_residual-in_err-records.ensures.1,
      ← c.in_ok-admit_closing.ensures,
      ← c.processor.view_is,
    ) (ended_call_unmade c.processor.invariant.0 (rw (← c.is_spent.ensures, c.if-is_spent.false) refl) (λ l late. late))

pub close_with-requires-clause-may : goal.close_with-requires-clause-may
close_with-requires-clause-may g c κs within =
    admitted_may_make c.args.processor.now (closing_kind c.args.closing) (every_closing_closes c.args.closing)
    (sym c.in_ok-admit_closing.ensures)

pub returns : goal.returns
returns g c = rw (← c.in_ok-admit_closing.ensures) c.close_with.ensures
