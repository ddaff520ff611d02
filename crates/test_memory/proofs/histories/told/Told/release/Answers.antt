use Rattle.std.proofs.Common.{refl, map, arith, subst}
use Rattle.std.specs.Arc.{arc_value}
use Rattle.journal.specs.declared.event.Kind.TheVariants.{Release}
use Rattle.journal.specs.WellFormed.{Holds}
use Rattle.test_memory.specs.Histories.Telling.{MayCloseHere}
use Rattle.test_memory.specs.Histories.Keeping.{telling_of}
use Rattle.test_memory.proofs.histories.Calls.{kept_closed, closes_found, follows_release, may_release}
use Rattle.test_memory.proofs.histories.told.Told.release.Goals.{In_ok-records, Else-not-holds}
use Rattle.test_memory.proofs.histories.told.Told.release.Goals as goal

-- p may close its interval
closes : (c : In_ok-records)
    → MayCloseHere (telling_of c.self.inside) c.args.p c.args.block.now (map arc_value c.in_ok-records.records.items)
closes c = closes_found c.self.inside _ c.args.p c.args.block.now _ c.self.view_is c.in_ok-records.ensures

-- it holds the lock
held : (c : Else-not-holds) → Holds c.self.inside.history.items c.args.p c.args.l
held c = subst (λ h. Holds h c.args.p c.args.l) c.deref.ensures.value (c.if-not-holds.ensures.0 refl)

pub invariant_of-self-2 : goal.invariant_of-self-2
invariant_of-self-2 c =
    kept_closed c.self.inside _ c.args.p (Release c.args.l) c.args.block.now _ c.self.invariant refl refl
    c.in_ok-reserve.ensures.items c.note_closing.ensures
    (follows_release (telling_of c.self.inside) c.release.new.self c.args.p c.args.block.now _ c.self.invariant.telling
    (closes (goal.at.invariant_of-self-2 c).In_ok-records) c.args.l (omega arith)
    (held (goal.at.invariant_of-self-2 c).Else-not-holds) c.in_ok-release.ensures.ok)

pub release-requires-clause-call : goal.release-requires-clause-call
release-requires-clause-call c =
    may_release (telling_of c.self.inside).sizes c.self.inside.history.items c.self.inside.book c.args.p
    c.self.invariant.telling.told c.args.l c.args.block.now
    (closes (goal.at.release-requires-clause-call c).In_ok-records).may (omega arith)
    (held (goal.at.release-requires-clause-call c).Else-not-holds)
