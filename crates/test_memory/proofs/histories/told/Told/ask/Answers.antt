use Rattle.std.proofs.Common.{refl, map, arith, sym, subst}
use Rattle.std.specs.Arc.{arc_value}
use Rattle.journal.specs.declared.event.Kind.TheVariants.{Ask}
use Rattle.journal.specs.WellFormed.{Holds}
use Rattle.std.proofs.lemmas.Bool.{true≢false}
use Rattle.test_memory.specs.Histories.Telling.{MayCloseHere}
use Rattle.test_memory.specs.Histories.Keeping.{telling_of}
use Rattle.test_memory.proofs.histories.Calls.{kept_closed, closes_found, follows_ask, may_ask}
use Rattle.test_memory.proofs.histories.told.Told.ask.Goals.{In_ok-records, Else-holds}
use Rattle.test_memory.proofs.histories.told.Told.ask.Goals as goal

-- p may close its interval
closes : (c : In_ok-records)
    → MayCloseHere (telling_of c.self.inside) c.args.p c.args.block.now (map arc_value c.in_ok-records.records.items)
closes c = closes_found c.self.inside _ c.args.p c.args.block.now _ c.self.view_is c.in_ok-records.ensures

-- it doesn't hold the lock
free : (c : Else-holds) → ¬ Holds c.self.inside.history.items c.args.p c.args.l
free c held =
    true≢false
    (sym (c.if-holds.ensures.1 (subst (λ h. Holds h c.args.p c.args.l) (sym c.deref.ensures.value) held)))

pub invariant_of-self-2 : goal.invariant_of-self-2
invariant_of-self-2 c =
    kept_closed c.self.inside _ c.args.p (Ask c.args.l) c.args.block.now _ c.self.invariant refl refl
    c.in_ok-reserve.ensures.items c.note_closing.ensures
    (follows_ask (telling_of c.self.inside) c.ask.new.self c.args.p c.args.block.now _ c.self.invariant.telling
    (closes (goal.at.invariant_of-self-2 c).In_ok-records) c.args.l (omega arith)
    (free (goal.at.invariant_of-self-2 c).Else-holds) c.in_ok-ask.ensures.ok)

pub ask-requires-clause-call : goal.ask-requires-clause-call
ask-requires-clause-call c =
    may_ask (telling_of c.self.inside).sizes c.self.inside.history.items c.self.inside.book c.args.p
    c.self.invariant.telling.told c.args.l c.args.block.now
    (closes (goal.at.ask-requires-clause-call c).In_ok-records).may (omega arith)
    (free (goal.at.ask-requires-clause-call c).Else-holds)
