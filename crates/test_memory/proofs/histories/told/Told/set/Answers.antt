use Rattle.std.proofs.Common.{refl, map, arith}
use Rattle.std.specs.Arc.{arc_value}
use Rattle.journal.specs.declared.event.Kind.TheVariants.{Set}
use Rattle.test_memory.specs.Histories.Telling.{MayCloseHere}
use Rattle.test_memory.specs.Histories.Keeping.{telling_of}
use Rattle.test_memory.proofs.histories.Calls.{kept_closed, closes_found, follows_set, may_call}
use Rattle.test_memory.proofs.histories.told.Told.set.Goals.{In_ok-records}
use Rattle.test_memory.proofs.histories.told.Told.set.Goals as goal

-- p may close its interval
closes : (c : In_ok-records)
    → MayCloseHere (telling_of c.self.inside) c.args.p c.args.block.now (map arc_value c.in_ok-records.records.items)
closes c = closes_found c.self.inside _ c.args.p c.args.block.now _ c.self.view_is c.in_ok-records.ensures

pub invariant_of-self-2 : goal.invariant_of-self-2
invariant_of-self-2 c =
    kept_closed c.self.inside _ c.args.p (Set c.args.f) c.args.block.now _ c.self.invariant refl refl
    c.in_ok-reserve.ensures.items c.note_closing.ensures
    (follows_set (telling_of c.self.inside) c.set.new.self c.args.p c.args.block.now _ c.self.invariant.telling
    (closes (goal.at.invariant_of-self-2 c).In_ok-records) c.args.f (omega arith) c.in_ok-set.ensures.ok)

pub set-requires-clause-call : goal.set-requires-clause-call
set-requires-clause-call c =
    may_call (telling_of c.self.inside).sizes c.self.inside.history.items c.self.inside.book c.args.p
    c.self.invariant.telling.told c.args.block.now (closes (goal.at.set-requires-clause-call c).In_ok-records).may
