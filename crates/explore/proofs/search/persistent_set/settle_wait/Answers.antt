use Rattle.std.proofs.Common.{Some, sym, ap, ◌∙◌, arith}
use Rattle.std.proofs.lemmas.Bool.{false≢true, leb-true}
use Rattle.judge.specs.Why.{WhyWaitsFor}
use Rattle.journal.specs.declared.event.Kind.TheVariants.{Acquire, Await, Depart}
use Rattle.explore.specs.declared.text.facts.NumberedCalls.TheVariants.{Sets}
use Rattle.explore.specs.PersistentSets.PersistentMember.{ended, waits_for_lock, waits_for_others, waits_for_flag}
use Rattle.explore.specs.WaitCodes.{wait_code_end_of, wait_code_ending}
use Rattle.explore.proofs.MachineSteps.{machine_step_read_at}
use Rattle.explore.proofs.Persistence.{persistence_all}
use Rattle.explore.proofs.search.persistent_set.settle_wait.Goals as goal

pub returns-in-Some-Lock-clause-settled : goal.returns-in-Some-Lock-clause-settled
returns-in-Some-Lock-clause-settled c = λ yes s g nexts given.
    let waits : WhyWaitsFor g c.args.processor (Acquire c.in-Some-Lock.lock) =
    (given.knows.waiting.waits c.args.processor (Acquire c.in-Some-Lock.lock)).0 (ap wait_code_ending (sym c.wait.ensures ∙ c.in-Some-Lock.is)
    ∙ ap (λ w. Some (wait_code_end_of w)) c.in-Some-Lock.field-0-is) in
    waits_for_lock c.in-Some-Lock.lock waits (c.settle_lock.ensures.settled yes g given.knows.waiting)

pub returns-in-Some-Barrier-clause-settled : goal.returns-in-Some-Barrier-clause-settled
returns-in-Some-Barrier-clause-settled c = λ yes s g nexts given.
    let waits : WhyWaitsFor g c.args.processor Depart =
    (given.knows.waiting.waits c.args.processor Depart).0 (ap wait_code_ending (sym c.wait.ensures ∙ c.in-Some-Barrier.is)
    ∙ ap (λ w. Some (wait_code_end_of w)) c.in-Some-Barrier.field-0-is) in
    waits_for_others waits (c.settle_barrier.ensures.settled yes g given.knows.waiting waits)

pub returns-then-not-is_set-clause-settled : goal.returns-then-not-is_set-clause-settled
returns-then-not-is_set-clause-settled c = λ yes s g nexts given.
    let flag = c.in-Some-Flag.flag in
    let waits : WhyWaitsFor g c.args.processor (Await flag) =
    (given.knows.waiting.waits c.args.processor (Await flag)).0 (ap wait_code_ending (sym c.wait.ensures ∙ c.in-Some-Flag.is)
    ∙ ap (λ w. Some (wait_code_end_of w)) c.in-Some-Flag.field-0-is) in
    waits_for_flag flag waits
    (λ k q does. false≢true (sym c.if-not-is_set.true ∙ (c.is_set.ensures g given.knows.waiting).1 (k, q, does)))
    (persistence_all Sets c.args.facts.now.set_ends c.add_all_yet_to_call.new.members flag given given.told.sets (c.add_all_yet_to_call.ensures.all yes))

pub returns-then-processor-steps-clause-settled : goal.returns-then-processor-steps-clause-settled
returns-then-processor-steps-clause-settled c = λ yes s g nexts given.
    let p = c.args.processor in
    let row = c.index-steps-processor.result in
    let at = machine_step_read_at c.args.steps.now p row c.if-processor-steps.true c.index-steps-processor.is in
    let small = c.requires.processor in
    let done = given.knows.done p (omega (arith, small)) in
    let over = leb-true c.len.result c.steps_done.result yes in
    ended row at (grind (arith, done, over, c.len.ensures, c.steps_done.ensures))
