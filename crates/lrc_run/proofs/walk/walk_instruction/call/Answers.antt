use Rattle.std.proofs.Common.{refl}
use Rattle.journal.specs.declared.event.Kind.TheVariants as kind
use Rattle.lrc_script.specs.declared.script.Instruction.TheVariants as instruction
use Rattle.lrc_run.proofs.InstructionCalls.{instruction_call_begun, instruction_calls_add_done, instruction_call_done, instruction_call_tried}
use Rattle.lrc_run.proofs.MoreCalls.{sees_more_calls_same_if_tried}
use Rattle.lrc_run.proofs.walk.walk_instruction.call.Goals as goal

pub returns-in-Store-clause-same : goal.returns-in-Store-clause-same
returns-in-Store-clause-same g c =
    sees_more_calls_same_if_tried c.args.processor.now c.store.new.processor c.store.result _ c.store.ensures

pub returns-in-Store-clause-ok : goal.returns-in-Store-clause-ok
returns-in-Store-clause-ok g c =
    let a = c.in-Store.address in
    let v = c.in-Store.value in
    rw c.in-Store.is (instruction_call_tried (kind.Store a v) (instruction.Store a v) c.args.processor.now
    c.store.new.processor c.store.result refl c.store.ensures)

pub returns-in-Add-clause-ok : goal.returns-in-Add-clause-ok
returns-in-Add-clause-ok g c =
    rw c.in-Add.is (instruction_calls_add_done c.in-Add.address c.in-Add.value c.args.processor.now c.add.new.processor c.add.result
    c.add.ensures.ok)

pub returns-in-Cut-clause-same : goal.returns-in-Cut-clause-same
returns-in-Cut-clause-same g c = c.cut.ensures.same

pub returns-in-Cut-clause-ok : goal.returns-in-Cut-clause-ok
returns-in-Cut-clause-ok g c = rw c.in-Cut.is c.cut.ensures.ok

pub returns-in-Acquire-clause-ok : goal.returns-in-Acquire-clause-ok
returns-in-Acquire-clause-ok g c =
    rw c.in-Acquire.is (instruction_call_begun (kind.Ask c.in-Acquire.lock) (kind.Acquire c.in-Acquire.lock) (instruction.Acquire c.in-Acquire.lock) c.ask.result refl refl refl refl c.ask.ensures)

pub returns-in-Barrier-clause-ok : goal.returns-in-Barrier-clause-ok
returns-in-Barrier-clause-ok g c =
    rw c.in-Barrier.is (instruction_call_begun kind.Arrive kind.Depart instruction.Barrier c.arrive.result refl refl refl refl c.arrive.ensures)

pub returns-in-Await-clause-ok : goal.returns-in-Await-clause-ok
returns-in-Await-clause-ok g c =
    rw c.in-Await.is (instruction_call_begun (kind.Watch c.in-Await.flag) (kind.Await c.in-Await.flag) (instruction.Await c.in-Await.flag) c.watch.result refl refl refl refl c.watch.ensures)

pub returns-in-Release-clause-ok : goal.returns-in-Release-clause-ok
returns-in-Release-clause-ok g c =
    rw c.in-Release.is (instruction_call_done (kind.Release c.in-Release.lock) (instruction.Release c.in-Release.lock) c.args.processor.now c.release.new.processor
    c.release.result refl refl refl c.release.ensures)

pub returns-in-Set-clause-ok : goal.returns-in-Set-clause-ok
returns-in-Set-clause-ok g c =
    rw c.in-Set.is (instruction_call_done (kind.Set c.in-Set.flag) (instruction.Set c.in-Set.flag) c.args.processor.now c.set.new.processor
    c.set.result refl refl refl c.set.ensures)
