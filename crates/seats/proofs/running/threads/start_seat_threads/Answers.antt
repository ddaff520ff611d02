use Rattle.std.proofs.Common.{◌≡◌, Some, [], ◌∷◌, ◌++◌, length, slice_get, append_assoc, sym, ap, ◌∙◌, arith}
use Rattle.std.specs.Vec.Iter.{into_iter_items}
use Rattle.seats.proofs.ProgramThreads.{program_thread_new_seat, program_thread_own_cluster, program_thread_behind, program_threads_seated_more}
use Rattle.seats.proofs.running.threads.start_seat_threads.Given.{Over}
use Rattle.seats.proofs.running.threads.start_seat_threads.Goals as goal

-- its place among all
started_at : (g : Over) (c : goal.In-Some g) → slice_get c.args.processors.items (length c.loop-processor.yielded) ≡ Some c.in-Some.processor
started_at g c =
    program_thread_behind c.loop-processor.yielded (into_iter_items c.next.new.self) c.args.processors.items c.in-Some.processor
    (sym (ap (λ xs. c.loop-processor.yielded ++ xs) c.in-Some.ensures.steps.0) ∙ c.loop-processor.invariant.came)

pub start_seat_thread-thread-requires-clause-new : goal.start_seat_thread-thread-requires-clause-new
start_seat_thread-thread-requires-clause-new g c κs within =
    program_thread_new_seat (c.requires.new.each (length c.loop-processor.yielded) c.in-Some.processor (started_at g c))

pub start_seat_thread-thread-requires-clause-own : goal.start_seat_thread-thread-requires-clause-own
start_seat_thread-thread-requires-clause-own g c κs within =
    program_thread_own_cluster (c.requires.new.each (length c.loop-processor.yielded) c.in-Some.processor (started_at g c))

pub start_seat_thread-thread-requires-clause-covers : goal.start_seat_thread-thread-requires-clause-covers
start_seat_thread-thread-requires-clause-covers g c κs within =
    c.requires.covered.covers (length c.loop-processor.yielded) c.in-Some.processor (started_at g c)

pub start_seat_thread-thread-requires-clause-allowed : goal.start_seat_thread-thread-requires-clause-allowed
start_seat_thread-thread-requires-clause-allowed g c κs within =
    c.requires.covered.allowed (length c.loop-processor.yielded) c.in-Some.processor (started_at g c)

pub loop-processor-preserved : goal.loop-processor-preserved
loop-processor-preserved g c =
    let inv = c.loop-processor.invariant in
    let yielded = c.loop-processor.yielded in
    let m = c.in-Some.processor in
    record {
      came = append_assoc yielded (m ∷ []) (into_iter_items c.next.new.self)
          ∙ sym (ap (λ xs. yielded ++ xs) c.in-Some.ensures.steps.0) ∙ inv.came;
      room = let was = inv.room in let same = c.push_reserved.ensures.capacity in omega arith;
      seated = rw c.push_reserved.ensures.items
          (program_threads_seated_more yielded c.loop-processor.threads.items m c.start_seat_thread-thread.result inv.seated c.start_seat_thread-thread.ensures);
    }
