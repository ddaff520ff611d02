use Rattle.std.proofs.Common.{◌∷◌, ◌++◌, [], Ok, Err, append_assoc, sym, ap, subst, ◌∙◌, arith}
use Rattle.std.proofs.lemmas.List.{length_push}
use Rattle.std.specs.Vec.Iter.{into_iter_items}
use Rattle.seats.specs.ProgramRuns.{IsProgramRunWork}
use Rattle.seats.proofs.ProgramThreads.{program_threads_end_more, program_threads_ended_more, program_threads_fault_more}
use Rattle.seats.proofs.ToldFaults.{none_faulted_before, none_faulted_not_last}
use Rattle.seats.proofs.running.threads.join_seat_threads.Goals as goal

pub loop-thread-preserved-in-Ok : goal.loop-thread-preserved-in-Ok
loop-thread-preserved-in-Ok g c =
    let inv = c.loop-thread.invariant in
    let yielded = c.loop-thread.yielded in
    let more = length_push yielded c.in-Some.thread in
    let first = c.push_reserved.ensures in
    let second = c.push_reserved-in-Ok.ensures in
    let third = c.push_reserved-in-Ok-2.ensures in
    let long = length_push c.loop-thread.workers.processors.items c.in-Ok.processor in
    let wide = length_push c.loop-thread.workers.answers.items c.in-Ok.answer in
    let ends = length_push c.loop-thread.workers.ends.items (Ok tt) in
    let work = subst (IsProgramRunWork g.P.Program.did c.in-Some.thread) c.in-Ok.is c.join.ensures in
    record {
      came = append_assoc yielded (c.in-Some.thread ∷ []) (into_iter_items c.next.new.self)
          ∙ sym (ap (λ xs. yielded ++ xs) c.in-Some.ensures.steps.0) ∙ inv.came;
      processors_fit = let was = inv.processors_fit in let same = first.capacity in omega arith;
      answers_fit = let was = inv.answers_fit in let same = second.capacity in omega arith;
      processors_few = rw first.items (let was = inv.processors_few in omega (arith, was, more, long));
      answers_few = rw second.items (let was = inv.answers_few in omega (arith, was, more, wide));
      ends_fit = let was = inv.ends_fit in let same = third.capacity in omega arith;
      ends_long = rw third.items (let was = inv.ends_long in omega (arith, was, more, ends));
      ended = rw third.items (program_threads_end_more inv.ends_long c.in-Some.thread c.in-Ok.processor c.in-Ok.answer inv.ended work);
      joined = λ none. rw (first.items, second.items)
          (program_threads_ended_more c.in-Some.thread c.in-Ok.processor c.in-Ok.answer
          (inv.joined (none_faulted_before c.loop-thread.workers.ends.items (Ok tt) (rw third.items at none))) work);
    }

pub loop-thread-preserved : goal.loop-thread-preserved
loop-thread-preserved g c =
    let inv = c.loop-thread.invariant in
    let yielded = c.loop-thread.yielded in
    let more = length_push yielded c.in-Some.thread in
    let last = c.push_reserved-in-Err.ensures in
    let ends = length_push c.loop-thread.workers.ends.items (Err c.in-Err.fault) in
    record {
      came = append_assoc yielded (c.in-Some.thread ∷ []) (into_iter_items c.next.new.self)
          ∙ sym (ap (λ xs. yielded ++ xs) c.in-Some.ensures.steps.0) ∙ inv.came;
      processors_fit = inv.processors_fit;
      answers_fit = inv.answers_fit;
      processors_few = let was = inv.processors_few in omega (arith, was, more);
      answers_few = let was = inv.answers_few in omega (arith, was, more);
      ends_fit = let was = inv.ends_fit in let same = last.capacity in omega arith;
      ends_long = rw last.items (let was = inv.ends_long in omega (arith, was, more, ends));
      ended = rw last.items (program_threads_fault_more inv.ends_long c.in-Some.thread c.in-Err.fault inv.ended);
      joined = λ none. absurd (none_faulted_not_last c.loop-thread.workers.ends.items c.in-Err.fault (rw last.items at none));
    }
