use Rattle.std.proofs.Common.{◌∷◌, ◌++◌, [], append_assoc, sym, ap, ◌∙◌, arith}
use Rattle.std.specs.Vec.Iter.{into_iter_items}
use Rattle.lrc_run.proofs.JoinedThreads.{joined_threads_more}
use Rattle.lrc_run.proofs.cluster_run.threads.join_run_threads.Goals as goal

pub loop-thread-preserved : goal.loop-thread-preserved
loop-thread-preserved g c =
    let inv = c.loop-thread.invariant in
    let yielded = c.loop-thread.yielded in
    record {
      came = append_assoc yielded (c.in-Some.thread ∷ []) (into_iter_items c.next.new.self)
          ∙ sym (ap (λ xs. yielded ++ xs) c.in-Some.ensures.steps.0) ∙ inv.came;
      room = let was = inv.room in let same = c.push_reserved.ensures.capacity in omega arith;
      are = rw c.push_reserved.ensures.items (joined_threads_more yielded c.loop-thread.outcomes.items c.in-Some.thread
          c.join.result inv.are c.join.ensures);
    }
