use Rattle.std.proofs.Common.{rules, ◌≡◌, ◌<◌, Some, [], ◌∷◌, ◌++◌, length, slice_get, append_assoc, refl, subst, sym, ap, ◌∙◌, arith}
use Rattle.std.proofs.lemmas.Option.{slice_get_read, slice_get_within}
use Rattle.std.specs.Vec.Iter.{into_iter_items}
use Rattle.cluster.proofs.FinishingLastBlocks.{last_blocks_mapped_at}
use Rattle.lrc_script.specs.Plan.{plan_sections}
use Rattle.lrc_run.proofs.JoinedThreads.{joined_threads_behind, joined_threads_started_more}
use Rattle.lrc_run.proofs.cluster_run.threads.start_run_threads.Goals as goal

pub start_run_thread-thread-requires : goal.start_run_thread-thread-requires
start_run_thread-thread-requires g c =
    let inv = c.loop-processor.invariant in
    let yielded = c.loop-processor.yielded in
    let m = c.in-Some.processor in
    let at = joined_threads_behind yielded (into_iter_items c.next.new.self) c.args.processors.items m
    (sym (ap (λ xs. yielded ++ xs) c.in-Some.ensures.steps.0) ∙ inv.came) in
    let here : m.lock ≡ c.args.cluster.now.lock = ap (λ m. m.lock) (c.requires.new.each (length yielded) m at) in
    search rules

pub loop-processor-preserved : goal.loop-processor-preserved
loop-processor-preserved g c =
    let inv = c.loop-processor.invariant in
    let yielded = c.loop-processor.yielded in
    let m = c.in-Some.processor in
    let section = c.index-sections-len.result in
    let sections = c.args.sections.now in
    let same : c.len.result ≡ length yielded = let long = inv.started.all in omega (arith, c.len.ensures, long) in
    let all = c.args.processors.items in
    let less = slice_get_within all (length yielded) m
    (joined_threads_behind yielded (into_iter_items c.next.new.self) all m
    (sym (ap (λ xs. yielded ++ xs) c.in-Some.ensures.steps.0) ∙ inv.came)) in
    let within : c.len.result < length sections = omega (arith, same, less, c.requires.sections) in
    let at = last_blocks_mapped_at (λ s. s.items) sections c.len.result section
    (slice_get_read sections (length sections) c.len.result section refl within c.index-sections-len.is) in
    let P : _ = λ k. slice_get (plan_sections sections) k ≡ Some section.items in
    record {
      came = append_assoc yielded (m ∷ []) (into_iter_items c.next.new.self)
          ∙ sym (ap (λ xs. yielded ++ xs) c.in-Some.ensures.steps.0) ∙ inv.came;
      room = let was = inv.room in let same = c.push_reserved.ensures.capacity in omega arith;
      started = rw c.push_reserved.ensures.items
          (joined_threads_started_more c.args.course.now.tries yielded (plan_sections sections) c.loop-processor.threads.items m section.items
          c.start_run_thread-thread.result inv.started (subst P same at) c.start_run_thread-thread.ensures);
    }
