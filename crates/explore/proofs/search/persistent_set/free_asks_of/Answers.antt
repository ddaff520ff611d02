use Rattle.std.proofs.Common.{slice_index_or, sym, ap, subst, ◌∙◌, arith}
use Rattle.std.specs.Prelude.{None}
use Rattle.std.proofs.lemmas.List.{length-set}
use Rattle.explore.specs.PersistentSets.{IsPersistentMember}
use Rattle.explore.proofs.ChoosingFree.{choosing_free_among_nexts_set, choosing_free_among_nones, choosing_free_none_length}
use Rattle.explore.proofs.Persistence.{persistence_asks_set}
use Rattle.explore.proofs.search.persistent_set.free_asks_of.Goals as goal

pub loop-processor-init : goal.loop-processor-init
loop-processor-init c = record {
  all = λ g p lock lt. absurd (omega arith);
  among = λ p k at. absurd (choosing_free_among_nones 16 p k at);
  long = choosing_free_none_length 16;
}

pub loop-processor-preserved : goal.loop-processor-preserved
loop-processor-preserved c =
    let old = c.loop-processor.invariant in
    let p = c.loop-processor.processor in
    let lt = c.loop-processor-test.true in
    let few = c.requires in
    let long = old.long in
    record {
      all = λ g q lock less tells ask.
          persistence_asks_set c.loop-processor.asks p lock c.free_ask_of.result (omega arith) q less
          (λ is. c.free_ask_of.ensures.ask g tells lock (subst (IsPersistentMember c.args.members.now) is ask.member)
          (ap (λ r. slice_index_or c.args.nexts.now r None) (sym is) ∙ ask.next) ask.free)
          (λ before. old.all g q lock before tells ask);
      among = choosing_free_among_nexts_set c.args.nexts.now c.loop-processor.asks p c.free_ask_of.result (omega arith) old.among c.free_ask_of.ensures.same;
      long = length-set c.loop-processor.asks p c.free_ask_of.result ∙ long;
    }

pub returns-clause-all : goal.returns-clause-all
returns-clause-all c = λ g p lock lt tells ask. c.loop-processor.invariant.all g p lock (let over = c.loop-processor-test.false in omega (arith, over, lt)) tells ask
