use Rattle.std.proofs.Common.{inl, inr, sym, ◌∙◌, arith}
use Rattle.std.specs.Prelude.{None}
use Rattle.std.proofs.lemmas.Bool.{cases_lt}
use Rattle.std.proofs.lemmas.List.{get_or_past, length-set}
use Rattle.std.proofs.lemmas.Option.{none-some}
use Rattle.explore.proofs.ChoosingFree.{choosing_free_among_nexts_set, choosing_free_asks_set, choosing_free_among_nones, choosing_free_none_length}
use Rattle.explore.proofs.search.free_choice.free_choice_asks_among.Goals as goal

pub loop-processor-init : goal.loop-processor-init
loop-processor-init c = record {
  all = λ p lt. absurd (omega arith);
  among = λ p k at. absurd (choosing_free_among_nones 16 p k at);
  long = choosing_free_none_length 16;
}

pub loop-processor-preserved : goal.loop-processor-preserved
loop-processor-preserved c =
    let old = c.loop-processor.invariant in
    let p = c.loop-processor.processor in
    let lt = c.loop-processor-test.true in
    let long = old.long in
    record {
      all = choosing_free_asks_set c.args.nexts.now c.loop-processor.asks p c.args.lock c.free_choice_only_ask.result (omega arith) old.all
          c.free_choice_only_ask.ensures.ask;
      among = choosing_free_among_nexts_set c.args.nexts.now c.loop-processor.asks p c.free_choice_only_ask.result (omega arith) old.among c.free_choice_only_ask.ensures.same;
      long = length-set c.loop-processor.asks p c.free_choice_only_ask.result ∙ long;
    }

pub returns-clause-all : goal.returns-clause-all
returns-clause-all c = λ p at. elim (cases_lt p 16) [
  | inl lt ↦ c.loop-processor.invariant.all p (omega arith) at
  | inr past ↦ absurd (none-some _ (sym (get_or_past c.args.nexts.now p None (omega arith)) ∙ at))
]

pub returns-clause-among : goal.returns-clause-among
returns-clause-among c = c.loop-processor.invariant.among
