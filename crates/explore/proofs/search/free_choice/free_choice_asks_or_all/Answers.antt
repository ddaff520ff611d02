use Rattle.std.proofs.Common.{inr}
use Rattle.explore.specs.declared.text.facts.NumberedCalls.TheVariants.{Asks}
use Rattle.explore.proofs.Persistence.{persistence_before}
use Rattle.explore.proofs.search.free_choice.free_choice_asks_or_all.Goals as goal

pub returns-in-Some-clause-choice : goal.returns-in-Some-clause-choice
returns-in-Some-clause-choice c = λ s g given.
    let asked = c.in-Some.ensures in
    inr (inr (inr (inr (record {
      lock = c.in-Some.lock;
      processor = asked.processor;
      asks = asked.asks;
      all = c.free_choice_asks_among.ensures.all;
      others = λ p yet. asked.others p (persistence_before Asks c.args.facts.now.ask_ends c.in-Some.lock given given.told.asks p yet);
    }))))
