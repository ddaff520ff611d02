use Rattle.std.proofs.Common.{inl, inr}
use Rattle.explore.proofs.search.free_choice.free_choice_hopeless_or_all.Goals as goal

pub returns-in-Some-clause-choice : goal.returns-in-Some-clause-choice
returns-in-Some-clause-choice c = λ s g given. inr (inr (inr (inl (record {
  hopeless = c.is_hopeless.ensures c.if-is_hopeless.true s g given;
  processor = c.in-Some.ensures.0;
  lock = c.in-Some.lock;
  asks = c.in-Some.ensures.1;
  all = c.free_choice_asks_among.ensures.all;
}))))
