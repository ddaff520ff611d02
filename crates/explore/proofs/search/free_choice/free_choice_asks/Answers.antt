use Rattle.std.proofs.Common.{inl, inr}
use Rattle.explore.proofs.search.free_choice.free_choice_asks.Goals as goal

pub returns-in-Some-clause-choice : goal.returns-in-Some-clause-choice
returns-in-Some-clause-choice c = λ s g given. inr (inr (inl (record {
  members = c.in-Some.members;
  has = c.in-Some.ensures s g given;
  all = λ p lock lt ask. c.free_asks_of.ensures.all g p lock lt given.knows.waiting ask;
})))
