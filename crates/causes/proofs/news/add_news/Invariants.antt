use Rattle.std.proofs.Common.{◌≤◌}
use Rattle.causes.proofs.FreshNews.{HasFreshNewsBelow, IsFreshNewsOnceIf}
use Rattle.causes.proofs.news.add_news.Given as goal

abbrev pub invariant-loop-number : goal.invariant-loop-number
invariant-loop-number l = record {
  from : l.first ≤ l.number;
  has : HasFreshNewsBelow l.events l.step l.by l.number l.initial.places.items l.places.items;
  once : IsFreshNewsOnceIf l.events l.by l.initial.places.items l.places.items;
}
