use Rattle.causes.proofs.FreshNews.{AreFreshNewsBelow}
use Rattle.causes.proofs.news.news.Given as goal

abbrev pub invariant-loop-by : goal.invariant-loop-by
invariant-loop-by l = AreFreshNewsBelow l.events l.step l.by l.places.items
