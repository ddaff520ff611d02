use Rattle.judge.proofs.FrontAsking.{IsFrontAskingFound, AreFrontAskingFrom}
use Rattle.judge.proofs.frontier.Frontier.first_ask.Given as goal

abbrev pub invariant-loop-processor : goal.invariant-loop-processor
invariant-loop-processor l = record {
  found : IsFrontAskingFound l.self.last.items l.self.place l.lock l.first l.limit;
  least : AreFrontAskingFrom l.self.last.items l.lock l.limit l.processor;
}
