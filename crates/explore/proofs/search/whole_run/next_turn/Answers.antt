use Rattle.explore.proofs.search.whole_run.next_turn.Goals as goal

pub returns-in-Some : goal.returns-in-Some
returns-in-Some c = record {
  processor = c.if-processor-steps.true;
  next = λ s g lawful knows. (c.next.ensures s g lawful knows c.in-Some.kind).0 c.in-Some.is;
}
