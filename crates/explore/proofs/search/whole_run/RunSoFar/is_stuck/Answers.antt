use Rattle.std.proofs.Common.{sym, ◌∙◌}
use Rattle.std.proofs.lemmas.Bool.{false≢true}
use Rattle.explore.proofs.search.whole_run.RunSoFar.is_stuck.Goals as goal

pub returns-then-not-is_whole : goal.returns-then-not-is_whole
returns-then-not-is_whole c = λ yes s g lawful through. record {
  beginning = through.knows.beginning;
  unfinished = λ follows. false≢true (sym c.if-not-is_whole.true ∙ (c.is_whole.ensures s g lawful through.knows).1 follows);
  stuck = λ p k begins.
      c.are_neighbours_over.ensures.0 yes p k ((c.neighbour_nexts_of.ensures.nexts s lawful g through.knows p k).1 begins);
}
