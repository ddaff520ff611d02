use Rattle.lrc_run.proofs.steps.drawn.go_as_drawn.Goals as goal

pub returns-in-Ok-clause-gone : goal.returns-in-Ok-clause-gone
returns-in-Ok-clause-gone g c = record {
  between = c.wander.new.processors.items;
  half = c.wander.new.all.items;
  wandered = c.in_ok-turns.ensures.drawn;
  first = c.in_ok-turns.ensures.taken;
  gone = c.in-Ok.ensures.gone;
}
