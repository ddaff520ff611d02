use Rattle.lrc_run.proofs.steps.scheduled.go_as_scheduled.Goals as goal

pub returns-clause-gone : goal.returns-clause-gone
returns-clause-gone g c = record {
  between = c.follow_scheduled_steps.new.processors.items;
  half = c.follow_scheduled_steps.new.all.items;
  first = c.in_ok-follow_scheduled_steps.ensures.taken;
  gone = c.in_ok-go_round.ensures.gone;
}
