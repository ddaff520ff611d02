use Rattle.lrc_script.specs.Prelude.{plan_of}
use Rattle.lrc_check.specs.Traces.Sizes.{trace_sizes_of}
use Rattle.lrc_tester.proofs.Followed.{followed_answer}
use Rattle.lrc_tester.proofs.follows_command.follow_sources.Goals as goal

pub returns-clause-done : goal.returns-clause-done
returns-clause-done g c = record {
  plan = plan_of c.in_ok-script.script;
  sizes = trace_sizes_of c.in_ok-labelled.labelled.trace.sizes;
  events = c.in_ok-labelled.labelled.trace.events.items;
  are = record { read = c.in_ok-script.ensures.read; told = c.in_ok-labelled.ensures.text };
  answer = followed_answer _ _ _ _ c.in_ok-follows.ensures.done;
}
