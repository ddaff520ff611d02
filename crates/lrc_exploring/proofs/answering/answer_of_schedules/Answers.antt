use Rattle.std.proofs.Common.{refl}
use Rattle.std.proofs.lemmas.Bool.{false≢true}
use Rattle.lrc_script.specs.Plan.{plan_of}
use Rattle.lrc_exploring.proofs.ToldAnswers.{told_schedule_answer}
use Rattle.lrc_exploring.proofs.answering.answer_of_schedules.Goals as goal

pub returns-then-not-is_racy_verdict-clause-answer : goal.returns-then-not-is_racy_verdict-clause-answer
returns-then-not-is_racy_verdict-clause-answer g c =
    told_schedule_answer _ c.args.options.now (plan_of c.args.script.now) _
    (c.in_ok-answer.ensures c.args.options.now c.in_ok-explored.ensures (λ racy. absurd (false≢true (c.if-not-is_racy_verdict.ensures.1 racy))))

pub returns-in-Ok-clause-answer : goal.returns-in-Ok-clause-answer
returns-in-Ok-clause-answer g c = record {
  schedules = c.in_ok-explored.ensures;
  racy = c.if-not-is_racy_verdict.ensures.0 refl;
  are = c.in-Ok.ensures.allowed;
  memory = c.in-Ok.ensures.shown;
}
