use Rattle.std.proofs.Common.{refl}
use Rattle.std.proofs.lemmas.Bool.{false≢true}
use Rattle.lrc_script.specs.Plan.{plan_of}
use Rattle.lrc_exploring.proofs.ToldAnswers.{told_words}
use Rattle.lrc_exploring.proofs.answering.answer_until.Goals as goal

pub returns-then-not-is_racy_showing-clause-answer : goal.returns-then-not-is_racy_showing-clause-answer
returns-then-not-is_racy_showing-clause-answer g c = (
  told_words c.args.options.now (plan_of c.args.script.now) _ _ _ c.requires.some c.explore_detail-detail.ensures c.as_slice-words.ensures.value
      c.in_ok-explored.ensures c.in_ok-refuse_unshown.ensures.shown,
  λ racy. absurd (false≢true (c.if-not-is_racy_showing.ensures.1 racy)),
)

pub returns-in-Ok-clause-answer : goal.returns-in-Ok-clause-answer
returns-in-Ok-clause-answer g c = record {
  words =
      told_words c.args.options.now (plan_of c.args.script.now) _ _ _ c.requires.some c.explore_detail-detail.ensures
      c.as_slice-words.ensures.value c.in_ok-explored.ensures c.in_ok-refuse_unshown.ensures.shown;
  racy = c.if-not-is_racy_showing.ensures.0 refl;
  is = c.in-Ok.ensures.allowed;
  memory = c.in-Ok.ensures.shown;
}
