use Rattle.std.proofs.Common.{[], ◌∙◌}
use Rattle.std.proofs.lemmas.Result.{IfOk-weaker}
use Rattle.lrc_script.specs.Prelude.{plan_of}
use Rattle.explore.proofs.search.trials.try_for_words.Goals as goal

pub go_by-requires : goal.go_by-requires
go_by-requires c = (plan_of c.args.script.now, c.requires, ([], c.in_ok-run.ensures.through))

pub trial_showing-requires-clause-run : goal.trial_showing-requires-clause-run
trial_showing-requires-clause-run c = c.in_ok-go_by.ensures.run (plan_of c.args.script.now) c.requires ([], c.in_ok-run.ensures.through)

pub returns : goal.returns
returns c = IfOk-weaker c.trial_showing.result _ _ (λ o told. told c.args.detail (c.in_ok-go_by.ensures.telling ∙ c.in_ok-run.ensures.telling)) c.trial_showing.ensures
