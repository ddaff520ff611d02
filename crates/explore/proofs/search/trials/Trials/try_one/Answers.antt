use Rattle.std.proofs.Common.{[], ◌∙◌}
use Rattle.std.proofs.lemmas.Result.{on_ok_weaker}
use Rattle.lrc_script.specs.Prelude.{plan_of}
use Rattle.explore.proofs.search.trials.Trials.try_one.Goals as goal

pub go_by-requires : goal.go_by-requires
go_by-requires c = (plan_of c.args.script.now, c.requires, ([], c.in_ok-run.ensures.through))

pub note-requires-clause-run : goal.note-requires-clause-run
note-requires-clause-run c = c.in_ok-go_by.ensures.run (plan_of c.args.script.now) c.requires ([], c.in_ok-run.ensures.through)

pub returns : goal.returns
returns c = on_ok_weaker c.note.result (λ noted are.
    noted c.args.detail are (c.in_ok-go_by.ensures.telling ∙ c.in_ok-run.ensures.telling)) c.note.ensures
