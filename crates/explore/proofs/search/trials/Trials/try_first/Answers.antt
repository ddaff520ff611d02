use Rattle.std.proofs.Common.{[], ◌∙◌}
use Rattle.std.proofs.lemmas.Result.{on_ok_weaker}
use Rattle.lrc_script.specs.Prelude.{plan_of}
use Rattle.explore.proofs.search.trials.Trials.try_first.Goals as goal

pub go_to_the_end-requires : goal.go_to_the_end-requires
go_to_the_end-requires c = (plan_of c.args.script.now, c.requires, ([], c.in_ok-run.ensures.through))

pub is_whole-requires : goal.is_whole-requires
is_whole-requires c =
    let s = plan_of c.args.script.now in
    (s, c.requires, c.in_ok-go_to_the_end.ensures.run s c.requires ([], c.in_ok-run.ensures.through))

pub returns-then-not-race_free : goal.returns-then-not-race_free
returns-then-not-race_free c = λ are.
    let s = plan_of c.args.script.now in
    let run = c.in_ok-go_to_the_end.ensures.run s c.requires ([], c.in_ok-run.ensures.through) in
    record {
      racy = are.racy;
      hang = are.hang;
      ends = λ yes. (run.0, c.is_whole.ensures c.if-not-is_whole.false s run.0 c.requires run.1);
      outcomes = are.outcomes;
    }

pub returns : goal.returns
returns c = on_ok_weaker c.note_outcome.result (λ noted are.
    let s = plan_of c.args.script.now in
    let run = c.in_ok-go_to_the_end.ensures.run s c.requires ([], c.in_ok-run.ensures.through) in
    let whole = c.is_whole.ensures c.if-not-is_whole.false s run.0 c.requires run.1 in
    noted s c.args.detail (record { racy = are.racy; hang = are.hang; ends = λ yes. (run.0, whole); outcomes = are.outcomes })
    (c.into_outcome.ensures s run.0 c.args.detail run.1 c.requires.lawful.but_uneven.one_each whole.follows
    (c.in_ok-go_to_the_end.ensures.telling ∙ c.in_ok-run.ensures.telling))) c.note_outcome.ensures
