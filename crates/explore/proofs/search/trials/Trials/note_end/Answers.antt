use Rattle.std.proofs.lemmas.Result.{on_ok_weaker}
use Rattle.lrc_script.specs.Prelude.{plan_of}
use Rattle.explore.proofs.search.trials.Trials.note_end.Goals as goal

pub is_whole-requires : goal.is_whole-requires
is_whole-requires c = (plan_of c.args.script.now, c.requires.steps, c.requires.run)

pub is_stuck-requires : goal.is_stuck-requires
is_stuck-requires c = (plan_of c.args.script.now, c.requires.steps, c.requires.run)

pub into_hang-requires-clause-hangs : goal.into_hang-requires-clause-hangs
into_hang-requires-clause-hangs c =
    let run = c.requires.run in
    (run.0, run.1, c.is_stuck.ensures c.if-is_stuck.true (plan_of c.args.script.now) run.0 c.requires.steps run.1)

pub returns-then-is_whole : goal.returns-then-is_whole
returns-then-is_whole c = on_ok_weaker c.note_outcome.result (λ noted d are telling.
    let s = plan_of c.args.script.now in
    let run = c.requires.run in
    let whole = c.is_whole.ensures c.if-is_whole.true s run.0 c.requires.steps run.1 in
    noted s d (record { racy = are.racy; hang = are.hang; ends = λ yes. (run.0, whole); outcomes = are.outcomes })
    (c.into_outcome.ensures s run.0 d run.1 c.requires.steps.lawful.but_uneven.one_each whole.follows telling)) c.note_outcome.ensures

pub returns-in_ok-into_hang : goal.returns-in_ok-into_hang
returns-in_ok-into_hang c = λ d are telling. record { racy = are.racy; hang = c.in_ok-into_hang.ensures; ends = are.ends; outcomes = are.outcomes }
