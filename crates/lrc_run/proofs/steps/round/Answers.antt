use Rattle.std.proofs.Common.{add-one, take, ◌∙◌}
use Rattle.std.proofs.lemmas.Option.{slice_get-get_or}
use Rattle.base.proofs.SlicesAndCounts.{slice_take-suc_at}
use Rattle.lrc_script.specs.Plan.{plan_of}
use Rattle.lrc_run.proofs.TurnWays.{turn_way_more, turn_way_after_turn}
use Rattle.lrc_run.proofs.steps.round.Goals as goal

pub loop-p-preserved : goal.loop-p-preserved
loop-p-preserved g c =
    let sections = (plan_of c.args.script.now).sections in
    let list = c.args.list.now in
    let k = c.loop-p.p-index in
    let was = c.loop-p.invariant in
    let turn = c.in_ok-run_step_at.ensures.turn in
    let at = slice_get-get_or list k _ c.loop-p-test.true in
    record {
      way = turn_way_after_turn c.args.cluster.now sections _ c.loop-p.processors.items c.run_step_at.new.processors.items
          c.loop-p.all.items c.run_step_at.new.all.items was.way turn;
      turned = rw (add-one, slice_take-suc_at list k _ at)
          (turn_way_more (take k list) c.args.processors.now.items c.args.all.now.items was.turned
          turn);
      long = c.run_step_at.ensures.long ∙ was.long;
    }
