use Rattle.std.proofs.Common.{ℕ, ◌≡◌, ◌∙◌, ◌∷◌, [], add-one, false, List, refl, rules, slice_index_or, subst, sym, take}
use Rattle.std.proofs.lemmas.Option.{slice_get-get_or}
use Rattle.base.proofs.SlicesAndCounts.{slice_take-suc_at}
use Rattle.lrc_script.specs.Plan.{plan_of}
use Rattle.conformance.specs.declared.progress.TurnProgress.{TurnProgress}
use Rattle.lrc_run.specs.RunTurns.{AreRunTurnsTaken, IsTurnOfRun}
use Rattle.lrc_run.proofs.TurnWays.{turn_way_after_turn, turn_way_one_taken, turn_way_seen_same, turn_way_seen_then, turn_ways_taken-append}
use Rattle.lrc_run.proofs.steps.drawn.first_on.Goals as goal

pub loop-place-init : goal.loop-place-init
loop-place-init g c = record {
  way = c.requires.way;
  on = turn_way_seen_same c.args.processors.now.items;
  all_is = refl;
  tried = (turn_way_seen_same c.args.processors.now.items, refl);
}

pub loop-place-preserved : goal.loop-place-preserved
loop-place-preserved g c =
    let sections = (plan_of c.args.script.now).sections in
    let was = c.loop-place.invariant in
    let k = c.loop-place.place in
    let order = c.args.order.now in
    let first = c.args.processors.now.items in
    let cur = c.loop-place.processors.items in
    let new = c.run_step_at.new.processors.items in
    let start = c.args.all.now.items in
    let all = c.loop-place.all.items in
    let end = c.run_step_at.new.all.items in
    let stays : c.in_ok-run_step_at.field-0 ≡ false = search rules in
    let vain = c.in_ok-run_step_at.ensures.vain stays in
    let turn = c.in_ok-run_step_at.ensures.turn in
    let p = slice_index_or order k 0 in
    let more = slice_take-suc_at order k p (slice_get-get_or order k 0 c.loop-place-test.true) in
    let P : List ℕ → Type 0 = λ ps. AreRunTurnsTaken sections ps first new start end in
    record {
      way = turn_way_after_turn c.args.cluster.now sections p cur new all end was.way turn;
      on = turn_way_seen_then first cur new was.on vain.0;
      all_is = vain.1 ∙ was.all_is;
      tried = rw add-one (subst P (sym more) (turn_ways_taken-append sections (take k order) (p ∷ []) first cur new start all end was.tried
          (turn_way_one_taken sections p cur cur new all end (turn_way_seen_same cur) turn)));
    }

pub returns-then-branch-clause-way : goal.returns-then-branch-clause-way
returns-then-branch-clause-way g c =
    turn_way_after_turn c.args.cluster.now (plan_of c.args.script.now).sections (slice_index_or c.args.order.now c.loop-place.place 0)
    c.loop-place.processors.items c.run_step_at.new.processors.items c.loop-place.all.items c.run_step_at.new.all.items
    c.loop-place.invariant.way c.in_ok-run_step_at.ensures.turn

pub returns-then-branch-clause-taken : goal.returns-then-branch-clause-taken
returns-then-branch-clause-taken g c =
    let sections = (plan_of c.args.script.now).sections in
    let was = c.loop-place.invariant in
    let p = slice_index_or c.args.order.now c.loop-place.place 0 in
    let cur = c.loop-place.processors.items in
    let new = c.run_step_at.new.processors.items in
    let end = c.run_step_at.new.all.items in
    let P : List TurnProgress → Type 0 = λ xs. IsTurnOfRun sections p cur new xs end in
    turn_way_one_taken sections p c.args.processors.now.items cur new c.args.all.now.items end was.on
    (subst P was.all_is c.in_ok-run_step_at.ensures.turn)

pub returns-then-branch-clause-tried : goal.returns-then-branch-clause-tried
returns-then-branch-clause-tried g c =
    let sections = (plan_of c.args.script.now).sections in
    let was = c.loop-place.invariant in
    let k = c.loop-place.place in
    let order = c.args.order.now in
    let first = c.args.processors.now.items in
    let cur = c.loop-place.processors.items in
    let new = c.run_step_at.new.processors.items in
    let start = c.args.all.now.items in
    let all = c.loop-place.all.items in
    let end = c.run_step_at.new.all.items in
    let p = slice_index_or order k 0 in
    let more = slice_take-suc_at order k p (slice_get-get_or order k 0 c.loop-place-test.true) in
    let P : List ℕ → Type 0 = λ ps. AreRunTurnsTaken sections ps first new start end in
    rw add-one (subst P (sym more) (turn_ways_taken-append sections (take k order) (p ∷ []) first cur new start all end was.tried
    (turn_way_one_taken sections p cur cur new all end (turn_way_seen_same cur) c.in_ok-run_step_at.ensures.turn)))

pub returns-clause-taken : goal.returns-clause-taken
returns-clause-taken g c = (c.loop-place.invariant.on, c.loop-place.invariant.all_is)
