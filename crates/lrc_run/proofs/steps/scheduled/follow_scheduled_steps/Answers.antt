use Rattle.std.proofs.Common.{◌≡◌, ◌∷◌, ◌∙◌, [], List, ℕ, add-one, ap, length, refl, subst, take, arith}
use Rattle.std.proofs.Math.Seq.{take-length}
use Rattle.std.proofs.lemmas.Option.{slice_get-get_or}
use Rattle.base.proofs.SlicesAndCounts.{slice_take-suc_at}
use Rattle.lrc_script.specs.Plan.{plan_of}
use Rattle.lrc_run.specs.RunTurns.{AreRunTurnsTaken}
use Rattle.lrc_run.proofs.ScheduledTurns.{scheduled_turn_fault_at}
use Rattle.lrc_run.proofs.TurnWays.{turn_way_one_taken, turn_way_seen_same, turn_ways_taken-append, turn_way_after_turn}
use Rattle.lrc_run.proofs.steps.scheduled.follow_scheduled_steps.Goals as goal

pub loop-place-init : goal.loop-place-init
loop-place-init g c = record { way = c.requires.way; taken = (turn_way_seen_same c.args.processors.now.items, refl) }

pub loop-place-preserved : goal.loop-place-preserved
loop-place-preserved g c =
    let sections = (plan_of c.args.script.now).sections in
    let turns = c.args.turns.now in
    let k = c.loop-place.place in
    let was = c.loop-place.invariant in
    let cur = c.loop-place.processors.items in
    let new = c.follow_scheduled_step_at.new.processors.items in
    let turn = c.in-Ok.ensures.turn in
    let at = slice_get-get_or turns k _ c.loop-place-test.true in
    record {
      way = turn_way_after_turn c.args.cluster.now sections _ cur new c.loop-place.all.items c.follow_scheduled_step_at.new.all.items was.way turn;
      taken = rw (add-one, slice_take-suc_at turns k _ at)
          (turn_ways_taken-append sections (take k turns) (_ ∷ []) c.args.processors.now.items cur new c.args.all.now.items
          c.loop-place.all.items c.follow_scheduled_step_at.new.all.items was.taken
          (turn_way_one_taken sections _ cur cur new c.loop-place.all.items c.follow_scheduled_step_at.new.all.items (turn_way_seen_same cur) turn));
    }

pub returns-clause-taken : goal.returns-clause-taken
returns-clause-taken g c =
    let turns = c.args.turns.now in
    let last : c.loop-place.place ≡ length turns = omega (arith, c.loop-place.auto.place-end, c.loop-place-test.false) in
    let P : List ℕ → Type 0 = λ ps. AreRunTurnsTaken (plan_of c.args.script.now).sections ps c.args.processors.now.items
    c.loop-place.processors.items c.args.all.now.items c.loop-place.all.items in
    subst P (ap (λ k. take k turns) last ∙ take-length turns) c.loop-place.invariant.taken

pub returns-in-Err-clause-fault : goal.returns-in-Err-clause-fault
returns-in-Err-clause-fault g c =
    let turns = c.args.turns.now in
    let at = slice_get-get_or turns c.loop-place.place _ c.loop-place-test.true in
    scheduled_turn_fault_at (plan_of c.args.script.now) turns
    c.loop-place.place c.in-Err.fault (omega (arith, c.loop-place.processors.ok)) c.requires.sizes
    c.loop-place.invariant.way at c.in-Err.ensures.fault
