use Rattle.std.proofs.Common.{ℕ, ◌≡◌, false, true, List, refl, rules, sym, subst, ◌∙◌, ap, arith}
use Rattle.journal.specs.Sizes.{Sizes}
use Rattle.lrc_script.specs.Plan.{plan_of}
use Rattle.lrc_run.specs.DrawnOrders.{AreDrawnOrderProcessors}
use Rattle.lrc_run.specs.RunTurns.{AreRunTurnsTaken}
use Rattle.lrc_run.proofs.DrawnPlaces.{wandering_end, wandering_more, wandering_start}
use Rattle.lrc_run.proofs.TurnWays.{turn_way_seen_same}
use Rattle.lrc_run.proofs.steps.drawn.wander.Goals as goal

pub loop-init : goal.loop-init
loop-init g c =
    let s = plan_of c.args.script.now in
    let ms = c.args.processors.now.items in
    let all = c.args.all.now.items in
    let P : List ℕ → Type 0 = λ ps. AreRunTurnsTaken s.sections ps ms ms all all in
    let long = c.requires.way.many in
    let many : c.len.result ≡ c.args.cluster.now.sizes.processors = omega (arith, c.len.ensures, c.args.processors.now.ok, long) in
    record {
      way = c.requires.way;
      taken = subst P (sym c.new-turns.ensures.items) (turn_way_seen_same ms, refl);
      some = search rules;
      below = subst (λ n. AreDrawnOrderProcessors n c.in-Ok.pace.order.items) many c.in-Ok.ensures.below;
      wanders = wandering_start s c.args.seed c.in-Ok.pace c.new-turns.result.items ms all c.len.result
          (many ∙ ap (λ (x : Sizes). x.processors) c.requires.sizes) c.in-Ok.ensures.walks (c.in-Ok.ensures.turns ∙ c.turns_of.ensures)
          c.in-Ok.ensures.order c.in-Ok.ensures.generator c.new-turns.ensures.items;
    }

pub loop-preserved : goal.loop-preserved
loop-preserved g c =
    let on : c.in_ok-on.on ≡ true = search rules in
    record {
      way = c.in_ok-on.ensures.way;
      taken = c.in_ok-on.ensures.taken c.args.processors.now.items c.args.all.now.items c.loop.invariant.taken;
      some = search rules;
      below = c.in_ok-on.ensures.below;
      wanders = wandering_more c.in_ok-on.ensures.fixed.1 c.in_ok-on.ensures.fixed.0 c.loop.invariant.wanders (c.in_ok-on.ensures.on on);
    }

pub returns-then-not-on-clause-drawn : goal.returns-then-not-on-clause-drawn
returns-then-not-on-clause-drawn g c =
    let off : c.in_ok-on.on ≡ false = search rules in
    wandering_end c.loop.invariant.wanders (c.in_ok-on.ensures.off off)
