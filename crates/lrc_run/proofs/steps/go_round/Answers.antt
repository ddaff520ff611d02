use Rattle.std.proofs.Common.{rules, true, ◌≡◌, ◌∙◌, ◌++◌, List, ap, drop, length, take, subst, arith}
use Rattle.std.proofs.lemmas.Grind.{elements}
use Rattle.std.proofs.Math.Seq.{take-append_seam}
use Rattle.std.specs.Prelude.{All}
use Rattle.lrc_script.specs.Plan.{plan_of}
use Rattle.conformance.specs.declared.progress.TurnProgress.{TurnProgress}
use Rattle.conformance.specs.declared.progress.TurnProgress.TheVariants.{Passed}
use Rattle.lrc_run.proofs.TurnWays.{turn_way_before_rounds, turn_way_next_round}
use Rattle.lrc_run.proofs.steps.go_round.Goals as goal

pub loop-init : goal.loop-init
loop-init g c =
    let ms = c.args.processors.now.items in
    let many : c.len.result ≡ length ms = omega (arith, c.len.ensures, c.args.processors.now.ok) in
    record {
      between = turn_way_before_rounds c.args.cluster.now (plan_of c.args.script.now) c.args.seed ms c.args.all.now.items _
          c.requires.way c.generator_of-generator.ensures;
      long = omega (arith, c.in-Ok.ensures, many, c.requires.way.many);
    }

pub returns-then-have_passed-clause-gone : goal.returns-then-have_passed-clause-gone
returns-then-have_passed-clause-gone g c = c.loop.invariant.between.gone

pub returns-then-have_passed-clause-whole : goal.returns-then-have_passed-clause-whole
returns-then-have_passed-clause-whole g c =
    let P : List TurnProgress → Type 0 = λ xs. All (λ x. x ≡ Passed) xs in
    λ _. subst P c.as_slice.ensures.value (c.have_passed.ensures.0 c.if-have_passed.true)

pub returns-then-branch-clause-gone : goal.returns-then-branch-clause-gone
returns-then-branch-clause-gone g c =
    let s = plan_of c.args.script.now in
    let list = c.deref.result.now in
    let n = length c.deref_mut.result.now in
    let many : n ≡ c.args.cluster.now.sizes.processors = omega (arith, c.deref_mut.ensures.len, c.loop.invariant.long) in
    let order = c.draw.new.list in
    let rest = drop (length order) c.loop.list.items in
    let fits : c.loop.list.len ≡ length order = omega (arith, c.draw.ensures.below.1, c.deref_mut.ensures.len) in
    let drawn_is : list ≡ order =
    c.deref.ensures.value ∙ ap (λ k. take k (order ++ rest)) fits ∙ take-append_seam order rest in
    let round = c.in_ok-round_in_vain.ensures.round in
    let next = turn_way_next_round list
    c.requires.sizes many c.loop.invariant.between (drawn_is ∙ c.draw.ensures.list) c.draw.ensures.state
    round.turns round.seen in
    next.gone

pub returns-then-branch-clause-stuck : goal.returns-then-branch-clause-stuck
returns-then-branch-clause-stuck g c =
    let stuck : c.in_ok-round_in_vain.field-0 ≡ true = search rules in
    λ _. c.in_ok-round_in_vain.ensures.stuck stuck

pub loop-preserved : goal.loop-preserved
loop-preserved g c =
    let s = plan_of c.args.script.now in
    let list = c.deref.result.now in
    let n = length c.deref_mut.result.now in
    let many : n ≡ c.args.cluster.now.sizes.processors = omega (arith, c.deref_mut.ensures.len, c.loop.invariant.long) in
    let order = c.draw.new.list in
    let rest = drop (length order) c.loop.list.items in
    let fits : c.loop.list.len ≡ length order = omega (arith, c.draw.ensures.below.1, c.deref_mut.ensures.len) in
    let drawn_is : list ≡ order =
    c.deref.ensures.value ∙ ap (λ k. take k (order ++ rest)) fits ∙ take-append_seam order rest in
    let round = c.in_ok-round_in_vain.ensures.round in
    let next = turn_way_next_round list
    c.requires.sizes many c.loop.invariant.between (drawn_is ∙ c.draw.ensures.list) c.draw.ensures.state
    round.turns round.seen in
    record { between = next; long = search rules }

pub round_in_vain-requires : goal.round_in_vain-requires
round_in_vain-requires g c = grind (arith, elements)
