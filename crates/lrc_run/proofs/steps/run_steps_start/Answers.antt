use Rattle.std.proofs.Common.{◌≡◌, ◌∙◌, ap, length, replicate, refl, arith}
use Rattle.lrc_script.specs.Plan.{plan_of}
use Rattle.conformance.specs.declared.progress.TurnProgress.TheVariants.{Next}
use Rattle.lrc_run.proofs.StepsAfterTurns.{step_after_turn_begin}
use Rattle.lrc_run.proofs.steps.run_steps_start.Goals as goal

pub returns-clause-begin : goal.returns-clause-begin
returns-clause-begin g c =
    let ms = c.in_ok-cluster.processors.items in
    let many : c.len.result ≡ length ms = omega (arith, c.len.ensures, c.in_ok-cluster.processors.ok) in
    c.in_ok-all.ensures.ok ∙ ap (λ n. replicate n (Next 0)) many

pub returns-clause-way : goal.returns-clause-way
returns-clause-way g c =
    let ms = c.in_ok-cluster.processors.items in
    step_after_turn_begin c.in_ok-cluster.cluster (plan_of c.args.script.now).sections ms c.in_ok-all.all.items (length ms)
    c.in_ok-cluster.ensures.new refl (returns-clause-begin g c)
