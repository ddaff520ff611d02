use Rattle.std.proofs.Common.{◌++◌, ◌∷◌, [], List, arith, ap, ◌∙◌, append_assoc}
use Rattle.rand_pcg.specs.Lcg.{Lcg}
use Rattle.lrc_script.specs.declared.script.Instruction.{Instruction}
use Rattle.lrc_script.specs.declared.script.Instruction.TheVariants.{Barrier}
use Rattle.lrc_tester.specs.Drawing.Draw.{phase, more_phases, section}
use Rattle.lrc_tester.proofs.drawing.Drawn.Repeated.{next_phase, ahead_more, ahead_none, phases_repeated}
use Rattle.lrc_tester.proofs.drawing.draw.section.Goals as goal

pub loop-preserved : goal.loop-preserved
loop-preserved c =
    ahead_more (next_phase c.args.style c.args.shape) (λ n. more_phases n c.args.style c.args.shape) _ _ _ _ _ _ _ _
    (phases_repeated c.args.style c.args.shape) (omega arith) (c.in_ok-phase-2.ensures.items
    ∙ ap (λ (xs : List Instruction). xs ++ (phase c.args.style c.args.shape c.loop.rng).0)
    c.in_ok-push.ensures.items
    ∙ append_assoc c.loop.section.items (Barrier ∷ []) (phase c.args.style c.args.shape c.loop.rng).0)
    c.in_ok-phase-2.ensures.state c.loop.invariant

pub returns-clause-items : goal.returns-clause-items
unfolding section
returns-clause-items c =
    (ahead_none (next_phase c.args.style c.args.shape) (λ n. more_phases n c.args.style c.args.shape) _ _ _ _ _
    (phases_repeated c.args.style c.args.shape) (omega arith) c.loop.invariant).0
    ∙ ap (λ (xs : List Instruction). xs
    ++ (more_phases c.args.shape.barriers c.args.style c.args.shape c.phase.new.rng).0)
    (c.in_ok-phase.ensures.items
    ∙ ap (λ (xs : List Instruction). xs ++ (phase c.args.style c.args.shape c.args.rng.now).0)
    c.new-section.ensures.items)
    ∙ ap (λ (x : Lcg). (phase c.args.style c.args.shape c.args.rng.now).0
    ++ (more_phases c.args.shape.barriers c.args.style c.args.shape x).0)
    c.in_ok-phase.ensures.state

pub returns-clause-state : goal.returns-clause-state
unfolding section
returns-clause-state c =
    (ahead_none (next_phase c.args.style c.args.shape) (λ n. more_phases n c.args.style c.args.shape) _ _ _ _ _
    (phases_repeated c.args.style c.args.shape) (omega arith) c.loop.invariant).1
    ∙ ap (λ (x : Lcg). (more_phases c.args.shape.barriers c.args.style c.args.shape x).1)
    c.in_ok-phase.ensures.state
