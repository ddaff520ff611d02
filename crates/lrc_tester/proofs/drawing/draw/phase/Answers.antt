use Rattle.std.proofs.Common.{◌++◌, List, arith, ap, ◌∙◌}
use Rattle.rand_pcg.specs.Lcg.{Lcg}
use Rattle.lrc_script.specs.declared.script.Instruction.{Instruction}
use Rattle.lrc_tester.specs.Drawing.Draw.{piece, pieces}
use Rattle.lrc_tester.proofs.drawing.Drawn.Repeated.{ahead_more, ahead_none, pieces_repeated, phase_is}
use Rattle.lrc_tester.proofs.drawing.draw.phase.Goals as goal

pub loop-preserved : goal.loop-preserved
loop-preserved c =
    ahead_more (piece c.args.style c.args.shape) (λ n. pieces n c.args.style c.args.shape) _ _ _ _ _ _ _ _
    (pieces_repeated c.args.style c.args.shape) (omega arith) c.in_ok-piece.ensures.items
    c.in_ok-piece.ensures.state c.loop.invariant

pub returns-clause-items : goal.returns-clause-items
returns-clause-items c =
    (ahead_none (piece c.args.style c.args.shape) (λ n. pieces n c.args.style c.args.shape) _ _ _ _ _
    (pieces_repeated c.args.style c.args.shape) (omega arith) c.loop.invariant).0
    ∙ ap (λ (p : List Instruction × Lcg). c.args.section.now.items ++ p.0) (phase_is c.args.style c.args.shape
    c.args.rng.now c.most_pieces.result c.below-count.result c.below-count.new.rng c.most_pieces.ensures
    c.below-count.ensures.value c.below-count.ensures.state)

pub returns-clause-state : goal.returns-clause-state
returns-clause-state c =
    (ahead_none (piece c.args.style c.args.shape) (λ n. pieces n c.args.style c.args.shape) _ _ _ _ _
    (pieces_repeated c.args.style c.args.shape) (omega arith) c.loop.invariant).1
    ∙ ap (λ (p : List Instruction × Lcg). p.1) (phase_is c.args.style c.args.shape c.args.rng.now
    c.most_pieces.result c.below-count.result c.below-count.new.rng c.most_pieces.ensures
    c.below-count.ensures.value c.below-count.ensures.state)
