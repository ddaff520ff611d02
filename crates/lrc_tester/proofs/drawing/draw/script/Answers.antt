use Rattle.lrc_tester.specs.Drawing.Draw.{seeded}
use Rattle.lrc_tester.proofs.drawing.Drawn.Repeated.{drawn_is}
use Rattle.lrc_tester.proofs.drawing.draw.script.Goals as goal

pub returns : goal.returns
unfolding seeded
returns c =
    drawn_is c.args.style c.args.seed c.seed_from_u64-rng.result c.draw_shape-shape.result c.draw_shape-shape.new.rng
    _ _ c.seed_from_u64-rng.ensures c.draw_shape-shape.ensures.value c.draw_shape-shape.ensures.state
    c.in_ok-sections.ensures c.in_ok-shown.ensures
