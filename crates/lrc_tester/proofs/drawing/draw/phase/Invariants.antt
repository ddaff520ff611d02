use Rattle.std.proofs.Common.{◌++◌, ◌-◌}
use Rattle.lrc_tester.specs.Drawing.Draw.{pieces}
use Rattle.lrc_tester.proofs.drawing.Drawn.Repeated.{IsAhead}
use Rattle.lrc_tester.proofs.drawing.draw.phase.Given as goal

-- what was drawn before, and what is still drawn
abbrev pub invariant-loop : goal.invariant-loop
invariant-loop l =
    IsAhead (λ n. pieces n l.style l.shape) (l.count - l.counter) l.section.items l.rng
    (l.initial.section.items ++ (pieces l.count l.style l.shape l.initial.rng).0)
    (pieces l.count l.style l.shape l.initial.rng).1
