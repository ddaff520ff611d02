use Rattle.std.proofs.Common.{◌++◌, ◌-◌}
use Rattle.lrc_tester.specs.Drawing.Draw.{more_phases}
use Rattle.lrc_tester.proofs.drawing.Drawn.Repeated.{IsAhead}
use Rattle.lrc_tester.proofs.drawing.draw.section.Given as goal

-- what was drawn before, and what is still drawn
abbrev pub invariant-loop : goal.invariant-loop
invariant-loop l =
    IsAhead (λ n. more_phases n l.style l.shape) (l.end - l.counter) l.section.items l.rng
    (l.initial.section.items ++ (more_phases l.end l.style l.shape l.initial.rng).0)
    (more_phases l.end l.style l.shape l.initial.rng).1
