use Rattle.std.proofs.Common.{◌-◌, map}
use Rattle.lrc_tester.specs.Drawing.Draw.{drawn_sections}
use Rattle.lrc_tester.proofs.drawing.Drawn.Repeated.{IsAhead}
use Rattle.lrc_tester.proofs.drawing.draw.sections.Given as goal

-- what was drawn before, and what is still drawn
abbrev pub invariant-loop : goal.invariant-loop
invariant-loop l =
    IsAhead (λ n. drawn_sections n l.style l.shape) (l.end - l.counter)
    (map (λ section. section.items) l.sections.items) l.rng (drawn_sections l.end l.style l.shape l.initial.rng).0
    (drawn_sections l.end l.style l.shape l.initial.rng).1
