use Rattle.std.proofs.Common.{◌≡◌, ℕ, None, Option, replicate, ap, ◌∙◌, arith}
use Rattle.transit.specs.Letters.{Letter}
use Rattle.transit.proofs.transit.Transit.new.Goals as goal

pub returns : goal.returns
returns c =
    let all : c.loop.counter ≡ c.args.processors = omega arith in
    c.loop.invariant ∙ ap (λ (n : ℕ). replicate {A = Option Letter} n None) all
