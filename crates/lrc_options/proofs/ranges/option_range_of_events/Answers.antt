use Rattle.std.proofs.Common.{◌≡◌, ◌∙◌, List, ℕ, [], ◌∷◌, sym, subst}
use Rattle.lrc_options.specs.Ranges.{IsOptionRangeEnd, IsOptionRangeStart}
use Rattle.lrc_options.proofs.ranges.option_range_of_events.Goals as goal

-- two texts round dots are one way
dots_same : (a b from to : List ℕ) → a ∷ [] ∷ b ∷ [] ≡ from ∷ [] ∷ to ∷ [] → (from ≡ a) × (to ≡ b)
dots_same a b from to is = (cc, cc)

pub returns-in_err-first : goal.returns-in_err-first
returns-in_err-first c = rw c.from_residual-in_err-first.ensures (λ x written.
    let both =
    dots_same c.in_ok-from.from.now c.in_ok-from.to.now written.from written.to
    (sym c.in_ok-from.ensures ∙ written.parts) in
    c.in_err-first.ensures x.first (subst (λ (t : List ℕ). IsOptionRangeStart t x.first) both.0 written.start))

pub returns-in_err-end : goal.returns-in_err-end
returns-in_err-end c = rw c.from_residual-in_err-end.ensures (λ x written.
    let both =
    dots_same c.in_ok-from.from.now c.in_ok-from.to.now written.from written.to
    (sym c.in_ok-from.ensures ∙ written.parts) in
    c.in_err-end.ensures x.end (subst (λ (t : List ℕ). IsOptionRangeEnd t x.end) both.1 written.end_is))
