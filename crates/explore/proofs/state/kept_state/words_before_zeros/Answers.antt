use Rattle.std.proofs.Common.{ℕ, ◌≡◌, ◌+◌, ◌-◌, ◌≤◌, ap, drop, length, length-drop, slice_index_or, sym, take_all, ◌∙◌, arith}
use Rattle.std.proofs.lemmas.List.{get_or-drop}
use Rattle.explore.proofs.state.kept_state.words_before_zeros.Goals as goal

back : (n i : ℕ) → n ≤ i → i ≡ n + (i - n)
back n i le = omega (arith, le)

pub returns-then-are_zeros-clause-zeros : goal.returns-then-are_zeros-clause-zeros
returns-then-are_zeros-clause-zeros c = λ i le.
    let words = c.args.words.now in
    let n = c.args.likely in
    let long = length-drop n words in
    ap (λ j. slice_index_or words j 0) (back n i le) ∙ sym (get_or-drop n words (i - n) 0)
    ∙ sym (ap (λ ws. slice_index_or ws (i - n) 0) (take_all (length words - n) (drop n words) (omega (arith, long))))
    ∙ c.are_zeros.ensures.0 c.if-are_zeros.true (i - n)
