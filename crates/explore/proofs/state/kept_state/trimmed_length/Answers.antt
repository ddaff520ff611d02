use Rattle.std.proofs.Common.{ℕ, ◌≡◌, ◌-◌, suc, ap, slice_index_or, ◌∙◌, arith}
use Rattle.explore.proofs.TrimmedWords.{trimmed_words_taken}
use Rattle.explore.proofs.state.kept_state.trimmed_length.Goals as goal

before_last : (n k : ℕ) → n ≡ suc k → n - 1 ≡ k
before_last n k is = omega (arith, is)

pub returns-else-words-length-eq0-clause-trimmed : goal.returns-else-words-length-eq0-clause-trimmed
returns-else-words-length-eq0-clause-trimmed c =
    let words = c.args.words.now in
    trimmed_words_taken words c.loop-length.length c.loop-length.invariant.within c.loop-length.invariant.zeros
    (λ k is zeroth. c.if-words-length-eq0.false (ap (λ n. slice_index_or words n 0) (before_last c.loop-length.length k is) ∙ zeroth))

pub returns-after-loop-length-clause-trimmed : goal.returns-after-loop-length-clause-trimmed
returns-after-loop-length-clause-trimmed c =
    let over = c.loop-length-test.false in
    trimmed_words_taken c.args.words.now c.loop-length.length c.loop-length.invariant.within c.loop-length.invariant.zeros
    (λ k is. absurd (omega (arith, is, over)))
