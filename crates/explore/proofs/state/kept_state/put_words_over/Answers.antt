use Rattle.std.proofs.Common.{ℕ, suc, ◌≡◌, ◌+◌, ap, slice_index_or, slice_set, take, ◌∙◌, arith}
use Rattle.explore.specs.KeptStates.{words_over}
use Rattle.explore.proofs.TrimmedWords.{words_over_all, words_over_next}
use Rattle.explore.proofs.state.kept_state.put_words_over.Goals as goal

one_more : (i : ℕ) → suc i ≡ i + 1
one_more i = omega arith

pub loop-place-preserved : goal.loop-place-preserved
loop-place-preserved c =
    let words = c.args.words.now in
    let memory = c.args.memory.now in
    let i = c.loop-place.place in
    let end = c.min-place-end.ensures in
    let before = c.loop-place-test.true in
    ap (λ m. slice_set m i (slice_index_or words i 0)) c.loop-place.invariant
    ∙ words_over_next words memory i (omega (arith, end, before)) (omega (arith, end, before))
    ∙ ap (λ n. words_over (take n words) memory) (one_more i)

pub returns : goal.returns
returns c =
    let end = c.min-place-end.ensures in
    let up_to = c.loop-place.auto.place-end in
    let over = c.loop-place-test.false in
    c.loop-place.invariant
    ∙ words_over_all c.args.words.now c.args.memory.now c.loop-place.place (omega (arith, end, up_to)) (omega (arith, end, up_to))
    (λ lt. omega (arith, end, over, lt))
