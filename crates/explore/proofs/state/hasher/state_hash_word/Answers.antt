use Rattle.std.proofs.Common.{ℕ, zero, suc, ◌≡◌, ◌+◌, ◌-◌, ◌*◌, ◌%◌, ◌^◌, ◌<◌, List, [], ◌∷◌, drop, length, slice_index, refl, sym, ap, ◌∙◌, arith}
use Rattle.explore.specs.StateHashes.{state_hash_word}
use Rattle.explore.proofs.state.hasher.state_hash_word.Goals as goal

nothing_left : (bs : List ℕ) → drop (length bs) bs ≡ []
nothing_left [] = refl
nothing_left (b ∷ bs) = nothing_left bs

one_more : (bs : List ℕ) (i : ℕ) → i < length bs
    → state_hash_word (drop i bs) ≡ ((state_hash_word (drop (suc i) bs) * 256) % 2 ^ 64 + slice_index bs i) % 2 ^ 64
one_more [] i lt = absurd (omega arith)
one_more (b ∷ bs) zero lt = refl
one_more (b ∷ bs) (suc i) lt = one_more bs i (omega arith)

pub loop-rest-init : goal.loop-rest-init
loop-rest-init c = record {
  within = omega arith;
  word = ap state_hash_word (sym (nothing_left c.args.bytes.now));
}

pub loop-rest-preserved : goal.loop-rest-preserved
loop-rest-preserved c =
    let bs = c.args.bytes.now in
    let old = c.loop-rest.invariant in
    let within = old.within in
    let some = c.loop-rest-test.true in
    let i = c.loop-rest.rest - 1 in
    let is : c.loop-rest.rest ≡ suc i = omega (arith, some) in
    record {
      within = omega (arith, within);
      word =
          ap (λ w. ((w * 256) % 2 ^ 64 + slice_index bs i) % 2 ^ 64) (old.word ∙ ap (λ n. state_hash_word (drop n bs)) is)
          ∙ sym (one_more bs i (omega (arith, within, some)));
    }
