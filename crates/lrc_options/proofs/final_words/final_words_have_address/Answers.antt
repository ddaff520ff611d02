use Rattle.std.proofs.Common.{ℕ, ◌≡◌, inl, inr, Some, slice_get, slice_index_or, refl, sym, ap, ◌∙◌, arith}
use Rattle.std.proofs.lemmas.Bool.{cases_eq, false≢true}
use Rattle.std.proofs.lemmas.Option.{same_Some, slice_get-get_or, slice_get_within}
use Rattle.lrc_options.proofs.final_words.final_words_have_address.Goals as goal

pub returns-then-other-address : goal.returns-then-other-address
returns-then-other-address c =
    let words = c.args.words.now in
    let place = c.loop-other.other-index in
    let w : ℕ × ℕ = slice_index_or words place (0, 0) in
    let at = slice_get-get_or words place (0, 0) c.loop-other-test.true in (
      λ yes. (w.1, (place, at ∙ ap (λ a. Some (a, w.1)) c.if-other-address.true)),
      λ has. refl,
    )

pub loop-other-preserved : goal.loop-other-preserved
loop-other-preserved c = λ k w lt at same. elim (cases_eq k c.loop-other.other-index) [
  | inl is ↦
      (let words = c.args.words.now in
      let place = c.loop-other.other-index in
      let there = slice_get-get_or words place (0, 0) c.loop-other-test.true in
      let one : slice_index_or words place (0, 0) ≡ w =
      same_Some (slice_index_or words place (0, 0)) w (sym there ∙ ap (slice_get words) (sym is) ∙ at) in
      c.if-other-address.false (ap (λ (v : ℕ × ℕ). v.0) one ∙ same))
  | inr isnt ↦ c.loop-other.invariant k w (omega arith) at same
]

pub returns : goal.returns
returns c = (
  λ no. absurd (false≢true no),
  λ has.
      let lt = slice_get_within c.args.words.now has.1.0 (c.args.address, has.0) has.1.1 in
      let end = c.loop-other-test.false in
      absurd (c.loop-other.invariant has.1.0 (c.args.address, has.0) (omega arith) has.1.1 refl),
)
