use Rattle.std.proofs.Common.{ℕ, ◌≡◌, inl, inr, List, Some, slice_get, slice_index_or, refl, sym, ap, subst, ◌∙◌, arith}
use Rattle.std.proofs.lemmas.Bool.{cases_eq, false≢true}
use Rattle.std.proofs.lemmas.Option.{same_Some, slice_get-get_or, slice_get_within}
use Rattle.explore.proofs.state.flat_state.FlatState.has_words.Goals as goal

-- the word that is asked for at this place
abbrev asked : List (ℕ × ℕ) → ℕ → ℕ × ℕ
asked words place = slice_index_or words place (0, 0)

pub returns-then-not-flat_state_has_word : goal.returns-then-not-flat_state_has_word
returns-then-not-flat_state_has_word c = (
  λ no. absurd (false≢true no),
  λ has.
      let words = c.args.words.now in
      let place = c.loop-address.address-index in
      let at = slice_get-get_or words place (0, 0) c.loop-address-test.true in
      let here = has (asked words place).0 (asked words place).1 (place, at) in
      absurd (false≢true (sym c.if-not-flat_state_has_word.true
      ∙ c.flat_state_has_word.ensures.1 (ap (λ memory. slice_get memory (asked words place).0) c.deref.ensures.value ∙ here))),
)

pub loop-address-preserved : goal.loop-address-preserved
loop-address-preserved c = λ k w lt at. elim (cases_eq k c.loop-address.address-index) [
  | inl is ↦
      (let words = c.args.words.now in
      let place = c.loop-address.address-index in
      let there = slice_get-get_or words place (0, 0) c.loop-address-test.true in
      let same : asked words place ≡ w = same_Some (asked words place) w (sym there ∙ ap (slice_get words) (sym is) ∙ at) in
      let here = c.flat_state_has_word.ensures.0 c.if-not-flat_state_has_word.false in
      subst (λ (v : ℕ × ℕ). slice_get c.args.self.now.memory.items v.0 ≡ Some v.1) same
      (ap (λ memory. slice_get memory (asked words place).0) (sym c.deref.ensures.value) ∙ here))
  | inr isnt ↦ c.loop-address.invariant k w (omega arith) at
]

pub returns : goal.returns
returns c = (
  λ yes address word has.
      let lt = slice_get_within c.args.words.now has.0 (address, word) has.1 in
      let end = c.loop-address-test.false in
      c.loop-address.invariant has.0 (address, word) (omega arith) has.1,
  λ has. refl,
)
