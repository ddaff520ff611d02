use Rattle.std.proofs.Common.{ℕ, ◌≡◌, ◌↔◌, inl, inr, List, slice_get, slice_index_or, refl, sym, ap, subst, ◌∙◌, arith}
use Rattle.std.proofs.lemmas.Bool.{cases_eq, false≢true}
use Rattle.std.proofs.lemmas.Option.{same_Some, slice_get-get_or, slice_get_within}
use Rattle.base.specs.InOrderOnce.{Has}
use Rattle.journal.specs.declared.event.Kind.TheVariants.{Load}
use Rattle.explore.proofs.rules.words.are_words_loaded.Goals as goal

-- the word that is asked for at this place
abbrev asked_at : List (ℕ × ℕ) → ℕ → ℕ × ℕ
asked_at words place = slice_index_or words place (0, 0)

pub returns-then-not-is_word_loaded : goal.returns-then-not-is_word_loaded
returns-then-not-is_word_loaded c = (
  λ no. absurd (false≢true no),
  λ are.
      let words = c.args.words.now in
      let place = c.loop-address.address-index in
      let at = slice_get-get_or words place (0, 0) c.loop-address-test.true in
      absurd (false≢true (sym c.if-not-is_word_loaded.true
      ∙ c.is_word_loaded.ensures.1 (λ w. are (asked_at words place).0 (asked_at words place).1 w (place, at)))),
)

pub loop-address-preserved : goal.loop-address-preserved
loop-address-preserved c = λ k asked lt at. elim (cases_eq k c.loop-address.address-index) [
  | inl is ↦
      (let words = c.args.words.now in
      let place = c.loop-address.address-index in
      let there = slice_get-get_or words place (0, 0) c.loop-address-test.true in
      let same : asked_at words place ≡ asked = same_Some (asked_at words place) asked (sym there ∙ ap (slice_get words) (sym is) ∙ at) in
      subst (λ (v : ℕ × ℕ). (w : ℕ) → Has c.args.calls.now (Load v.0 w) ↔ (w ≡ v.1)) same
      (c.is_word_loaded.ensures.0 c.if-not-is_word_loaded.false))
  | inr isnt ↦ c.loop-address.invariant k asked (omega arith) at
]

pub returns : goal.returns
returns c = (
  λ yes address word w has.
      let lt = slice_get_within c.args.words.now has.0 (address, word) has.1 in
      let end = c.loop-address-test.false in
      c.loop-address.invariant has.0 (address, word) (omega arith) has.1 w,
  λ are. refl,
)
