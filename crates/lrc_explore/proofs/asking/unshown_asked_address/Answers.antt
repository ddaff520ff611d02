use Rattle.std.proofs.Common.{ℕ, ◌≡◌, inl, inr, List, slice_get, slice_index_or, sym, ap, subst, ◌∙◌, arith}
use Rattle.std.proofs.lemmas.Bool.{cases_eq, false≢true}
use Rattle.std.proofs.lemmas.Option.{same_Some, slice_get-get_or, slice_get_within}
use Rattle.base.specs.InOrderOnce.{Has}
use Rattle.lrc_explore.proofs.asking.unshown_asked_address.Goals as goal

-- the word that is asked for at this place
abbrev asked : List (ℕ × ℕ) → ℕ → ℕ × ℕ
asked words place = slice_index_or words place (0, 0)

pub returns-then-not-is_among_asked : goal.returns-then-not-is_among_asked
returns-then-not-is_among_asked c =
    let words = c.args.words.now in
    let place = c.loop-address.address-index in
    record {
      word = (asked words place).1;
      asked = (place, slice_get-get_or words place (0, 0) c.loop-address-test.true);
      unshown = λ has. false≢true (sym c.if-not-is_among_asked.true ∙ c.is_among_asked.ensures.1 has);
    }

pub loop-address-preserved : goal.loop-address-preserved
loop-address-preserved c = λ k w lt at. elim (cases_eq k c.loop-address.address-index) [
  | inl is ↦
      (let words = c.args.words.now in
      let place = c.loop-address.address-index in
      let there = slice_get-get_or words place (0, 0) c.loop-address-test.true in
      let same : asked words place ≡ w = same_Some (asked words place) w (sym there ∙ ap (slice_get words) (sym is) ∙ at) in
      subst (λ (v : ℕ × ℕ). Has c.args.shown.now v.0) same (c.is_among_asked.ensures.0 c.if-not-is_among_asked.false))
  | inr isnt ↦ c.loop-address.invariant k w (omega arith) at
]

pub returns : goal.returns
returns c = λ address word has.
    let lt = slice_get_within c.args.words.now has.0 (address, word) has.1 in
    let end = c.loop-address-test.false in
    c.loop-address.invariant has.0 (address, word) (omega arith) has.1
