use Rattle.std.proofs.Common.{◌≡◌, inl, inr, Some, slice_get, sym, subst, ◌∙◌, arith}
use Rattle.std.proofs.lemmas.Bool.{cases_eq}
use Rattle.std.proofs.lemmas.Option.{same_Some, slice_get-get_or, slice_get_within}
use Rattle.explore.specs.UnguardedWords.{AreTextAccessesApart}
use Rattle.explore.proofs.text.text_accesses.open_text_accesses.Goals as goal

pub loop-place-preserved : goal.loop-place-preserved
loop-place-preserved c = λ n x y lt at has. elim (cases_eq n c.loop-place.place) [
  | inl is ↦
      (let accesses = c.args.accesses.now in
      let here = slice_get-get_or accesses c.loop-place.place _ c.loop-place-test.true in
      let same = same_Some _ x (sym here ∙ subst (λ m. slice_get accesses m ≡ Some x) is at) in
      subst (λ z. AreTextAccessesApart z y) same (c.in_default.ensures y has))
  | inr isnt ↦ c.loop-place.invariant n x y (omega arith) at has
]

pub returns : goal.returns
returns c = λ x y has also.
    let within = slice_get_within c.args.accesses.now has.0 x has.1 in
    let over = c.loop-place-test.false in
    let end = c.loop-place.auto.place-end in
    c.loop-place.invariant has.0 x y (omega arith) has.1 also
