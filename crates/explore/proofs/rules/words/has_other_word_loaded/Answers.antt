use Rattle.std.proofs.Common.{ℕ, ◌≡◌, inl, inr, List, slice_get, slice_index_or, sym, ap, ◌∙◌, arith}
use Rattle.std.proofs.lemmas.Bool.{cases_eq, false≢true}
use Rattle.std.proofs.lemmas.Option.{same_Some, slice_get-get_or, slice_get_within}
use Rattle.std.proofs.lemmas.Grind.{elements}
use Rattle.journal.specs.declared.event.Kind.{Kind}
use Rattle.journal.specs.declared.event.Kind.TheVariants.{Load}
use Rattle.explore.proofs.rules.words.has_other_word_loaded.Goals as goal

-- the call at this place
abbrev called : List Kind → ℕ → Kind
called calls place = slice_index_or calls place (Load 0 0)

pub loop-call-preserved : goal.loop-call-preserved
loop-call-preserved c = λ k other lt at. elim (cases_eq k c.loop-call.call-index) [
  | inl is ↦
      (let calls = c.args.calls.now in
      let place = c.loop-call.call-index in
      let load = Load c.args.address other in
      let there = slice_get-get_or calls place (Load 0 0) c.loop-call-test.true in
      let same : called calls place ≡ load = same_Some (called calls place) load (sym there ∙ ap (slice_get calls) (sym is) ∙ at) in
      elim (cases_eq other c.args.word) [
        | inl word ↦ word
        | inr another ↦
            absurd (false≢true (sym c.if-is_other_word_load.false ∙ c.is_other_word_load.ensures.1 (other, same, another)))
      ])
  | inr isnt ↦ c.loop-call.invariant k other (omega arith) at
]

pub returns : goal.returns
returns c = (
  λ no. absurd (false≢true no),
  λ some.
      let lt = slice_get_within c.args.calls.now some.1.0 (Load c.args.address some.0) some.1.1 in
      let end = c.loop-call-test.false in
      absurd (some.2 (c.loop-call.invariant some.1.0 some.0 (omega arith) some.1.1)),
)

pub returns-then-is_other_word_load : goal.returns-then-is_other_word_load
returns-then-is_other_word_load c = grind (arith, elements)
