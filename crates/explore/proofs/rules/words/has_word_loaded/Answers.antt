use Rattle.std.proofs.Common.{ℕ, ◌≡◌, inl, inr, List, slice_get, slice_index_or, sym, ap, ◌∙◌, arith}
use Rattle.std.proofs.lemmas.Bool.{cases_eq, false≢true}
use Rattle.std.proofs.lemmas.Option.{same_Some, slice_get-get_or, slice_get_within}
use Rattle.journal.specs.declared.event.Kind.{Kind}
use Rattle.journal.specs.declared.event.Kind.TheVariants.{Load}
use Rattle.explore.proofs.rules.words.has_word_loaded.Goals as goal

-- the call at this place
abbrev called : List Kind → ℕ → Kind
called calls place = slice_index_or calls place (Load 0 0)

pub loop-call-preserved : goal.loop-call-preserved
loop-call-preserved c = λ k lt at. elim (cases_eq k c.loop-call.call-index) [
  | inl is ↦
      (let calls = c.args.calls.now in
      let place = c.loop-call.call-index in
      let load = Load c.args.address c.args.word in
      let there = slice_get-get_or calls place (Load 0 0) c.loop-call-test.true in
      let same : called calls place ≡ load = same_Some (called calls place) load (sym there ∙ ap (slice_get calls) (sym is) ∙ at) in
      false≢true (sym c.if-is_word_load.false ∙ c.is_word_load.ensures.1 same))
  | inr isnt ↦ c.loop-call.invariant k (omega arith) at
]

pub returns : goal.returns
returns c = (
  λ no. absurd (false≢true no),
  λ has.
      let lt = slice_get_within c.args.calls.now has.0 (Load c.args.address c.args.word) has.1 in
      let end = c.loop-call-test.false in
      absurd (c.loop-call.invariant has.0 (omega arith) has.1),
)
