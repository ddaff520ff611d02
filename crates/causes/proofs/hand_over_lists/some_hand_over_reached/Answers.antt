use Rattle.std.proofs.Common.{◌≡◌, inl, inr, slice_get, slice_index_or, subst, sym, refl, ap, ◌∙◌, arith}
use Rattle.std.proofs.lemmas.Bool.{cases_eq, false≢true}
use Rattle.std.proofs.lemmas.Option.{same_Some, slice_get-get_or, slice_get_within}
use Rattle.journal.specs.Pasts.{UpTo}
use Rattle.causes.proofs.hand_over_lists.some_hand_over_reached.Goals as goal

pub reaches-requires-clause-place : goal.reaches-requires-clause-place
reaches-requires-clause-place c =
    let places = c.args.places.now in
    let index = c.loop-place.place-index in
    c.requires.places (slice_index_or places index 0) (index, slice_get-get_or places index 0 c.loop-place-test.true)

pub returns-then-reaches : goal.returns-then-reaches
returns-then-reaches c =
    let places = c.args.places.now in
    let index = c.loop-place.place-index in (
      λ is. (
        slice_index_or places index 0,
        (index, slice_get-get_or places index 0 c.loop-place-test.true),
        c.reaches.ensures.0 c.if-reaches.true,
      ),
      λ x. refl,
    )

pub loop-place-preserved : goal.loop-place-preserved
loop-place-preserved c = λ m n lt at up.
    let places = c.args.places.now in
    let index = c.loop-place.place-index in
    elim (cases_eq m index) [
      | inl is ↦
          (let here = slice_get-get_or places index 0 c.loop-place-test.true in
          let same : n ≡ slice_index_or places index 0 =
          same_Some n (slice_index_or places index 0) (sym at ∙ ap (slice_get places) is ∙ here) in
          false≢true (sym c.if-reaches.false
          ∙ c.reaches.ensures.1 (subst (λ k. UpTo c.args.events.now k c.args.from) same up)))
      | inr isnt ↦ c.loop-place.invariant m n (omega arith) at up
    ]

pub returns : goal.returns
returns c = (
  λ is. absurd (false≢true is),
  λ x.
      absurd (let end = c.loop-place-test.false in
      let lt = slice_get_within c.args.places.now x.1.0 x.0 x.1.1 in
      c.loop-place.invariant x.1.0 x.0 (omega arith) x.1.1 x.2),
)
