use Rattle.std.proofs.Common.{◌+◌, Some, refl, sym, ap, ◌∙◌, arith}
use Rattle.std.proofs.lemmas.List.{length-set}
use Rattle.std.proofs.lemmas.Option.{none-some, slice_get-get_or, slice_get_within}
use Rattle.explore.proofs.ChoosingFree.{choosing_free_ends_idle, choosing_free_ends_next, choosing_free_number_small}
use Rattle.explore.proofs.text.facts.NumberedCalls.ends_in.Goals.{in-Some, in_default}
use Rattle.explore.proofs.text.facts.NumberedCalls.ends_in.Goals as goal

pub loop-place-init : goal.loop-place-init
loop-place-init c = record { ends = λ i n lt. absurd (omega arith); long = refl }

pub offset_bounds-ends-number : goal.offset_bounds-ends-number
offset_bounds-ends-number c =
    let at = slice_get-get_or c.args.row.now c.loop-place.place _ c.loop-place-test.true in
    let is = (c.number.ensures c.in-Some.number).0 c.in-Some.is in
    let small = choosing_free_number_small c.args.self c.in-Some.number _ is (c.requires c.loop-place.place _ at) in
    grind (arith, small)

pub bounds-ends-number : goal.bounds-ends-number
bounds-ends-number c =
    let at = slice_get-get_or c.args.row.now c.loop-place.place _ c.loop-place-test.true in
    let is = (c.number.ensures c.in-Some.number).0 c.in-Some.is in
    choosing_free_number_small c.args.self c.in-Some.number _ is (c.requires c.loop-place.place _ at)

pub loop-place-preserved : goal.loop-place-preserved
loop-place-preserved c =
    let at = slice_get-get_or c.args.row.now c.loop-place.place _ c.loop-place-test.true in
    elim c.match-number.branch [
      | in-Some w ↦
          (let is = (c.number.ensures w.in-Some.number).0 w.in-Some.is in
          let here = at ∙ ap Some is in
          let small = choosing_free_number_small c.args.self w.in-Some.number _ is (c.requires c.loop-place.place _ at) in
          let long = c.loop-place.invariant.long in
          rw w.ends-is (record {
            ends = choosing_free_ends_next c.args.self c.args.row.now c.loop-place.place w.in-Some.number c.loop-place.ends (omega arith) here c.loop-place.invariant.ends;
            long = length-set c.loop-place.ends w.in-Some.number (c.loop-place.place + 1) ∙ long;
          }))
      | in_default w ↦
          rw w.ends-is (record {
            ends = choosing_free_ends_idle c.args.self c.args.row.now c.loop-place.place _ c.loop-place.ends at
                (λ m is. none-some m (sym w.in_default.is ∙ (c.number.ensures m).1 is)) c.loop-place.invariant.ends;
            long = c.loop-place.invariant.long;
          })
    ]

pub returns : goal.returns
returns c = λ i n here.
    let within = slice_get_within c.args.row.now i _ here in
    let over = c.loop-place-test.false in
    c.loop-place.invariant.ends i n (omega (arith, within, over)) here
