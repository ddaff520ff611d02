use Rattle.std.proofs.Common.{length, refl, arith}
use Rattle.std.proofs.lemmas.Option.{slice_get_read, slice_get_within}
use Rattle.lrc_sample.proofs.TallyNoted.{tally_noted_none_more}
use Rattle.lrc_sample.proofs.tally.find_in_sample_tally.Goals as goal

pub loop-place-preserved : goal.loop-place-preserved
loop-place-preserved c =
    let xs = c.args.lines.now in
    let n = c.loop-place.place in
    let item = c.index-lines-place.result in
    let at = slice_get_read xs (length xs) n item refl c.loop-place-test.true c.index-lines-place.is in
    tally_noted_none_more xs c.args.outcome.now n item c.loop-place.invariant at
    (λ e. let yes = c.is_same.ensures.1 e in let isnt = c.if-is_same.false in absurd (cc))

pub returns-then-is_same : goal.returns-then-is_same
returns-then-is_same c =
    let xs = c.args.lines.now in
    let n = c.loop-place.place in
    let item = c.index-lines-place.result in
    let at = slice_get_read xs (length xs) n item refl c.loop-place-test.true c.index-lines-place.is in
    (item, (at, c.is_same.ensures.0 c.if-is_same.true))

pub returns : goal.returns
returns c = λ k line here.
    let within = slice_get_within c.args.lines.now k line here in
    c.loop-place.invariant k line (omega (arith, within, c.loop-place-test.false)) here
