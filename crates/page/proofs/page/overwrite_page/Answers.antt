use Rattle.std.proofs.Common.{get_or, arith}
use Rattle.std.proofs.lemmas.Option.{slice_get-get_or}
use Rattle.page.proofs.page.overwrite_page.Goals as goal

pub bounds-words-offset : goal.bounds-words-offset
bounds-words-offset c =
    let xs = c.args.changes.now in
    let k = c.loop-offset.offset-index in
    let fits = c.requires.in_range (get_or xs k (0, 0)) (k, slice_get-get_or xs k (0, 0) c.loop-offset-test.true) in
    omega (arith, fits, c.loop-offset.invariant.long)

pub offset_bounds-words-offset : goal.offset_bounds-words-offset
offset_bounds-words-offset c =
    let xs = c.args.changes.now in
    let k = c.loop-offset.offset-index in
    let fits = c.requires.in_range (get_or xs k (0, 0)) (k, slice_get-get_or xs k (0, 0) c.loop-offset-test.true) in
    omega (arith, fits, c.requires.few)
