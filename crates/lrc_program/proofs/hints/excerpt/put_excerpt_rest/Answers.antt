use Rattle.std.proofs.Common.{arith}
use Rattle.std.proofs.lemmas.List.{length-take}
use Rattle.lrc_program.proofs.hints.excerpt.put_excerpt_rest.Goals as goal

pub slice_bounds-first-end : goal.slice_bounds-first-end
slice_bounds-first-end c =
    let past = c.if-rest-le-MOST_SIGNS.false in
    let taken = length-take 72 c.args.rest.now in
    omega (arith, past, taken)
