use Rattle.std.proofs.Common.{◌<◌, ℕ, All, List, length, subst, sym, refl, arith}
use Rattle.std.proofs.lemmas.Option.{slice_get_read}
use Rattle.lrc_picture.proofs.arrows.arrows.Goals as goal

pub add_arrows-requires-clause-places : goal.add_arrows-requires-clause-places
add_arrows-requires-clause-places c =
    let rows = c.args.incoming.now in
    let long = c.requires.places.long in
    let there = slice_get_read rows (length rows) c.loop-row.row c.index-incoming-row.result refl (omega arith) c.index-incoming-row.is in
    subst (λ (xs : List ℕ). All (λ i. i < length c.args.events.now) xs) (sym c.deref.ensures.value)
    (c.requires.places.within c.loop-row.row c.index-incoming-row.result there)
