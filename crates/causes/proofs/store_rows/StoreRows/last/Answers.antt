use Rattle.std.proofs.Common.{◌≤◌, MatchOption, length, subst, sym, refl, arith}
use Rattle.std.proofs.lemmas.Option.{slice_get_read}
use Rattle.base.specs.InOrderOnce.{InOrder}
use Rattle.judge.specs.GapTally.{gap_tally_place_of}
use Rattle.causes.specs.declared.store_rows.NumberedStore.{NumberedStore}
use Rattle.causes.specs.NumberedStores.{IsLastNumberedStoreUnder, NoNumberedStoreUnder}
use Rattle.causes.proofs.StoreRowSteps.{store_row_intervals_rise}
use Rattle.causes.proofs.store_rows.StoreRows.last.Goals as goal

pub last_store_of_row_under-requires : goal.last_store_of_row_under-requires
last_store_of_row_under-requires c =
    let a = c.args.address in
    let q = c.args.processor in
    let rows = c.args.self.now.rows.items in
    let row = c.index.result.now in
    let j = c.requires.rows.0 in
    let are = c.requires.rows.1 in
    let long = are.long in
    let low = c.requires.address in
    let by = c.requires.processor in
    let there = slice_get_read rows (length rows) (gap_tally_place_of a q) row refl (omega (arith, c.args.self.now.rows.ok.0)) c.index.ensures in
    subst (InOrder (λ (x y : NumberedStore). x.interval ≤ y.interval)) (sym c.deref.ensures.value)
    (store_row_intervals_rise j a q (length j) row.items (are.each a q row by there))

pub returns : goal.returns
returns c =
    let a = c.args.address in
    let q = c.args.processor in
    let rows = c.args.self.now.rows.items in
    let row = c.index.result.now in
    let are = c.requires.rows.1 in
    let long = are.long in
    let low = c.requires.address in
    let by = c.requires.processor in (
      row,
      slice_get_read rows (length rows) (gap_tally_place_of a q) row refl (omega (arith, c.args.self.now.rows.ok.0)) c.index.ensures,
      subst
          (λ xs. MatchOption c.last_store_of_row_under.result (NoNumberedStoreUnder xs c.args.limit) (IsLastNumberedStoreUnder xs c.args.limit))
          c.deref.ensures.value c.last_store_of_row_under.ensures,
    )
