use Rattle.std.proofs.Common.{List, subst, sym, ◌∙◌, ◌≡◌}
use Rattle.std.specs.Global.{Vec}
use Rattle.std.specs.Vec.{with_items}
use Rattle.journal.specs.declared.event.Event.{Event}
use Rattle.judge.specs.declared.kept_store.KeptStore.{KeptStore}
use Rattle.judge.specs.declared.kept_stores.KeptStores.{KeptStores}
use Rattle.judge.specs.declared.known_cuts.KnownCuts.{KnownCuts}
use Rattle.judge.specs.KeptStores.{AreKeptStoresOf, kept_store_row, kept_stores_of}
use Rattle.judge.specs.MovedCuts.{AreMovedRows, AreMovedStores}
use Rattle.judge.specs.SparseTables.{sparse_items, sparse_mark, sparse_table_value}
use Rattle.judge.proofs.moved_cuts.MovingCuts.{moving_row_kept, moving_rows_longer, moving_table_row, moving_with_items}
use Rattle.judge.proofs.kept_stores.KeptStores.let_go_of_cuts.Goals as goal

-- what is kept after cuts were moved
moved_all : (j : List Event) (s : KeptStores) (known : KnownCuts) (rows : List (Vec KeptStore))
    → known.cuts.width ≡ s.known.cuts.width → AreMovedRows s.known.cuts known.cuts s.stores.kept.items rows → AreKeptStoresOf j s
    → AreKeptStoresOf j (record s { known = known; stores = record s.stores { kept = with_items s.stores.kept rows } })
moved_all j s known rows wide moved tells = record {
  cuts = tells.cuts;
  present = tells.present;
  processors = tells.processors;
  kept = record {
    wide = wide ∙ tells.kept.wide;
    sparse = record {
      sparse = record { within = tells.kept.sparse.sparse.within; apart = tells.kept.sparse.sparse.apart };
      fits = tells.kept.sparse.fits;
      room = tells.kept.sparse.room;
      few = tells.kept.sparse.few;
    };
    stores = λ a q lt.
        (let r = kept_store_row s.processors a q in
        let now = (with_items s.stores.kept rows).items in
        let mark = sparse_mark s.stores.marks.items r in
        let same = moving_with_items s.stores.kept rows moved.long in
        moving_row_kept s.processors j s.known.cuts known.cuts a q (kept_stores_of s a q) (sparse_items (sparse_table_value now mark))
        (subst (λ xs. AreMovedStores s.known.cuts known.cuts (kept_stores_of s a q) (sparse_items (sparse_table_value xs mark)))
        (sym same) (moving_table_row s.known.cuts known.cuts s.stores rows r moved)) (tells.kept.stores a q lt));
  };
}

pub returns-clause-tells : goal.returns-clause-tells
returns-clause-tells c = λ j tells.
    let s = c.args.self.now in
    let known = c.in_ok-self.field-0 in
    let rows = c.move_rows.new.rows in
    let moved = c.in_ok-move_rows.ensures.moved in
    let one = subst (λ xs. AreMovedRows s.known.cuts c.move_rows.new.self.cuts xs rows) c.deref_mut.ensures.value
    c.in_ok-move_rows.ensures.rows in
    let all = moving_rows_longer s.known.cuts c.move_rows.new.self.cuts known.cuts s.stores.kept.items rows
    c.in_ok-self.ensures.kept one in
    moved_all j s known rows (c.in_ok-self.ensures.width ∙ moved.width) all tells
