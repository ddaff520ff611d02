use Rattle.std.proofs.Common.{◌≡◌, ℕ, slice_index, subst, sym, ◌∙◌, arith}
use Rattle.std.specs.Prelude.{Result, Ok, Err, OnOk}
use Rattle.journal.specs.declared.event.Kind.TheVariants.{Store}
use Rattle.journal.specs.DidEvent.{event}
use Rattle.judge.specs.CutRows.{cut_entry}
use Rattle.judge.specs.Cuts.{IsCutOf}
use Rattle.std.specs.Global.{Vec}
use Rattle.judge.specs.declared.sparse_table.SparseTable.{SparseTable}
use Rattle.judge.specs.SparseTables.{IsSparseRowWith}
use Rattle.judge.proofs.LongerSparseTables.{longer_sparse_next}
use Rattle.judge.proofs.TellingCuts.{cut_of_equal, cut_of_present}
use Rattle.judge.proofs.kept_stores.KeepingStores.{keeping_rows_next}
use Rattle.judge.proofs.kept_stores.KeptStores.keep_store.Goals as goal

-- what success gives, success gives
then : {E P Q : Type 0} (r : Result (Unit {0}) E) → OnOk r P → (P → Q) → OnOk r Q
then (Ok x) p f = f p
then (Err e) p f = tt

-- a row of this number was written
written : {A : Type 0} {old new : SparseTable (Vec A)} {row r : ℕ} {x : A} → row ≡ r → IsSparseRowWith old new row x
    → IsSparseRowWith old new r x
written {old = old} {new = new} {x = x} same is = subst (λ n. IsSparseRowWith old new n x) same is

pub returns-clause-kept : goal.returns-clause-kept
returns-clause-kept c = then c.push_in_sparse_table_row.result c.push_in_sparse_table_row.ensures.pushed (λ pushed j tells.
    let s = c.args.self.now in
    let p = c.args.processor in
    let a = c.args.address in
    let v = c.args.value in
    let present = tells.present in
    let cut : IsCutOf j p (slice_index c.of.result.now) =
    cut_of_equal j p (cut_entry s.cuts.processors p) (slice_index c.of.result.now) (λ q. sym (c.of.ensures.entries q))
    (cut_of_present tells.cuts p (omega arith)) in
    let placed = c.in_ok-cut.ensures.placed in
    let old = s.known.cuts in
    let new = c.place_of.new.self.cuts in
    let now = c.push_in_sparse_table_row.new.table in
    record {
      wide = c.place_of.ensures.width ∙ tells.kept.wide;
      sparse = longer_sparse_next j (event p (Store a v)) s.stores now pushed.sparse c.push_in_sparse_table_row.ensures.room
          c.push_in_sparse_table_row.ensures.few tells.kept.sparse;
      stores = keeping_rows_next old new a p c.place_of.ensures.kept c.requires.processor
          (written c.row-row.ensures.is pushed) tells.cuts.place placed.0 (placed.1 j cut) tells.kept.stores;
    })
