use Rattle.std.proofs.Common.{◌≡◌, ℕ, ◌<◌, ◌≤◌, inl, inr, List, length, vec_len, subst, sym, ap, ◌∙◌, arith}
use Rattle.std.specs.Prelude.{Result, Ok, Err, OnOk}
use Rattle.std.specs.Global.{Vec}
use Rattle.std.proofs.lemmas.Bool.{cases_eq}
use Rattle.journal.specs.declared.event.Event.{Event}
use Rattle.judge.specs.declared.asked_places.AskedPlaces.{AskedPlaces}
use Rattle.judge.specs.declared.sparse_table.SparseTable.{SparseTable}
use Rattle.judge.specs.declared.stored_counts.StoredCounts.{StoredCounts}
use Rattle.judge.specs.declared.stored_steps.StoredStep.{StoredStep}
use Rattle.judge.specs.AskedPlaces.{AreAskedPlaces, asked_steps_from}
use Rattle.judge.specs.JudgedSizes.{judged_sizes_of}
use Rattle.judge.specs.SparseTables.{IsSparseRowOf, sparse_at, sparse_room, sparse_row}
use Rattle.judge.specs.StoredCounts.{AreStoredCountsOf, stored_row}
use Rattle.judge.specs.StoredSteps.{AreStoredSteps, stored_total}
use Rattle.judge.proofs.AskedSteps.{asked_steps_are, asked_steps_fewer}
use Rattle.judge.proofs.NearestRaceSteps.{nearest_race_row_one}
use Rattle.judge.proofs.stored_counts.StoredCounts.let_go.Goals as goal

-- what success gives, success gives
then : {E P Q : Type 0} (r : Result (Unit {0}) E) → OnOk r P → (P → Q) → OnOk r Q
then (Ok x) p f = f p
then (Err e) p f = tt

-- what is kept after steps of a row went
went : (j : List Event) (c : StoredCounts) (steps : SparseTable (Vec StoredStep)) (n q row : ℕ) (asked : AskedPlaces) → AreStoredCountsOf j c
    → q < c.sizes.processors → row ≡ stored_row c.sizes.processors n q → sparse_room steps ≡ sparse_room c.steps
    → vec_len steps.kept ≡ vec_len c.steps.kept
    → IsSparseRowOf c.steps steps row (asked_steps_from asked 0 (sparse_row c.steps row))
    → AreAskedPlaces (judged_sizes_of c.sizes) j n q c.sizes.processors asked → AreStoredCountsOf j (record c { steps = steps })
went j c steps n q row asked tells present at room few are places = record {
  sizes = tells.sizes;
  long = tells.long;
  closed = tells.closed;
  pages = pages;
  words = tells.words;
  steps_sparse = record {
    sparse = are.sparse;
    fits = tells.steps_sparse.fits;
    room = (let was = tells.steps_sparse.room in omega arith);
    few = (let was = tells.steps_sparse.few in omega arith);
  };
  totals_sparse = tells.totals_sparse;
  words_sparse = tells.words_sparse;
}
  where
    IsRow : ℕ → ℕ → List StoredStep → Type 0
    IsRow m r xs = AreStoredSteps (judged_sizes_of c.sizes) j m r xs (stored_total (sparse_at c.totals (stored_row c.sizes.processors m r)))

    pages : (m r : ℕ) → r < c.sizes.processors → IsRow m r (sparse_row steps (stored_row c.sizes.processors m r))
    pages m r lt = elim (cases_eq (stored_row c.sizes.processors m r) (stored_row c.sizes.processors n q)) [
      | inl same ↦
          (let both = nearest_race_row_one c.sizes.processors n m q r present lt same in
          let now : asked_steps_from asked 0 (sparse_row c.steps (stored_row c.sizes.processors n q))
          ≡ sparse_row steps (stored_row c.sizes.processors n q) =
          sym (subst (λ x. sparse_row steps x ≡ asked_steps_from asked 0 (sparse_row c.steps x)) at are.now) in
          let next = asked_steps_are (tells.pages n q present) places in
          subst (λ x. IsRow x r (sparse_row steps (stored_row c.sizes.processors x r))) both.0
          (subst (λ x. IsRow n x (sparse_row steps (stored_row c.sizes.processors n x))) both.1 (subst (IsRow n q) now next)))
      | inr other ↦
          subst (IsRow m r) (sym (are.others (stored_row c.sizes.processors m r) (λ is. other (is ∙ at)))) (tells.pages m r lt)
    ]

pub replace_sparse_table_row-requires-clause-fewer : goal.replace_sparse_table_row-requires-clause-fewer
replace_sparse_table_row-requires-clause-fewer c =
    let s = c.args.self.now in
    let row = sparse_row s.steps c.page_row-row.result in
    let asked = c.args.asked.now in
    let is = c.deref.ensures.value ∙ c.in_ok-left.ensures ∙ ap (asked_steps_from asked 0) c.items_of_row.ensures in
    subst (λ (xs : List StoredStep). length xs ≤ length row) (sym is) (asked_steps_fewer asked 0 row)

pub returns-clause-tells : goal.returns-clause-tells
returns-clause-tells c = then c.replace_sparse_table_row.result c.replace_sparse_table_row.ensures.replaced (λ are j tells places.
    let s = c.args.self.now in
    let row = c.page_row-row.result in
    let steps = c.replace_sparse_table_row.new.table in
    let asked = c.args.asked.now in
    let is = c.deref.ensures.value ∙ c.in_ok-left.ensures ∙ ap (asked_steps_from asked 0) c.items_of_row.ensures in
    went j s steps c.args.page c.args.by row asked tells c.requires.by c.page_row-row.ensures.is c.replace_sparse_table_row.ensures.room
    c.replace_sparse_table_row.ensures.few (subst (IsSparseRowOf s.steps steps row) is are) places)

pub returns-clause-left : goal.returns-clause-left
returns-clause-left c = then c.replace_sparse_table_row.result c.replace_sparse_table_row.ensures.replaced (λ are.
    let s = c.args.self.now in
    let asked = c.args.asked.now in
    let is = c.deref.ensures.value ∙ c.in_ok-left.ensures ∙ ap (asked_steps_from asked 0) c.items_of_row.ensures in
    subst (λ r. sparse_row c.replace_sparse_table_row.new.table r ≡ asked_steps_from asked 0 (sparse_row s.steps r)) c.page_row-row.ensures.is
    (are.now ∙ is))
