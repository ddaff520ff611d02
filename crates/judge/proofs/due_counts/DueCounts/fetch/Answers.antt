use Rattle.std.proofs.Common.{◌≡◌, ℕ, ◌<◌, inl, inr, List, slice_index, subst, sym, ap, ◌∙◌, arith}
use Rattle.std.proofs.lemmas.Bool.{cases_eq}
use Rattle.std.specs.Global.{Vec}
use Rattle.std.specs.Prelude.{Result, Ok, Err, OnOk}
use Rattle.journal.specs.declared.event.Event.{Event}
use Rattle.journal.specs.declared.event.Kind.TheVariants.{Fetch}
use Rattle.journal.specs.DidEvent.{did, event}
use Rattle.journal.specs.Sizes.{Sizes}
use Rattle.judge.specs.CutRows.{cut_entry}
use Rattle.judge.specs.declared.sparse_table.SparseTable.{SparseTable}
use Rattle.judge.specs.Cuts.{IsCutOf}
use Rattle.judge.specs.DueCounts.{IsDueFetchedCut}
use Rattle.judge.specs.JudgedSizes.{judged_sizes_of}
use Rattle.judge.specs.SparseTables.{IsSparseRowOf, sparse_row}
use Rattle.judge.specs.StoredCounts.{stored_row}
use Rattle.judge.proofs.DueGaps.{due_fetched_now, due_fetched_others}
use Rattle.judge.proofs.LongerSparseTables.{longer_sparse_next}
use Rattle.judge.proofs.NearestRaceSteps.{nearest_race_row_one}
use Rattle.judge.proofs.TellingCuts.{cut_of_equal, cut_of_present}
use Rattle.judge.proofs.due_counts.DueCounts.fetch.Goals as goal

same_fetch : (p w n r d q w' m r' d' : ℕ) → event p (Fetch w n r d) ≡ event q (Fetch w' m r' d') → (q ≡ p) × (m ≡ n)
same_fetch p w n r d q w' m r' d' is =
    let kind = ap (λ (e : Event). e.kind) is in
    let kinds : Fetch w n r d ≡ Fetch w' m r' d' = kind in
    (sym (ap (λ (e : Event). e.processor) is), cc)

-- the fetches that were, with the one that is
fetched : (s : Sizes) (j : List Event) (p n w r d : ℕ) (old new : SparseTable (Vec ℕ)) (cut : List ℕ) → p < s.processors
    → IsSparseRowOf old new (stored_row s.processors n p) cut → IsCutOf j p (slice_index cut)
    → ((m q : ℕ) → q < s.processors → IsDueFetchedCut s j q m (slice_index (sparse_row old (stored_row s.processors m q))))
    → (m q : ℕ) → q < s.processors
    → IsDueFetchedCut s (did j p (Fetch w n r d)) q m (slice_index (sparse_row new (stored_row s.processors m q)))
fetched s j p n w r d old new cut lt written own were m q less =
    elim (cases_eq (stored_row s.processors m q) (stored_row s.processors n p)) [
      | inl is ↦
          (let both = nearest_race_row_one s.processors n m p q lt less is in
          let Is : ℕ → ℕ → List ℕ → Type 0 = λ y x t. IsDueFetchedCut s (did j p (Fetch w n r d)) y x (slice_index t) in
          subst (λ x. Is q x (sparse_row new (stored_row s.processors x q))) both.0
          (subst (λ y. Is y n (sparse_row new (stored_row s.processors n y))) both.1
          (subst (Is p n) (sym written.now)
          (due_fetched_now s j p n w r d (slice_index cut) own))))
      | inr isnt ↦
          subst (λ (x : List ℕ). IsDueFetchedCut s (did j p (Fetch w n r d)) q m (slice_index x))
          (sym (written.others (stored_row s.processors m q) isnt))
          (due_fetched_others s j (event p (Fetch w n r d)) q m (slice_index (sparse_row old (stored_row s.processors m q)))
          (λ w' r' d' is. isnt (let same = same_fetch p w n r d q w' m r' d' is in
          ap (λ x. stored_row s.processors x q) same.1 ∙ ap (stored_row s.processors n) same.0)) (were m q less))
    ]

-- what success gives, success gives
then : {E P Q : Type 0} (r : Result (Unit {0}) E) → OnOk r P → (P → Q) → OnOk r Q
then (Ok x) p f = f p
then (Err e) p f = tt

pub returns-clause-fetched : goal.returns-clause-fetched
returns-clause-fetched c = then c.set_sparse_table_row.result c.set_sparse_table_row.ensures.set (λ written j tells w r d.
    let x = c.args.self.now in
    let s = judged_sizes_of x.stored.sizes in
    let p = c.args.processor in
    let n = c.args.page in
    let cut = c.of.result.now in
    let present = tells.present in
    let lt = c.requires.processor in
    let own : IsCutOf j p (slice_index cut) =
    cut_of_equal j p (cut_entry x.cuts.processors p) (slice_index cut) (λ q. sym (c.of.ensures.entries q))
    (cut_of_present tells.cuts p (omega (arith, present, lt))) in
    record {
      cuts = fetched s j p n w r d x.fetched c.set_sparse_table_row.new.table cut lt
          (subst (λ z. IsSparseRowOf x.fetched c.set_sparse_table_row.new.table z cut) c.page_row-row.ensures.is written) own tells.fetched.cuts;
      sparse = longer_sparse_next j (event p (Fetch w n r d)) x.fetched c.set_sparse_table_row.new.table written.sparse c.set_sparse_table_row.ensures.room
          c.set_sparse_table_row.ensures.few tells.fetched.sparse;
    })
