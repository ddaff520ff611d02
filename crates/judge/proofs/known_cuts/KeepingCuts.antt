-- The cuts that are kept.
use Rattle.std.proofs.Common.{◌≡◌, ℕ, ◌<◌, ◌≤◌, inl, inr, List, length, slice_index, slice_set, subst, sym, ◌∙◌, arith}
use Rattle.std.proofs.lemmas.Bool.{cases_eq}
use Rattle.std.proofs.lemmas.List.{get_or-set_same, get_or-set_other}
use Rattle.journal.specs.declared.event.Event.{Event}
use Rattle.judge.specs.declared.cut_rows.CutRows.{CutRows}
use Rattle.judge.specs.CutRows.{cut_entry}
use Rattle.judge.specs.CutEntries.{CutEntriesMarkedAt}
use Rattle.judge.specs.Cuts.{IsCutOf}

-- a cut that was added, and then marked, is that without its own entry
pub keeping_cut_pushed : (pushed new : CutRows) (n p : ℕ) (t : List ℕ) → p < length t
    → ((q : ℕ) → cut_entry pushed n q ≡ slice_index t q) → CutEntriesMarkedAt (cut_entry pushed) (cut_entry new) n p 0
    → (q : ℕ) → slice_index (slice_set t p 0) q ≡ cut_entry new n q
keeping_cut_pushed pushed new n p t inside last marked q = elim (cases_eq q p) [
  | inl same ↦ subst (λ r. slice_index (slice_set t p 0) r ≡ cut_entry new n r) (sym same)
      (get_or-set_same t p 0 0 inside ∙ sym marked.own)
  | inr isnt ↦ get_or-set_other t p q 0 0 isnt ∙ sym (marked.others q isnt ∙ last q)
]

-- a processor's cut tells as much without its own entry
pub keeping_cut_without_own : (j : List Event) (t : List ℕ) (p : ℕ) → p < length t → IsCutOf j p (slice_index t)
    → IsCutOf j p (slice_index (slice_set t p 0))
keeping_cut_without_own j t p inside is = record {
  covers = λ i e at apart.
      (let same = get_or-set_other t p e.processor 0 0 apart in
      let was = is.covers i e at apart in
      (λ h. (let lt = was.0 h in omega arith), λ lt. was.1 (omega arith)));
  within = λ q. elim (cases_eq q p) [
    | inl same ↦
        (let zero = get_or-set_same t p 0 0 inside in
        subst (λ r. slice_index (slice_set t p 0) r ≤ length j) (sym same) (omega arith))
    | inr isnt ↦ (let as_before = get_or-set_other t p q 0 0 isnt in let top = is.within q in omega arith)
  ];
}
