use Rattle.std.proofs.Common.{◌≡◌, ℕ, List, refl, sym, ap, ◌∙◌, subst}
use Rattle.std.proofs.lemmas.Bool.{false≢true}
use Rattle.journal.specs.declared.event.Event.{Event}
use Rattle.journal.specs.declared.event.Kind.{Kind}
use Rattle.journal.specs.declared.event.Kind.TheVariants.{Fetch}
use Rattle.journal.specs.Sizes.{Sizes}
use Rattle.journal.specs.PageImages.{GapCounts, StoredInGapOfPageImage}
use Rattle.judge.specs.declared.due_counts.DueAmounts.{DueAmounts}
use Rattle.judge.specs.JudgedSizes.{judged_sizes_of}
use Rattle.judge.proofs.ValueCounts.{value_count_unique}
use Rattle.judge.proofs.GapParts.{GapPartRecords, GapPartWrites}
use Rattle.judge.proofs.miscounted.miscount.Goals as goal

abbrev made : ℕ → ℕ → ℕ → DueAmounts
made w r d = record { writers = w; records = r; words = d }

-- a gap has one of each count
unique : (s : Sizes) (j : List Event) (p n w r d : ℕ) (due : DueAmounts)
    → GapCounts s j p n due.writers due.records due.words → GapCounts s j p n w r d
    → due ≡ record { writers = w; records = r; words = d }
unique s j p n w r d due is other =
    let first = value_count_unique (GapPartWrites s j p n) due.writers w is.writers_are other.writers_are in
    let second = value_count_unique (GapPartRecords s j p n) due.records r is.records_are other.records_are in
    let third = value_count_unique (StoredInGapOfPageImage s j p n) due.words d is.words_are other.words_are in
    ap (λ x. made x due.records due.words) first ∙ ap (λ x. made w x due.words) second ∙ ap (made w r) third

-- a fetch that counts what is due counts its gap
counts : (s : Sizes) (j : List Event) (p n w r d : ℕ) (k : Kind) → k ≡ Fetch w n r d → GapCounts s j p n w r d
    → (m w' r' d' : ℕ) → k ≡ Fetch w' m r' d' → GapCounts s j p m w' r' d'
counts s j p n w r d k is due m w' r' d' same =
    let both : Fetch w n r d ≡ Fetch w' m r' d' = sym is ∙ same in
    let a : w ≡ w' = cc in
    let b : n ≡ m = cc in
    let e : r ≡ r' = cc in
    let f : d ≡ d' = cc in
    subst (λ x. GapCounts s j p x w' r' d') b (subst (λ x. GapCounts s j p n x r' d') a
    (subst (λ x. GapCounts s j p n w x d') e (subst (λ x. GapCounts s j p n w r x) f due)))

pub returns-then-is_not_miscounted-clause-verdict : goal.returns-then-is_not_miscounted-clause-verdict
returns-then-is_not_miscounted-clause-verdict c = λ j tells.
    let s = judged_sizes_of c.args.counts.now.stored.sizes in
    let f = c.in-Fetch in
    let p = c.args.event.processor in
    let same = c.if-is_not_miscounted.ensures.0 refl in
    let P : DueAmounts → Type 0 = λ x. GapCounts s j p f.page x.writers x.records x.words in
    counts s j p f.page f.writers f.records f.words c.args.event.kind f.is (subst P same (c.due-due.ensures j tells))

pub returns-else-is_not_miscounted-clause-verdict : goal.returns-else-is_not_miscounted-clause-verdict
returns-else-is_not_miscounted-clause-verdict c = λ j tells.
    let s = judged_sizes_of c.args.counts.now.stored.sizes in
    let f = c.in-Fetch in
    let p = c.args.event.processor in
    let due = c.due-due.ensures j tells in
    record {
      page = f.page;
      writers = f.writers;
      records = f.records;
      words = f.words;
      fetch = f.is;
      wrong = λ counted. false≢true (c.if-is_not_miscounted.ensures.1
          (unique s j p f.page f.writers f.records f.words c.due-due.result due counted));
      due = due;
    }
