use Rattle.std.proofs.Common.{ℕ, ◌-◌, ◌<◌, ◌≤◌, List, subst, sym, refl, arith}
use Rattle.journal.specs.declared.event.Event.{Event}
use Rattle.journal.specs.Events.{event_closes, event_interval_at}
use Rattle.journal.specs.Sizes.{Sizes}
use Rattle.journal.specs.PageImages.{HasPageImageCount}
use Rattle.journal.proofs.Order.EventPlacesAndCounts.{event_count-mono}
use Rattle.judge.specs.declared.stored_steps.StoredAmounts.{StoredAmounts}
use Rattle.judge.specs.DueCounts.{AreDueAmountsBetween}
use Rattle.judge.specs.FetchGaps.{FetchGapStoreInPage, FetchGapStoreOfWord}
use Rattle.judge.specs.JudgedSizes.{judged_sizes_of}
use Rattle.judge.specs.StoredSteps.{AreStoredAmounts, IsStoredLimit}
use Rattle.std.proofs.Common.{take}
use Rattle.judge.proofs.DueGaps.{due_count_between, due_records_known, due_words_known}
use Rattle.judge.proofs.ValueCounts.{value_count_none}
use Rattle.judge.proofs.due_counts.DueCounts.between.Goals as goal

-- no interval ends after `from`, but not after `to`, where that isn't later
none_between : (s : Sizes) (j : List Event) (n q from to : ℕ) → to ≤ from
    → AreDueAmountsBetween s j n q from to (record { writers = 0; records = 0; words = 0 })
none_between s j n q from to le =
    let up = event_count-mono event_closes j to from q le in
    record {
      writers = refl;
      records = value_count_none
          (λ (k : ℕ). FetchGapStoreInPage s j n q k × (event_interval_at j q from ≤ k) × (k < event_interval_at j q to))
          (λ k h. (let low = h.1 in let high = h.2 in omega (arith, up, low, high)));
      words = value_count_none
          (λ (y : ℕ × ℕ). FetchGapStoreOfWord s j n q y × (event_interval_at j q from ≤ y.0) × (y.0 < event_interval_at j q to))
          (λ y h. (let low = h.1 in let high = h.2 in omega (arith, up, low, high)));
    }

pub returns-then-to-from-clause-counts : goal.returns-then-to-from-clause-counts
returns-then-to-from-clause-counts c = λ j tells first second.
    subst (AreDueAmountsBetween (judged_sizes_of c.args.self.now.stored.sizes) j c.args.page c.args.by c.args.from c.args.to)
    (sym c.none.ensures)
    (none_between (judged_sizes_of c.args.self.now.stored.sizes) j c.args.page c.args.by c.args.from c.args.to c.if-to-from.true)

-- what is stored before both places, and between them
records : {s : Sizes} {j : List Event} {n q from to : ℕ} {had all : StoredAmounts} → from ≤ to → IsStoredLimit j q from
    → IsStoredLimit j q to → AreStoredAmounts s (take from j) n q had → AreStoredAmounts s (take to j) n q all
    → (had.records ≤ all.records) × HasPageImageCount
    (λ (k : ℕ). FetchGapStoreInPage s j n q k × (event_interval_at j q from ≤ k) × (k < event_interval_at j q to)) (all.records - had.records)
records {s = s} {j = j} {n = n} {q = q} {from = from} {to = to} {had = had} {all = all} le first second small large =
    due_count_between (FetchGapStoreInPage s j n q) (λ (k : ℕ). k) (event_interval_at j q from) (event_interval_at j q to) had.records
    all.records (event_count-mono event_closes j from to q le) (due_records_known first small) (due_records_known second large)

words : {s : Sizes} {j : List Event} {n q from to : ℕ} {had all : StoredAmounts} → from ≤ to → IsStoredLimit j q from
    → IsStoredLimit j q to → AreStoredAmounts s (take from j) n q had → AreStoredAmounts s (take to j) n q all
    → (had.words ≤ all.words) × HasPageImageCount
    (λ (y : ℕ × ℕ). FetchGapStoreOfWord s j n q y × (event_interval_at j q from ≤ y.0) × (y.0 < event_interval_at j q to)) (all.words - had.words)
words {s = s} {j = j} {n = n} {q = q} {from = from} {to = to} {had = had} {all = all} le first second small large =
    due_count_between (FetchGapStoreOfWord s j n q) (λ (y : ℕ × ℕ). y.0) (event_interval_at j q from) (event_interval_at j q to) had.words
    all.words (event_count-mono event_closes j from to q le) (due_words_known first small) (due_words_known second large)

pub overflow_sub-records : goal.overflow_sub-records
overflow_sub-records c =
    let j = c.requires.tells.0 in
    let stored = c.requires.tells.1.stored in
    let first = c.requires.tells.2 in
    let second = c.requires.tells.3 in
    (records (let lt = c.if-to-from.false in omega arith) first.limit second.limit (c.before-had.ensures j stored first)
    (c.before-all.ensures j stored second)).0

pub overflow_sub-result : goal.overflow_sub-result
overflow_sub-result c =
    let j = c.requires.tells.0 in
    let stored = c.requires.tells.1.stored in
    let first = c.requires.tells.2 in
    let second = c.requires.tells.3 in
    (words (let lt = c.if-to-from.false in omega arith) first.limit second.limit (c.before-had.ensures j stored first)
    (c.before-all.ensures j stored second)).0

pub returns-clause-counts : goal.returns-clause-counts
returns-clause-counts c = λ j tells first second.
    let le : c.args.from ≤ c.args.to = (let lt = c.if-to-from.false in omega arith) in
    let small = c.before-had.ensures j tells.stored first in
    let large = c.before-all.ensures j tells.stored second in
    record {
      writers = c.due_writers_of.ensures;
      records = (records le first.limit second.limit small large).1;
      words = (words le first.limit second.limit small large).1;
    }
