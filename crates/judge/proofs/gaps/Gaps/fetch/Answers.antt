use Rattle.std.proofs.Common.{◌≡◌, ℕ, ◌<◌, inl, inr, Option, List, slice_index, subst, sym, ap, arith}
use Rattle.std.proofs.lemmas.Bool.{cases_eq}
use Rattle.std.specs.Prelude.{Result, Ok, Err, OnOk}
use Rattle.journal.specs.declared.event.Event.{Event}
use Rattle.journal.specs.declared.event.Kind.TheVariants.{Store, Fetch}
use Rattle.journal.specs.DidEvent.{did, event}
use Rattle.journal.specs.Pasts.{InPast}
use Rattle.journal.specs.Sizes.{Sizes}
use Rattle.journal.specs.Times.{IsTimeOf}
use Rattle.journal.specs.ClockEntry.{entry}
use Rattle.journal.proofs.Times.TimesOfPlaces.{time_of_places_equal}
use Rattle.judge.specs.JudgedSizes.{judged_sizes_of}
use Rattle.judge.specs.declared.sparse_table.SparseTable.{SparseTable}
use Rattle.judge.specs.FetchGaps.{FetchGapBroughtUpTo, fetch_gap_clock, fetch_gap_time}
use Rattle.judge.specs.SparseTables.{IsSparseWith}
use Rattle.judge.specs.GapTally.{gap_tally_place_of}
use Rattle.judge.proofs.GapEvents.{gap_event_fetched_now, gap_event_fetched_others}
use Rattle.judge.proofs.KeepingGaps.{keeping_gaps}
use Rattle.judge.proofs.gaps.Gaps.fetch.Goals as goal

not_store : (p w n r d q a v : ℕ) → event p (Fetch w n r d) ≡ event q (Store a v) → ⊥
not_store p w n r d q a v is =
    let kind = ap (λ (e : Event). e.kind) is in let kinds : Fetch w n r d ≡ Store a v = kind in cc

same_fetch : (p w n r d q w' m r' d' : ℕ) → event p (Fetch w n r d) ≡ event q (Fetch w' m r' d') → (q ≡ p) × (m ≡ n)
same_fetch p w n r d q w' m r' d' is =
    let kind = ap (λ (e : Event). e.kind) is in
    let kinds : Fetch w n r d ≡ Fetch w' m r' d' = kind in
    (sym (ap (λ (e : Event). e.processor) is), cc)

-- the fetches that were, with the one that is
fetched : (s : Sizes) (j : List Event) (p n w r d : ℕ) (old new : SparseTable (List ℕ)) (time : List ℕ) → p < 16
    → IsSparseWith old new (gap_tally_place_of n p) time → IsTimeOf j p (slice_index time)
    → ((m q : ℕ) → q < 16 → FetchGapBroughtUpTo s j q m (fetch_gap_time old (gap_tally_place_of m q)))
    → (m q : ℕ) → q < 16 → FetchGapBroughtUpTo s (did j p (Fetch w n r d)) q m (fetch_gap_time new (gap_tally_place_of m q))
fetched s j p n w r d old new time lt written own were m q less = elim (cases_eq (gap_tally_place_of m q) (gap_tally_place_of n p)) [
  | inl is ↦
      (let first : n ≡ m = omega arith in
      let second : p ≡ q = omega arith in
      subst (λ x. FetchGapBroughtUpTo s (did j p (Fetch w n r d)) q x (fetch_gap_time new (gap_tally_place_of x q))) first
      (subst (λ x. FetchGapBroughtUpTo s (did j p (Fetch w n r d)) x n (fetch_gap_time new (gap_tally_place_of n x))) second
      (subst (λ (x : Option (List ℕ)). FetchGapBroughtUpTo s (did j p (Fetch w n r d)) p n (slice_index (fetch_gap_clock x)))
      (sym written.now) (gap_event_fetched_now s j p n w r d (slice_index time) own))))
  | inr isnt ↦
      subst (λ (x : Option (List ℕ)). FetchGapBroughtUpTo s (did j p (Fetch w n r d)) q m (slice_index (fetch_gap_clock x)))
      (sym (written.others (gap_tally_place_of m q) isnt))
      (gap_event_fetched_others s j (event p (Fetch w n r d)) q m (fetch_gap_time old (gap_tally_place_of m q))
      (λ w' r' d' is. isnt (let same = same_fetch p w n r d q w' m r' d' is in
      let first = same.0 in let second = same.1 in omega arith)) (were m q less))
]

-- what success gives, success gives
then : {E P Q : Type 0} (r : Result (Unit {0}) E) → OnOk r P → (P → Q) → OnOk r Q
then (Ok x) p f = f p
then (Err e) p f = tt

pub returns-clause-long : goal.returns-clause-long
returns-clause-long c = then c.set.result c.set.ensures.set
    (λ written. let long = c.requires.tells.1.long in record {
      sizes = long.sizes;
      fetched = written.sparse;
      fetched_room = (let room = long.fetched_room in let same = c.set.ensures.room in omega arith);
      intervals = long.intervals;
    })

pub returns-clause-kept : goal.returns-clause-kept
returns-clause-kept c = then c.set.result c.set.ensures.set (λ written j tells w r d.
    let g = c.args.self.now in
    let s = judged_sizes_of g.sizes in
    let p = c.args.processor in
    let n = c.args.page in
    let small = tells.long.sizes.processors in
    let lt = c.requires.processor in
    let sixteen : p < 16 = omega arith in
    let row = c.gap_row_at.ensures in
    let t = c.of-time.result.now in
    let time : IsTimeOf j p (slice_index t) =
    time_of_places_equal j (InPast j p) (entry g.clocks.processors.items p) (slice_index t)
    (λ q. sym (c.of-time.ensures q)) (tells.clocks.times p sixteen) in
    let fetches =
    fetched s j p n w r d g.fetched c.set.new.self t sixteen
    (subst (λ x. IsSparseWith g.fetched c.set.new.self x t) row written) time tells.are.fetched in
    keeping_gaps j (event p (Fetch w n r d)) g c.set.new.self (not_store p w n r d) fetches
    (let more = c.set.ensures.few in let few = tells.are.few in omega arith) tells.are)
