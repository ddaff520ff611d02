use Rattle.std.proofs.Common.{◌≡◌, ◌==◌, ◌&&◌, ℕ, ◌+◌, ◌/◌, ◌<◌, ◌≤◌, ◌^◌, List, [], ◌∷◌, length, slice_index, subst, sym, refl, ap, ◌∙◌, arith, length-append}
use Rattle.std.proofs.lemmas.List.Sums.{count_by-le-length}
use Rattle.std.specs.Prelude.{Result, Ok, Err, OnOk}
use Rattle.journal.specs.declared.event.Event.{Event}
use Rattle.journal.specs.declared.event.Kind.TheVariants.{Store, Fetch}
use Rattle.journal.specs.Sizes.{Sizes}
use Rattle.journal.specs.DidEvent.{did, event}
use Rattle.journal.specs.Events.{event_count, event_closes}
use Rattle.journal.specs.ClockEntry.{entry}
use Rattle.journal.proofs.Times.PushedTimes.{pushed_time_own_entry}
use Rattle.judge.specs.declared.gaps.Gaps.{Gaps}
use Rattle.judge.specs.declared.gap_tally.GapTally.{GapTally}
use Rattle.judge.specs.JudgedSizes.{judged_sizes_of}
use Rattle.judge.specs.FetchGaps.{AreFetchGapsOf, TellsFetchGaps, FetchGapStoreInPage, fetch_gap_time}
use Rattle.judge.specs.GapTally.{GapTallyAdds, IsGapTallyOfValues, gap_tally_place_of}
use Rattle.judge.proofs.TallyRows.{tally_rows_and_marks_next}
use Rattle.judge.proofs.GapEvents.{gap_event_fetched_others, gap_event_page_next, gap_event_store_bound}
use Rattle.judge.proofs.gaps.Gaps.tally.Goals as goal

not_fetch : (q a v p n w r d : ℕ) → event q (Store a v) ≡ event p (Fetch w n r d) → ⊥
not_fetch q a v p n w r d is = let kind = ap (λ (e : Event). e.kind) is in let kinds : Store a v ≡ Fetch w n r d = kind in cc

-- the open interval is few
own_few : (j : List Event) (p : ℕ) → event_count event_closes j p ≤ length j
own_few j p = count_by-le-length (λ (e : Event). (e.processor == p) && event_closes e.kind) j

-- what the tally adds is what is kept after the store
stored : (g : Gaps) (j : List Event) (q a v k n : ℕ) (intervals : GapTally) → TellsFetchGaps j g → q < 16
    → k ≡ event_count event_closes j q → n ≡ a / g.sizes.words
    → GapTallyAdds g.intervals intervals (gap_tally_place_of n q) (gap_tally_place_of n q) k
    → AreFetchGapsOf (did j q (Store a v)) (record g { intervals = intervals })
stored g j q a v k n intervals tells lt is page adds = record {
  fetched = λ m p within. gap_event_fetched_others s j (event q (Store a v)) p m (fetch_gap_time g.fetched (gap_tally_place_of m p))
      (λ w r d. not_fetch q a v p m w r d) (tells.are.fetched m p within);
  intervals =
      subst (λ x. IsGapTallyOfValues (FetchGapStoreInPage s after) (λ z. z) (FetchGapStoreInPage s after) x intervals) (sym long)
      (tally_rows_and_marks_next lt (gap_event_page_next s j q a v)
      (gap_event_page_next s j q a v) (λ h. h, λ h. h) (λ z h. gap_event_store_bound j h.0 q z h.1.0)
      (λ z h. gap_event_store_bound j h.0 q z h.1.0)
      (subst (λ x. GapTallyAdds g.intervals intervals (gap_tally_place_of x q) (gap_tally_place_of x q) (event_count event_closes j q)) page
      (subst (GapTallyAdds g.intervals intervals (gap_tally_place_of n q) (gap_tally_place_of n q)) is adds)) tells.are.intervals);
  few = (let few = tells.are.few in omega (arith, long, few));
}
  where
    s : Sizes
    s = judged_sizes_of g.sizes

    after : List Event
    after = did j q (Store a v)

    long : length after ≡ length j + 1
    long = let sum = length-append j (event q (Store a v) ∷ []) in omega arith

-- the interval that is read is the open one
own : (j : List Event) (g : Gaps) (p : ℕ) (time : List ℕ) → TellsFetchGaps j g → p < 16
    → ((q : ℕ) → slice_index time q ≡ entry g.clocks.processors.items p q)
    → slice_index time p ≡ event_count event_closes j p
own j g p time tells lt is = is p ∙ pushed_time_own_entry j p (entry g.clocks.processors.items p) (tells.clocks.times p lt)

sixteen : (j : List Event) (g : Gaps) (p : ℕ) → TellsFetchGaps j g → p < g.sizes.processors → p < 16
sixteen j g p tells lt = let small = tells.long.sizes.processors in omega arith

room : (j : List Event) (g : Gaps) (p : ℕ) (time : List ℕ) → TellsFetchGaps j g → length j < 2 ^ 22 → p < g.sizes.processors
    → ((q : ℕ) → slice_index time q ≡ entry g.clocks.processors.items p q) → slice_index time p < 2 ^ 22
room j g p time tells few lt is =
    let open_is = own j g p time tells (sixteen j g p tells lt) is in let le = own_few j p in omega arith

pub add-requires-clause-room : goal.add-requires-clause-room
add-requires-clause-room c =
    room c.requires.tells.0 c.args.self.now c.args.processor c.of.result.now c.requires.tells.1 c.requires.tells.2
    c.requires.processor c.of.ensures

-- what success gives, success gives
then : {E P Q : Type 0} (r : Result (Unit {0}) E) → OnOk r P → (P → Q) → OnOk r Q
then (Ok x) p f = f p
then (Err e) p f = tt

pub returns-clause-kept : goal.returns-clause-kept
returns-clause-kept c =
    let g = c.args.self.now in
    let q = c.args.processor in
    let a = c.args.address in
    let interval = slice_index c.of.result.now q in
    let n = a / g.sizes.words in
    then c.add.result c.add.ensures.adds
    (λ adds j tells v.
    let lt = sixteen j g q tells c.requires.processor in
    let here = subst (λ r. GapTallyAdds g.intervals c.add.new.self r r interval) c.gap_row_at-row.ensures adds in
    stored g j q a v interval n c.add.new.self tells lt (own j g q c.of.result.now tells lt c.of.ensures) refl here)

pub returns-clause-long : goal.returns-clause-long
returns-clause-long c =
    let long = c.requires.tells.1.long in
    then c.add.result c.add.ensures.tally
    (λ first. record {
      sizes = long.sizes;
      fetched = long.fetched;
      fetched_room = long.fetched_room;
      intervals = first _ _ long.intervals;
    })
