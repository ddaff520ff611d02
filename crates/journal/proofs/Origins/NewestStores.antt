-- Which store of the gap each word has after a fetch.
use Rattle.std.proofs.Common.{ℕ, ◌≡◌, ◌≢◌, ◌<◌, ◌≤◌, ◌⊎◌, ◌%◌, inl, inr, Some, List, map, slice_get, sym, ap, subst, ◌∙◌, arith}
use Rattle.std.specs.List.{concat}
use Rattle.std.proofs.lemmas.Bool.{cases_lt}
use Rattle.std.proofs.lemmas.Option.{same_Some}
use Rattle.journal.specs.declared.event.Event.{Event}
use Rattle.journal.specs.declared.event.Kind.TheVariants.{Store}
use Rattle.journal.specs.Sizes.{Sizes}
use Rattle.journal.specs.WellFormed.{Does}
use Rattle.journal.specs.PageImages.{InGap, page_image_write}
use Rattle.journal.specs.ClosingPlace.{IsClosingPlace}
use Rattle.journal.specs.MissingIntervals.{MissingInterval, AreMissingIntervals, MissingIntervalsInOrder}
use Rattle.journal.proofs.CopyOfPage.PageStores.{page_store_writes}
use Rattle.journal.proofs.Missing.InGroups.{AreGroups, groups_of, groups_gap, group_store_closed}
use Rattle.journal.proofs.Missing.ClosingRanks.{closing_rank_before}
use Rattle.journal.proofs.Times.IntervalClosers.{interval_closer_once}
use Rattle.base.specs.InOrderOnce.{Has, InOrder}
use Rattle.base.specs.AppliedRecords.{records_applied}
use Rattle.base.proofs.JoinedLists.{joined_lists_in_order}
use Rattle.base.proofs.LastWritten.{last_written_word}
use Rattle.base.proofs.RecordWrites.{record_writes_all_same}
use Rattle.journal.specs.NewestInGap.{IsNewestInGap, HasNoNewestInGap, AreNewestInGap}

-- the store at place i was closed before that at place k, or in one interval with it and it stands before
abbrev pub NewestStoreClosedBefore : List Event → ℕ → ℕ → Type 0
NewestStoreClosedBefore j i k = (c d : ℕ) → IsClosingPlace j i c → IsClosingPlace j k d → (c < d) ⊎ ((c ≡ d) × (i ≤ k))

module _ (s : Sizes) (j : List Event) (p n : ℕ) (missing : List MissingInterval) (lacks : AreMissingIntervals s j p n missing)
    (order : MissingIntervalsInOrder missing) where
  -- the stores of the gap, by intervals in closing order
  newest_stores_in_order : (groups : List (List ℕ)) → AreGroups s j n missing groups → InOrder (NewestStoreClosedBefore j) (concat groups)
  newest_stores_in_order groups of = joined_lists_in_order (NewestStoreClosedBefore j) groups within across
    where
      within : (g : List ℕ) → Has groups g → InOrder (NewestStoreClosedBefore j) g
      within g h x y a b less at to c d closed closed_too =
          let r = of.of h.0 g h.1 in
          let placed = lacks.placed r.0 (h.0, r.1) in
          let first =
          group_store_closed s ((r.2 a).0 (x, at)) placed.closes placed.number in
          let second =
          group_store_closed s ((r.2 b).0 (y, to)) placed.closes placed.number in
          let rises = r.3 x y a b less at to in
          inr (
            interval_closer_once j a c placed.at closed first ∙ sym (interval_closer_once j b d placed.at closed_too second),
            omega arith,
          )

      across : InOrder (λ (g h : List ℕ). (a b : ℕ) → Has g a → Has h b → NewestStoreClosedBefore j a b) groups
      across x y g h less at to a b in_g in_h c d closed closed_too =
          let r = of.of x g at in
          let t = of.of y h to in
          let one = lacks.placed r.0 (x, r.1) in
          let two = lacks.placed t.0 (y, t.1) in
          let first =
          interval_closer_once j a c one.at closed
          (group_store_closed s ((r.2 a).0 in_g) one.closes one.number) in
          let second =
          interval_closer_once j b d two.at closed_too
          (group_store_closed s ((t.2 b).0 in_h) two.closes two.number) in
          let before =
          closing_rank_before one two
          (order x y r.0 t.0 less r.1 t.1) in
          inl (omega arith)

  -- what the last of their writes has
  newest_stores_last : (o v : ℕ) (groups : List (List ℕ)) → AreGroups s j n missing groups → (i k : ℕ)
      → slice_get (concat groups) k ≡ Some i → page_image_write s (slice_get j i) ≡ Some (o, v)
      → ((m y u : ℕ) → k < m → slice_get (concat groups) m ≡ Some y → page_image_write s (slice_get j y) ≢ Some (o, u))
      → IsNewestInGap s j p n o v
  newest_stores_last o v groups of i k here written_there later = record {
    place = i;
    by = gap.store.by;
    address = gap.store.address;
    stores =
        subst (λ (w : ℕ). Does j i gap.store.by (Store gap.store.address w)) (ap (λ (x : ℕ × ℕ). x.1) pair)
        gap.store.does;
    offset = ap (λ (x : ℕ × ℕ). x.0) pair;
    gap = gap;
    last = last;
  }
    where
      gap : InGap s j p n i
      gap = (groups_gap s j p n missing groups lacks of i).0 (k, here)

      pair : ◌≡◌ {A = ℕ × ℕ} (gap.store.address % s.words, gap.store.value) (o, v)
      pair =
          same_Some (gap.store.address % s.words, gap.store.value) (o, v)
          (sym (page_store_writes s j i gap.store.by gap.store.address gap.store.value gap.store.does) ∙ written_there)

      last : (m q a w c d : ℕ) → Does j m q (Store a w) → a % s.words ≡ o → InGap s j p n m → IsClosingPlace j m c
          → IsClosingPlace j i d → (c < d) ⊎ ((c ≡ d) × (m ≤ i))
      last m q a w c d does off in_gap closed closed_too =
          let has = (groups_gap s j p n missing groups lacks of m).1 in_gap in
          let writes = page_store_writes s j m q a w does ∙ ap (λ (x : ℕ). Some (x, w)) off in
          elim (cases_lt has.0 k) [
            | inl less ↦ newest_stores_in_order groups of has.0 k m i less has.1 here c d closed closed_too
            | inr le ↦ (elim (cases_lt k has.0) [
              | inl after ↦ absurd (later has.0 m w after has.1 writes)
              | inr back ↦
                  (let P : ℕ → Type 0 = λ y. slice_get (concat groups) y ≡ Some m in
                  let place : has.0 ≡ k = omega arith in
                  let same : m ≡ i = same_Some m i (sym (subst P place has.1) ∙ here) in
                  inr (
                    interval_closer_once j m c d closed (subst (λ (y : ℕ). IsClosingPlace j y d) (sym same) closed_too),
                    omega arith,
                  ))
            ])
          ]

  -- the missing records leave each word with the store of the gap that was closed last
  pub newest_stores : (page : List ℕ) → AreNewestInGap s j p n page (records_applied page (map (λ (x : MissingInterval). x.words) missing))
  newest_stores page o v at = go (groups_of s j n missing lacks.contents)
    where
      go : ((groups : List (List ℕ)) × AreGroups s j n missing groups)
          → IsNewestInGap s j p n o v ⊎ ((slice_get page o ≡ Some v) × HasNoNewestInGap s j p n o)
      go (groups, of) =
          elim (last_written_word (λ (i : ℕ). page_image_write s (slice_get j i)) page (concat groups) o v
          (ap (λ (ws : List ℕ). slice_get ws o)
          (sym (record_writes_all_same (λ (i : ℕ). page_image_write s (slice_get j i)) page of.records_of)) ∙ at)) [
            | inl last ↦ inl (newest_stores_last o v groups of last.item last.place last.at last.writes last.last)
            | inr kept ↦
                inr (
                  kept.0,
                  λ i q a w does off gap. let has = (groups_gap s j p n missing groups lacks of i).1 gap in
                      kept.1 has.0 i w has.1 (page_store_writes s j i q a w does ∙ ap (λ (x : ℕ). Some (x, w)) off),
                )
          ]
