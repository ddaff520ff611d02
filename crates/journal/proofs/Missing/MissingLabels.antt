-- A fetch of the missing intervals: the copy that it gives, and its three counts.
use Rattle.std.proofs.Common.{ℕ, ◌≡◌, ◌≢◌, ◌<◌, ◌+◌, ◌*◌, ◌/◌, ◌%◌, div-add-mod', ◌↔◌, List, map, length, flat_map, sum_by, arith, refl, sym, ap, ap₂, subst, subst₂, ◌∙◌}
use Rattle.std.proofs.lemmas.List.{length-map}
use Rattle.std.proofs.lemmas.List.Concat.{length-flat_map}
use Rattle.journal.specs.declared.event.Event.{Event}
use Rattle.journal.specs.Sizes.{Sizes}
use Rattle.journal.specs.PageImages.{Lawful, HasPageImageCount, StoredInGapOfPageImage, GapCounts}
use Rattle.journal.specs.BroughtCopy.{IsBroughtCopy}
use Rattle.journal.specs.IntervalContents.{IsIntervalContent}
use Rattle.journal.specs.MissingIntervals.{IsMissingIntervalPlace, MissingInterval, MissingIntervalsInOrder, AreMissingIntervals}
use Rattle.base.specs.InOrderOnce.{Has, InOrder, IsOnce}
use Rattle.base.specs.AppliedRecords.{records_applied}
use Rattle.base.proofs.JoinedLists.{joined_list_has-flat_map, joined_list_in_order-flat_map, joined_list_has-map, joined_list_in_order-map, joined_list_in_weaker_order}
use Rattle.journal.proofs.CopyOfPage.CompleteCopies.{complete_copy_gap_fetched}
use Rattle.journal.proofs.Missing.ClosingRanks.{closing_rank_once}
use Rattle.journal.proofs.Intervals.StoreContents.{store_contents_word, store_contents_has}
use Rattle.journal.proofs.CopyOfPage.PageStores.{page_store_same}
use Rattle.journal.proofs.Missing.MissingGaps.{missing_gaps_whole}
use Rattle.journal.proofs.Missing.InGroups.{groups_of, groups_gap, groups_extend}

-- the missing records, applied in closing order, make the copy lawful
pub missing_fetched : (s : Sizes) (j : List Event) (p n : ℕ) (page : List ℕ) (missing : List MissingInterval)
    → AreMissingIntervals s j p n missing → MissingIntervalsInOrder missing → IsBroughtCopy s j p n page
    → Lawful s j p n (records_applied page (map (λ (x : MissingInterval). x.words) missing))
missing_fetched s j p n page missing are order copy =
    let g = groups_of s j n missing are.contents in
    let e = groups_extend s j n missing g.0 are.placed order g.1 in
    complete_copy_gap_fetched copy g.1.records_of
    (record { each = groups_gap s j p n missing g.0 are g.1; once = e.0; extends = e.1 })

-- an interval's owner and number
abbrev pub missing_label : MissingInterval → ℕ × ℕ
missing_label x = (x.owner, x.number)

-- an interval's stores in page n: its owner, its number and each address
abbrev pub stored_missing_labels : Sizes → ℕ → MissingInterval → List (ℕ × ℕ × ℕ)
stored_missing_labels s n x = map (λ (w : ℕ × ℕ). (x.owner, x.number, n * s.words + w.0)) x.words

-- of two intervals with two closing numbers the labels differ
missing_labels_apart : (j : List Event) (x y : MissingInterval) → IsMissingIntervalPlace j x.owner x.number x.place
    → IsMissingIntervalPlace j y.owner y.number y.place → x.place < y.place → missing_label x ≢ missing_label y
missing_labels_apart j x y here there less same =
    let owners : x.owner ≡ y.owner = ap (λ (l : ℕ × ℕ). l.0) same in
    let numbers : x.number ≡ y.number = ap (λ (l : ℕ × ℕ). l.1) same in
    let P : ℕ → ℕ → Type 0 = λ q k. IsMissingIntervalPlace j q k x.place in
    let e = closing_rank_once j y.owner y.number x.place y.place (subst₂ P owners numbers here) there in
    omega arith

-- intervals in closing order stand once
pub missing_labels_once : (s : Sizes) (j : List Event) (p n : ℕ) (missing : List MissingInterval) → AreMissingIntervals s j p n missing
    → MissingIntervalsInOrder missing → IsOnce (map missing_label missing)
missing_labels_once s j p n missing are order =
    joined_list_in_order-map (λ (a b : ℕ × ℕ). a ≢ b) missing_label missing (joined_list_in_weaker_order (λ (x y : MissingInterval). x.place < y.place)
    (λ (x y : MissingInterval). missing_label x ≢ missing_label y) missing
    (λ x y h g less. missing_labels_apart j x y (are.placed x h) (are.placed y g) less) order)

-- the owners of the missing intervals are those who stored in the gap
pub missing_labels_writers_counted : (s : Sizes) (j : List Event) (p n writers : ℕ) (missing : List MissingInterval)
    → AreMissingIntervals s j p n missing → HasPageImageCount (λ (q : ℕ). (x : MissingInterval) × Has missing x × (x.owner ≡ q)) writers
    → HasPageImageCount (λ (q : ℕ). (k : ℕ) × (a : ℕ) × StoredInGapOfPageImage s j p n (q, k, a)) writers
missing_labels_writers_counted s j p n writers missing are count =
    record {
      list = count.list;
      each = λ q. (λ h. there q ((count.each q).0 h), λ x. (count.each q).1 (back q x));
      once = count.once;
      length_is = count.length_is;
    }
  where
    there : (q : ℕ) → ((x : MissingInterval) × Has missing x × (x.owner ≡ q))
        → (k : ℕ) × (a : ℕ) × StoredInGapOfPageImage s j p n (q, k, a)
    there q x = let r = (are.each q x.0.number).0 (x.0, x.1, x.2, refl) in (x.0.number, r.0, r.1)

    back : (q : ℕ) → ((k : ℕ) × (a : ℕ) × StoredInGapOfPageImage s j p n (q, k, a))
        → (x : MissingInterval) × Has missing x × (x.owner ≡ q)
    back q x = let r = (are.each q x.0).1 (x.1, x.2) in (r.0, r.1, r.2)

-- the records are as many as the missing intervals
pub missing_labels_records_counted : (s : Sizes) (j : List Event) (p n : ℕ) (missing : List MissingInterval) → AreMissingIntervals s j p n missing
    → MissingIntervalsInOrder missing → HasPageImageCount (λ (x : ℕ × ℕ). (a : ℕ) × StoredInGapOfPageImage s j p n (x.0, x.1, a)) (length missing)
missing_labels_records_counted s j p n missing are order =
    record {
      list = map missing_label missing;
      each = λ l. (λ h. there l ((joined_list_has-map missing_label missing l).0 h), λ x. (joined_list_has-map missing_label missing l).1 (back l x));
      once = missing_labels_once s j p n missing are order;
      length_is = length-map missing missing_label;
    }
  where
    there : (l : ℕ × ℕ) → ((x : MissingInterval) × Has missing x × (missing_label x ≡ l))
        → (a : ℕ) × StoredInGapOfPageImage s j p n (l.0, l.1, a)
    there l x = (are.each l.0 l.1).0 (x.0, x.1, ap (λ (m : ℕ × ℕ). m.0) x.2, ap (λ (m : ℕ × ℕ). m.1) x.2)

    back : (l : ℕ × ℕ) → ((a : ℕ) × StoredInGapOfPageImage s j p n (l.0, l.1, a)) → (x : MissingInterval) × Has missing x × (missing_label x ≡ l)
    back l x = let r = (are.each l.0 l.1).1 x in (r.0, r.1, ap₂ (λ (q k : ℕ). (q, k)) r.2 r.3)

-- an interval's stored words are its stores in the gap
pub missing_labels_stored_in_gap : (s : Sizes) (j : List Event) (p n : ℕ) (missing : List MissingInterval) (z : ℕ × ℕ × ℕ)
    → AreMissingIntervals s j p n missing → ((x : MissingInterval) × Has missing x × Has (stored_missing_labels s n x) z) ↔ StoredInGapOfPageImage s j p n z
missing_labels_stored_in_gap s j p n missing z are = (there, back)
  where
    there : ((x : MissingInterval) × Has missing x × Has (stored_missing_labels s n x) z) → StoredInGapOfPageImage s j p n z
    there h =
        let x = h.0 in
        let w = (joined_list_has-map (λ (w : ℕ × ℕ). (x.owner, x.number, n * s.words + w.0)) x.words z).0 h.2 in
        let y = store_contents_word (are.contents x h.1) w.0 w.1 in
        let g = (are.each x.owner x.number).0 (x, h.1, refl, refl) in
        let whole = missing_gaps_whole s j p n (x.owner, x.number, g.0) y.0 g.1 y.1 in
        let address : y.1.0 ≡ n * s.words + w.0.0 =
        sym (div-add-mod' y.1.0 s.words)
        ∙ ap₂ (λ (a b : ℕ). a * s.words + b) y.1.3 (ap (λ (v : ℕ × ℕ). v.0) y.2) in
        let here : StoredInGapOfPageImage s j p n (x.owner, x.number, y.1.0) = (y.0, y.1.1, y.1.2, whole, y.1.4) in
        let P : ℕ → Type 0 = λ a. StoredInGapOfPageImage s j p n (x.owner, x.number, a) in
        subst (StoredInGapOfPageImage s j p n) w.2 (subst P address here)

    back : StoredInGapOfPageImage s j p n z → (x : MissingInterval) × Has missing x × Has (stored_missing_labels s n x) z
    back g =
        let m = (are.each z.0 z.1).1 (z.2, g) in
        let x = m.0 in
        let w = g.3.store in
        let same = page_store_same j g.0 w.does g.2 in
        let page : z.2 / s.words ≡ n = ap (λ (a : ℕ). a / s.words) (sym same.1) ∙ w.in_page in
        let P : ℕ → ℕ → Type 0 = λ q k. IsIntervalContent s j q k n x.words in
        let word =
        store_contents_has s j z.0 z.1 n g.0 x.words (subst₂ P m.2 m.3 (are.contents x m.1)) (z.2, g.1, g.2, page, g.4)
        in
        let address : n * s.words + z.2 % s.words ≡ z.2 =
        ap (λ (a : ℕ). a * s.words + z.2 % s.words) (sym page) ∙ div-add-mod' z.2 s.words in
        let is =
        ap (λ (q : ℕ). (q, x.number, n * s.words + z.2 % s.words)) m.2
        ∙ ap (λ (k : ℕ). (z.0, k, n * s.words + z.2 % s.words)) m.3 ∙ ap (λ (a : ℕ). (z.0, z.1, a)) address in (
          x,
          m.1,
          (joined_list_has-map (λ (w : ℕ × ℕ). (x.owner, x.number, n * s.words + w.0)) x.words z).1
              ((z.2 % s.words, word.0), word.1, is),
        )

-- the words are as many as those of the missing intervals
pub missing_labels_words_counted : (s : Sizes) (j : List Event) (p n : ℕ) (missing : List MissingInterval) → AreMissingIntervals s j p n missing
    → MissingIntervalsInOrder missing → HasPageImageCount (StoredInGapOfPageImage s j p n) (sum_by (λ (x : MissingInterval). length x.words) missing)
missing_labels_words_counted s j p n missing are order = record {
  list = flat_map (stored_missing_labels s n) missing;
  each =
      λ z. (
        λ h. (missing_labels_stored_in_gap s j p n missing z are).0 ((joined_list_has-flat_map (stored_missing_labels s n) missing z).0 h),
        λ g.
            (joined_list_has-flat_map (stored_missing_labels s n) missing z).1 ((missing_labels_stored_in_gap s j p n missing z are).1 g),
      );
  once = joined_list_in_order-flat_map (λ (a b : ℕ × ℕ × ℕ). a ≢ b) (stored_missing_labels s n) missing each across;
  length_is = length-flat_map (stored_missing_labels s n) missing ∙ (simp length-map);
}
  where
    each : (x : MissingInterval) → Has missing x → IsOnce (stored_missing_labels s n x)
    each x h =
        joined_list_in_order-map (λ (a b : ℕ × ℕ × ℕ). a ≢ b) (λ (w : ℕ × ℕ). (x.owner, x.number, n * s.words + w.0)) x.words
        (joined_list_in_weaker_order (λ (a b : ℕ × ℕ). a.0 < b.0) (λ (a b : ℕ × ℕ). ◌≢◌ {A = ℕ × ℕ × ℕ}
        (x.owner, x.number, n * s.words + a.0) (x.owner, x.number, n * s.words + b.0))
        x.words (λ a b _ _ less same.
        let e : n * s.words + a.0 ≡ n * s.words + b.0 = ap (λ (l : ℕ × ℕ × ℕ). l.2) same in
        omega arith) (are.contents x h).sums.rising)

    across : InOrder (λ (x y : MissingInterval). (a b : ℕ × ℕ × ℕ) → Has (stored_missing_labels s n x) a → Has (stored_missing_labels s n y) b → a ≢ b)
        missing
    across i k x y less at to a b in_x in_y same =
        let v = (joined_list_has-map (λ (w : ℕ × ℕ). (x.owner, x.number, n * s.words + w.0)) x.words a).0 in_x in
        let w = (joined_list_has-map (λ (w : ℕ × ℕ). (y.owner, y.number, n * s.words + w.0)) y.words b).0 in_y in
        missing_labels_apart j x y (are.placed x (i, at)) (are.placed y (k, to)) (order i k x y less at to)
        (ap (λ (l : ℕ × ℕ × ℕ). (l.0, l.1)) (v.2 ∙ same ∙ sym w.2))

-- a fetch's counts are how many owners, intervals and words the missing list has
pub missing_labels_counts : (s : Sizes) (j : List Event) (p n writers : ℕ) (missing : List MissingInterval)
    → AreMissingIntervals s j p n missing → MissingIntervalsInOrder missing
    → HasPageImageCount (λ (q : ℕ). (x : MissingInterval) × Has missing x × (x.owner ≡ q)) writers
    → GapCounts s j p n writers (length missing) (sum_by (λ (x : MissingInterval). length x.words) missing)
missing_labels_counts s j p n writers missing are order count =
    record {
      writers_are = missing_labels_writers_counted s j p n writers missing are count;
      records_are = missing_labels_records_counted s j p n missing are order;
      words_are = missing_labels_words_counted s j p n missing are order;
    }
