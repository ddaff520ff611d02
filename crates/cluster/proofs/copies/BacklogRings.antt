-- Records in a ring, and the place of one more.
use Rattle.std.proofs.Common.{ℕ, ◌≡◌, ◌<◌, ◌≤◌, ◌+◌, ◌-◌, Some, List, [], ◌∷◌, ◌++◌, append_assoc, length, map, take, drop, get_or, slice_get, inl, inr, sym, ap, subst, subst₂, ◌∙◌, arith}
use Rattle.std.proofs.Math.Seq.{drop-append-add, take-append-add}
use Rattle.std.proofs.lemmas.Bool.{cases_eq}
use Rattle.std.proofs.lemmas.List.{append-nil, take_all, drop_all, length-append, length-take, length-drop, take-append-drop, take-append-le, drop-append-le}
use Rattle.std.proofs.lemmas.Option.{same_Some, slice_get-get_or, slice_get_within}
use Rattle.journal.specs.MissingIntervals.{MissingIntervalsInOrder}
use Rattle.interval.specs.SentIntervals.{SentRecord}
use Rattle.book.specs.PageNews.{page_news_of_notice}
use Rattle.cluster.specs.Copies.Backlogs.{backlog_read_from, IsInsertedInBacklog}
use Rattle.cluster.proofs.copies.Learned.{learned_in_order}

-- what stands before a record that was closed no later was closed no later
pub backlog_ring_none_later : (xs : List SentRecord) (place k : ℕ) → MissingIntervalsInOrder (map page_news_of_notice xs) → k ≤ length xs
    → ((x : SentRecord) → 0 < k → slice_get xs (k - 1) ≡ Some x → x.place ≤ place)
    → (i : ℕ) (y : SentRecord) → i < k → slice_get xs i ≡ Some y → y.place ≤ place
backlog_ring_none_later xs place k order within last i y lt at = elim (cases_eq i (k - 1)) [
  | inl same ↦
      (let P : ℕ → Type 0 = λ n. slice_get xs n ≡ Some y in
      last y (omega arith) (subst P same at))
  | inr other ↦
      (let x = get_or xs (k - 1) y in
      let there = slice_get-get_or xs (k - 1) y (omega arith) in
      let sooner = learned_in_order xs order i (k - 1) y x (omega arith) at there in
      let le = last x (omega arith) there in
      omega arith)
]

-- what stands behind a record that was closed later was closed later
pub backlog_ring_all_later : (xs : List SentRecord) (place k : ℕ) (x : SentRecord) → MissingIntervalsInOrder (map page_news_of_notice xs)
    → slice_get xs k ≡ Some x → place < x.place
    → (i : ℕ) (y : SentRecord) → k ≤ i → slice_get xs i ≡ Some y → place < y.place
backlog_ring_all_later xs place k x order there late i y le at = elim (cases_eq i k) [
  | inl same ↦
      (let P : ℕ → Type 0 = λ n. slice_get xs n ≡ Some y in
      let is = same_Some y x (sym (subst P same at) ∙ there) in
      let e : y.place ≡ x.place = ap (λ (r : SentRecord). r.place) is in
      omega arith)
  | inr other ↦
      (let later = learned_in_order xs order k i x y (omega arith) there at in
      omega arith)
]

-- one that was closed no earlier than the last of them is put at the end
backlog_ring_put_behind : (xs : List SentRecord) (x : SentRecord) → MissingIntervalsInOrder (map page_news_of_notice xs)
    → ((y : SentRecord) → 0 < length xs → slice_get xs (length xs - 1) ≡ Some y → y.place ≤ x.place)
    → IsInsertedInBacklog xs x (xs ++ x ∷ [])
backlog_ring_put_behind xs x order last = record {
  at = length xs;
  among = record {
    within = omega arith;
    before = backlog_ring_none_later xs x.place (length xs) order (omega arith) last;
    behind = λ i y le at. (let lt = slice_get_within xs i y at in absurd (omega arith));
  };
  put =
      ap (λ (ys : List SentRecord). ys ++ x ∷ []) (sym (take_all (length xs) xs (omega arith)))
      ∙ ap (λ (ys : List SentRecord). take (length xs) xs ++ x ∷ ys) (sym (drop_all (length xs) xs (omega arith)));
}

-- so at the end of a ring that is read from its first record on
pub backlog_ring_put_last : (xs records new : List SentRecord) (start : ℕ) (x : SentRecord) → start ≡ 0
    → backlog_read_from start xs ≡ records → MissingIntervalsInOrder (map page_news_of_notice records)
    → ((y : SentRecord) → 0 < length xs → slice_get xs (length xs - 1) ≡ Some y → y.place ≤ x.place)
    → new ≡ xs ++ x ∷ [] → IsInsertedInBacklog records x (backlog_read_from start new)
backlog_ring_put_last xs records new start x first read order last is =
    let From : ℕ → Type 0 = λ n. backlog_read_from n xs ≡ records in
    let same : xs ≡ records = sym (append-nil xs) ∙ subst From first read in
    let ordered = subst (λ (ys : List SentRecord). MissingIntervalsInOrder (map page_news_of_notice ys)) (sym same) order in
    let all : xs ++ x ∷ [] ≡ backlog_read_from start new =
    sym is ∙ sym (append-nil new) ∙ ap (λ (n : ℕ). backlog_read_from n new) (sym first) in
    subst₂ (λ (ys zs : List SentRecord). IsInsertedInBacklog ys x zs) same all (backlog_ring_put_behind xs x ordered last)

module _ {A : Type 0} where
  -- two lists, read round from within the first
  backlog_ring_read_append : (k : ℕ) (xs ys : List A) → k ≤ length xs
      → backlog_read_from k (xs ++ ys) ≡ drop k xs ++ (ys ++ take k xs)
  backlog_ring_read_append k xs ys le =
      ap (λ (zs : List A). zs ++ take k (xs ++ ys)) (drop-append-le k xs ys le)
      ∙ ap (λ (zs : List A). (drop k xs ++ ys) ++ zs) (take-append-le k xs ys le)
      ∙ append_assoc (drop k xs) ys (take k xs)

  -- two lists, read round from within the second
  backlog_ring_read_behind : (k : ℕ) (xs ys : List A) → backlog_read_from (length xs + k) (xs ++ ys) ≡ drop k ys ++ (xs ++ take k ys)
  backlog_ring_read_behind k xs ys =
      ap (λ (zs : List A). zs ++ take (length xs + k) (xs ++ ys)) (drop-append-add xs ys k)
      ∙ ap (λ (zs : List A). drop k ys ++ zs) (take-append-add xs ys k)

  -- two lists that change places are read round as before
  backlog_ring_read_swapped : (k : ℕ) (xs ys : List A) → k ≤ length ys
      → backlog_read_from k (ys ++ xs) ≡ backlog_read_from (length xs + k) (xs ++ ys)
  backlog_ring_read_swapped k xs ys le = backlog_ring_read_append k ys xs le ∙ sym (backlog_ring_read_behind k xs ys)

  -- it is as long
  pub backlog_ring_read_length : (k : ℕ) (xs : List A) → length (backlog_read_from k xs) ≡ length xs
  backlog_ring_read_length k xs =
      let both = length-append (drop k xs) (take k xs) in
      let cut = length-drop k xs in
      let long = length-take k xs in
      omega arith

  -- turned to the left
  pub backlog_ring_turned_left : (from to : ℕ) (xs : List A) → to < from → from ≤ length xs
      → backlog_read_from to (drop (from - to) xs ++ take (from - to) xs) ≡ backlog_read_from from xs
  backlog_ring_turned_left from to xs lt within =
      let k = from - to in
      let cut = length-drop k xs in
      let long = length-take k xs in
      let e : length (take k xs) + to ≡ from = omega arith in
      let swapped = backlog_ring_read_swapped to (take k xs) (drop k xs) (omega arith) in
      let whole = ap (λ (zs : List A). backlog_read_from (length (take k xs) + to) zs) (take-append-drop k xs) in
      swapped ∙ whole ∙ ap (λ (n : ℕ). backlog_read_from n xs) e

  -- turned to the right
  pub backlog_ring_turned_right : (from to : ℕ) (xs : List A) → from < to → to ≤ length xs
      → backlog_read_from to (drop (length xs - (to - from)) xs ++ take (length xs - (to - from)) xs) ≡ backlog_read_from from xs
  backlog_ring_turned_right from to xs lt within =
      let k = length xs - (to - from) in
      let cut = length-drop k xs in
      let long = length-take k xs in
      let e : length (drop k xs) + from ≡ to = omega arith in
      let same = ap (λ (n : ℕ). backlog_read_from n (drop k xs ++ take k xs)) e in
      let swapped = backlog_ring_read_swapped from (drop k xs) (take k xs) (omega arith) in
      sym same ∙ sym swapped ∙ ap (λ (zs : List A). backlog_read_from from zs) (take-append-drop k xs)
