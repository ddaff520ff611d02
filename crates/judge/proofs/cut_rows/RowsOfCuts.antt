-- Rows of entries that stand one after the other: which change where one entry or one row does.
use Rattle.std.proofs.Common.{◌≡◌, ◌≢◌, ℕ, ◌+◌, ◌*◌, ◌<◌, ◌≤◌, ◌-◌, inl, inr, List, cond, length, max, slice_index, slice_set, ap, ◌∙◌, arith}
use Rattle.std.specs.Prelude.{nat_lt}
use Rattle.std.proofs.lemmas.Bool.{cases_lt}
use Rattle.std.proofs.lemmas.List.{get_or-set_same, get_or-set_other, get_or_past}
use Rattle.std.proofs.lemmas.Nat.{mul-le, same_from_place}
use Rattle.judge.specs.CutEntries.{CutEntriesJoinedAt, CutEntriesMarkedAt}

-- entry q of row n
abbrev pub row_entry : ℕ → List ℕ → ℕ → ℕ → ℕ
row_entry width entries n q = cond (nat_lt q width) (slice_index entries (n * width + q)) 0

-- an entry within its row
pub row_entry_within : (width : ℕ) (entries : List ℕ) (n q : ℕ) → q < width
    → row_entry width entries n q ≡ slice_index entries (n * width + q)
row_entry_within width entries n q lt = grind arith

-- an entry past its row
pub row_entry_past : (width : ℕ) (entries : List ℕ) (n q : ℕ) → width ≤ q → row_entry width entries n q ≡ 0
row_entry_past width entries n q le = grind arith

-- entries that are the same in two lists
pub row_entry_same : (width : ℕ) (xs ys : List ℕ) (n m q : ℕ)
    → (q < width → slice_index ys (n * width + q) ≡ slice_index xs (m * width + q))
    → row_entry width ys n q ≡ row_entry width xs m q
row_entry_same width xs ys n m q same = elim (cases_lt q width) [
  | inl lt ↦ (let is = same lt in grind arith)
  | inr le ↦ grind arith
]

-- other entries than q's of row n stand elsewhere
row_entry_apart : (width n m q r : ℕ) → q < width → r < width → m ≢ n → m * width + r ≢ n * width + q
row_entry_apart width n m q r q_in r_in apart same = apart (same_from_place m r n q width r_in q_in same).0

-- one entry of a row
pub rows_marked : (width : ℕ) (xs : List ℕ) (n p v : ℕ) → p < width → n * width + p < length xs
    → CutEntriesMarkedAt (row_entry width xs) (row_entry width (slice_set xs (n * width + p) v)) n p v
rows_marked width xs n p v p_in within = record {
  own = (let is = get_or-set_same xs (n * width + p) v 0 within in grind arith);
  others = λ q apart. row_entry_same width xs (slice_set xs (n * width + p) v) n n q
      (λ lt. get_or-set_other xs (n * width + p) (n * width + q) v 0 (omega arith));
  same = λ m q apart. row_entry_same width xs (slice_set xs (n * width + p) v) m m q
      (λ lt. get_or-set_other xs (n * width + p) (m * width + q) v 0 (row_entry_apart width n m p q p_in lt apart));
}

-- one row less
pub one_row_less : (count width : ℕ) → 0 < count → count * width ≡ (count - 1) * width + width
one_row_less count width some =
    let is : count ≡ (count - 1) + 1 = omega arith in
    let all : count * width ≡ ((count - 1) + 1) * width = ap (λ x. x * width) is in
    omega arith

-- one row
pub rows_joined : (width : ℕ) (xs ys : List ℕ) (n : ℕ) (cut : List ℕ) → length cut ≤ width
    → ((q : ℕ) → q < length cut → slice_index ys (n * width + q) ≡ max (slice_index xs (n * width + q)) (slice_index cut q))
    → ((k : ℕ) → k < n * width → slice_index ys k ≡ slice_index xs k)
    → ((k : ℕ) → n * width + length cut ≤ k → slice_index ys k ≡ slice_index xs k)
    → CutEntriesJoinedAt (row_entry width xs) (row_entry width ys) n (slice_index cut)
rows_joined width xs ys n cut short joined before behind = record {
  joined = λ q. elim (cases_lt q (length cut)) [
    | inl lt ↦ (let is = joined q lt in let inside : q < width = omega arith in grind arith)
    | inr le ↦
        (let none = get_or_past cut q 0 le in
        let same = row_entry_same width xs ys n n q (λ lt. behind (n * width + q) (omega arith)) in
        grind arith)
  ];
  same = λ m q apart. row_entry_same width xs ys m m q (λ lt. elim (cases_lt m n) [
    | inl less ↦ before (m * width + q) (let le = mul-le (m + 1) width n width (omega arith) (omega arith) in omega arith)
    | inr more ↦ behind (m * width + q) (let le = mul-le (n + 1) width m width (omega arith) (omega arith) in omega arith)
  ]);
}

-- a row of the same entries joins as they do
pub rows_joined_equal : {old new : ℕ → ℕ → ℕ} {n : ℕ} {t u : ℕ → ℕ} → ((q : ℕ) → t q ≡ u q) → CutEntriesJoinedAt old new n t
    → CutEntriesJoinedAt old new n u
rows_joined_equal {old} {new} {n} is x =
    record { joined = λ q. x.joined q ∙ ap (max (old n q)) (is q); same = x.same }
