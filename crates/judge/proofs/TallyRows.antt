-- Rows of numbers: how many lie between two, and what adding does to tallies.
use Rattle.std.proofs.Common.{ℕ, suc, zero, ◌≡◌, ◌≢◌, ◌+◌, ◌-◌, ◌<◌, ◌≤◌, ◌⊎◌, ◌↔◌, not, min, nat_lt, inl, inr, Bool, true, false, cond, List, [], ◌∷◌, ◌++◌, Some, length, map, filter, count_by, slice_get, vec_len, refl, sym, ap, ◌∙◌, subst, true≢false, arith, length-append}
use Rattle.std.proofs.lemmas.Bool.{cases_eq, cases_lt, ltb-true, lt-ltb, le-ltb, and_parts, and_from}
use Rattle.std.proofs.lemmas.Option.{none-some}
use Rattle.std.proofs.lemmas.List.Sums.{sum_by-cons, length-filter}
use Rattle.journal.specs.PageImages.{HasPageImageCount}
use Rattle.base.specs.InOrderOnce.{Has}
use Rattle.base.proofs.JoinedLists.{joined_list_has-nil, joined_list_has-cons, joined_list_has-append, joined_list_has-map, joined_list_in_order-append, joined_list_in_order_single}
use Rattle.base.proofs.OnceWithout.{once-append}
use Rattle.base.proofs.FilteredInOrder.{filtered_in_order_has, in_order-filter}
use Rattle.judge.specs.declared.gap_tally.GapTally.{GapTally}
use Rattle.judge.specs.GapTally.{gap_tally_place_of, gap_tally_numbers, gap_tally_mark, is_gap_tally_between, IsGapTallyAdded, GapTallyAdds, AreGapTallyIntervals, IsGapTallyMark, IsGapTallyOfValues}

tally_row_count_cons : (p : ℕ → Bool) (k : ℕ) (row : List ℕ) → count_by p (k ∷ row) ≡ cond (p k) 1 0 + count_by p row
tally_row_count_cons p k row = sum_by-cons (λ x. cond (p x) 1 0) k row

abbrev tally_row_as_number : Bool → ℕ
tally_row_as_number b = cond b 1 0

tally_row_counts_one : (b : Bool) → b ≡ true → tally_row_as_number b ≡ 1
tally_row_counts_one b is = ap tally_row_as_number is

tally_row_counts_none : (b : Bool) → b ≡ false → tally_row_as_number b ≡ 0
tally_row_counts_none b is = ap tally_row_as_number is

-- where those below the limit stand before place i, and others from it on, there are i
pub tally_row_count_point : (row : List ℕ) (limit i : ℕ) → i ≤ length row
    → ((n k : ℕ) → n < i → slice_get row n ≡ Some k → nat_lt k limit ≡ true)
    → ((n k : ℕ) → i ≤ n → slice_get row n ≡ Some k → nat_lt k limit ≡ false)
    → count_by (λ k. nat_lt k limit) row ≡ i
tally_row_count_point [] limit i le low high = let none : 0 ≡ i = omega arith in none
tally_row_count_point (x ∷ row) limit zero le low high =
    let here = high 0 x (omega arith) refl in
    let rest =
    tally_row_count_point row limit 0 (omega arith) (λ n k lt at. absurd (omega arith))
    (λ n k le at. high (suc n) k (omega arith) at) in
    let one = tally_row_counts_none (nat_lt x limit) here in
    let sum = tally_row_count_cons (λ k. nat_lt k limit) x row in
    omega arith
tally_row_count_point (x ∷ row) limit (suc i) le low high =
    let here = low 0 x (omega arith) refl in
    let rest =
    tally_row_count_point row limit i (omega arith) (λ n k lt at. low (suc n) k (omega arith) at)
    (λ n k le at. high (suc n) k (omega arith) at) in
    let one = tally_row_counts_one (nat_lt x limit) here in
    let sum = tally_row_count_cons (λ k. nat_lt k limit) x row in
    omega arith

tally_row_between_one : (from to k : ℕ)
    → cond (is_gap_tally_between from to k) 1 0 + cond (nat_lt k (min from to)) 1 0 ≡ cond (nat_lt k to) 1 0
tally_row_between_one from to k = elim (cases_lt k to) [
  | inl below ↦ elim (cases_lt k from) [
    | inl before ↦ rw (lt-ltb k to below, lt-ltb k from before, lt-ltb k (min from to) (omega arith)) refl
    | inr behind ↦ rw (lt-ltb k to below, le-ltb k from behind, le-ltb k (min from to) (omega arith)) refl
  ]
  | inr above ↦ elim (cases_lt k from) [
    | inl before ↦ rw (le-ltb k to above, lt-ltb k from before, le-ltb k (min from to) (omega arith)) refl
    | inr behind ↦ rw (le-ltb k to above, le-ltb k from behind, le-ltb k (min from to) (omega arith)) refl
  ]
]

-- those between are those below the one limit but for those below both
pub tally_row_between_sum : (row : List ℕ) (from to : ℕ)
    → count_by (is_gap_tally_between from to) row + count_by (λ k. nat_lt k (min from to)) row
    ≡ count_by (λ k. nat_lt k to) row
tally_row_between_sum [] from to = refl
tally_row_between_sum (k ∷ row) from to =
    let rest = tally_row_between_sum row from to in
    let one = tally_row_between_one from to k in
    let a = tally_row_count_cons (is_gap_tally_between from to) k row in
    let b = tally_row_count_cons (λ x. nat_lt x (min from to)) k row in
    let c = tally_row_count_cons (λ x. nat_lt x to) k row in
    omega arith

-- as many values have a number that is picked as numbers are picked
tally_row_length_picked : {A : Type 0} (pick : ℕ → Bool) (f : A → ℕ) (xs : List A)
    → length (filter (λ x. pick (f x)) xs) ≡ count_by pick (map f xs)
tally_row_length_picked {A} pick f xs = length-filter (λ x. pick (f x)) xs ∙ along xs
  where
    along : (xs : List A) → count_by (λ x. pick (f x)) xs ≡ count_by pick (map f xs)
    along [] = refl
    along (x ∷ xs) =
        let rest = along xs in
        let a = sum_by-cons (λ y. cond (pick (f y)) 1 0) x xs in
        let b = tally_row_count_cons pick (f x) (map f xs) in
        omega arith

tally_row_between_is : (from to k : ℕ) → is_gap_tally_between from to k ≡ true ↔ ((from ≤ k) × (k < to))
tally_row_between_is from to k = (there (cases_lt k from), back)
  where
    there : (k < from) ⊎ (from ≤ k) → is_gap_tally_between from to k ≡ true → (from ≤ k) × (k < to)
    there (inl lt) h =
        let both = and_parts (not (nat_lt k from)) (nat_lt k to) h in
        absurd (true≢false (sym both.0 ∙ ap not (lt-ltb k from lt)))
    there (inr le) h = (le, ltb-true k to (and_parts (not (nat_lt k from)) (nat_lt k to) h).1)

    back : (from ≤ k) × (k < to) → is_gap_tally_between from to k ≡ true
    back h =
        and_from (not (nat_lt k from)) (nat_lt k to) (ap not (le-ltb k from h.0)) (lt-ltb k to h.1)

-- so many values have an interval between
pub tally_row_counts : {A : Type 0} (values : A → Type 0) (f : A → ℕ) (row : List ℕ) (from to : ℕ) → AreGapTallyIntervals values f row
    → HasPageImageCount (λ x. values x × (from ≤ f x) × (f x < to)) (count_by (is_gap_tally_between from to) row)
tally_row_counts {A} values f row from to is = record {
  list = filter pick is.list;
  each = λ x. (
    λ h. let p = (filtered_in_order_has pick is.list x).0 h in
        let b = (tally_row_between_is from to (f x)).0 p.1 in ((is.each x).0 p.0, b.0, b.1),
    λ v. (filtered_in_order_has pick is.list x).1 ((is.each x).1 v.0, (tally_row_between_is from to (f x)).1 (v.1, v.2)),
  );
  once = in_order-filter (λ (a b : A). a ≢ b) pick is.list is.once;
  length_is = tally_row_length_picked (is_gap_tally_between from to) f is.list ∙ ap (count_by (is_gap_tally_between from to)) (sym is.are);
}
  where
    pick : A → Bool
    pick x = is_gap_tally_between from to (f x)

tally_row_map_append : {A : Type 0} (f : A → ℕ) (xs : List A) (y : A) → map f (xs ++ y ∷ []) ≡ map f xs ++ f y ∷ []
tally_row_map_append f [] y = refl
tally_row_map_append f (x ∷ xs) y = ap (λ ys. f x ∷ ys) (tally_row_map_append f xs y)

-- the row of the same values
pub tally_row_same : {A : Type 0} (P Q : A → Type 0) (f : A → ℕ) (row : List ℕ) → ((x : A) → P x ↔ Q x) → AreGapTallyIntervals P f row
    → AreGapTallyIntervals Q f row
tally_row_same P Q f row same is = record {
  list = is.list;
  each = λ x. (λ h. (same x).0 ((is.each x).0 h), λ v. (is.each x).1 ((same x).1 v));
  once = is.once;
  are = is.are;
  rising = is.rising;
}

-- the row with a value more, of an interval that none is past
pub tally_row_next : {A : Type 0} (P Q : A → Type 0) (f : A → ℕ) (row : List ℕ) (y : A)
    → ((x : A) → Q x ↔ (P x ⊎ (x ≡ y))) → ¬ P y → ((x : A) → P x → f x ≤ f y) → AreGapTallyIntervals P f row
    → AreGapTallyIntervals Q f (row ++ f y ∷ [])
tally_row_next {A} P Q f row y one fresh past is = record {
  list = is.list ++ y ∷ [];
  each = λ x. (
    λ h. (one x).1 (elim ((joined_list_has-append is.list (y ∷ []) x).0 h) [
      | inl old ↦ inl ((is.each x).0 old)
      | inr new ↦ inr (elim ((joined_list_has-cons y [] x).0 new) [ inl same ↦ sym same | inr none ↦ absurd (joined_list_has-nil x none) ])
    ]),
    λ v. (joined_list_has-append is.list (y ∷ []) x).1 (elim ((one x).0 v) [
      | inl old ↦ inl ((is.each x).1 old)
      | inr new ↦ inr (0, ap Some (sym new))
    ]),
  );
  once =
      once-append is.list (y ∷ []) is.once (joined_list_in_order_single (λ (a b : A). a ≢ b) y)
      (λ x h g. fresh (elim ((joined_list_has-cons y [] x).0 g) [
        | inl same ↦ subst P (sym same) ((is.each x).0 h)
        | inr none ↦ absurd (joined_list_has-nil x none)
      ]));
  are = ap (λ (ks : List ℕ). ks ++ f y ∷ []) is.are ∙ sym (tally_row_map_append f is.list y);
  rising = joined_list_in_order-append (λ (k m : ℕ). k ≤ m) row (f y ∷ []) is.rising (joined_list_in_order_single (λ (k m : ℕ). k ≤ m) (f y)) last;
}
  where
    last : (k m : ℕ) → Has row k → Has (f y ∷ []) m → k ≤ m
    last k m h g =
        let x = (joined_list_has-map f is.list k).0 (subst (λ (ks : List ℕ). Has ks k) is.are h) in
        let up = past x.0 ((is.each x.0).0 x.1) in
        let at = x.2 in
        elim ((joined_list_has-cons (f y) [] m).0 g) [ inl same ↦ omega arith | inr none ↦ absurd (joined_list_has-nil m none) ]

-- what one more value makes of all of them
pub record IsOneMoreInTallyRow {A : Type 0} (old new : ℕ → ℕ → A → Type 0) (n q : ℕ) (y : A) : Type 0 where
  pub same : (m r : ℕ) (x : A) → old m r x → new m r x
  pub now : new n q y
  pub others : (m r : ℕ) (x : A) → new m r x → old m r x ⊎ ((m ≡ n) × (r ≡ q) × (x ≡ y))

-- a value more of page n, marked at x, in processor q's interval f y: added unless it was there
pub tally_rows_and_marks_next : {A : Type 0} {P Q : ℕ → ℕ → A → Type 0} {f : A → ℕ} {M N : ℕ → ℕ → ℕ → Type 0} {most : ℕ} {old new : GapTally} {n x q : ℕ} {y : A} → q < 16 → IsOneMoreInTallyRow P Q n q y → IsOneMoreInTallyRow M N x q (f y)
    → (P n q y ↔ M x q (f y)) → ((z : A) → P n q z → f z ≤ f y) → ((k : ℕ) → M x q k → k ≤ f y)
    → GapTallyAdds old new (gap_tally_place_of n q) (gap_tally_place_of x q) (f y) → IsGapTallyOfValues P f M most old → IsGapTallyOfValues Q f N (most + 1) new
tally_rows_and_marks_next {A} {P = P} {Q = Q} {f = f} {M = M} {N = N} {most = most} {old = old} {new = new} {n = n} {x = x} {q = q} {y = y} lt more marked link past marked_past adds is =
    elim adds [ inl added ↦ add added | inr known ↦ keep known ]
  where
    was : f y < gap_tally_mark old (gap_tally_place_of x q) → P n q y
    was less =
        let last = (is.marks x q lt).last (λ none. omega arith) in
        let le = marked_past (gap_tally_mark old (gap_tally_place_of x q) - 1) last in
        link.1 (subst (M x q) (omega arith) last)

    others_row : (m r : ℕ) → ((m ≡ n) × (r ≡ q) → ⊥) → (z : A) → P m r z ↔ Q m r z
    others_row m r apart z = (
      more.same m r z,
      λ h. elim (more.others m r z h) [ inl o ↦ o | inr s ↦ absurd (apart (s.0, s.1)) ],
    )

    mark_kept : (a r : ℕ) → ((a ≡ x) × (r ≡ q) → ⊥) → IsGapTallyMark (M a r) (gap_tally_mark old (gap_tally_place_of a r))
        → IsGapTallyMark (N a r) (gap_tally_mark old (gap_tally_place_of a r))
    mark_kept a r apart m = record {
      below = λ k h. elim (marked.others a r k h) [ inl o ↦ m.below k o | inr s ↦ absurd (apart (s.0, s.1)) ];
      last = λ some. marked.same a r (gap_tally_mark old (gap_tally_place_of a r) - 1) (m.last some);
    }

    keep : (f y < gap_tally_mark old (gap_tally_place_of x q)) × (new ≡ old) → IsGapTallyOfValues Q f N (most + 1) new
    keep h = subst (λ t. IsGapTallyOfValues Q f N (most + 1) t) (sym h.1) (record {
      rows = λ m r within. tally_row_same (P m r) (Q m r) f (gap_tally_numbers old (gap_tally_place_of m r)) (all m r) (is.rows m r within);
      marks = λ a r within. record {
        below = λ k g. (is.marks a r within).below k (elim (marked.others a r k g) [
          | inl o ↦ o
          | inr s ↦ subst (λ z. M z r k) (sym s.0) (subst (λ z. M x z k) (sym s.1)
              (subst (M x q) (sym s.2) (link.0 (was h.0))))
        ]);
        last = λ some. marked.same a r (gap_tally_mark old (gap_tally_place_of a r) - 1) ((is.marks a r within).last some);
      };
      few = λ r. (let few = is.few r in omega arith);
      few_rows = (let few = is.few_rows in omega arith);
      few_marks = (let few = is.few_marks in omega arith);
    })
      where
        all : (m r : ℕ) (z : A) → P m r z ↔ Q m r z
        all m r z = (
          more.same m r z,
          λ g. elim (more.others m r z g) [
            | inl o ↦ o
            | inr s ↦ subst (λ a. P a r z) (sym s.0) (subst (λ a. P n a z) (sym s.1) (subst (P n q) (sym s.2) (was h.0)))
          ],
        )

    add : IsGapTallyAdded old new (gap_tally_place_of n q) (gap_tally_place_of x q) (f y) → IsGapTallyOfValues Q f N (most + 1) new
    add a = record {
      rows = rows;
      marks = marks;
      few = few;
      few_rows = (let more = a.more_rows in let old_few = is.few_rows in omega arith);
      few_marks = (let more = a.more_marks in let old_few = is.few_marks in omega arith);
    }
      where
        fresh : ¬ P n q y
        fresh h = let less = (is.marks x q lt).below (f y) (link.0 h) in let le = a.fresh in omega arith

        one : (z : A) → Q n q z ↔ (P n q z ⊎ (z ≡ y))
        one z = (
          λ h. elim (more.others n q z h) [ inl o ↦ inl o | inr s ↦ inr s.2 ],
          λ h. elim h [ inl o ↦ more.same n q z o | inr s ↦ subst (Q n q) (sym s) more.now ],
        )

        here : AreGapTallyIntervals (Q n q) f (gap_tally_numbers new (gap_tally_place_of n q))
        here =
            subst (AreGapTallyIntervals (Q n q) f) (sym a.more)
            (tally_row_next (P n q) (Q n q) f (gap_tally_numbers old (gap_tally_place_of n q)) y one fresh past (is.rows n q lt))

        rows : (m r : ℕ) → r < 16 → AreGapTallyIntervals (Q m r) f (gap_tally_numbers new (gap_tally_place_of m r))
        rows m r within = elim (cases_eq (gap_tally_place_of m r) (gap_tally_place_of n q)) [
          | inl same ↦
              (let first : n ≡ m = omega arith in
              let second : q ≡ r = omega arith in
              subst (λ z. AreGapTallyIntervals (Q z r) f (gap_tally_numbers new (gap_tally_place_of z r))) first
              (subst (λ z. AreGapTallyIntervals (Q n z) f (gap_tally_numbers new (gap_tally_place_of n z))) second here))
          | inr apart ↦
              subst (AreGapTallyIntervals (Q m r) f) (sym (a.others (gap_tally_place_of m r) apart))
              (tally_row_same (P m r) (Q m r) f (gap_tally_numbers old (gap_tally_place_of m r))
              (others_row m r (λ s. apart (let first = s.0 in let second = s.1 in omega arith))) (is.rows m r within))
        ]

        now : IsGapTallyMark (N x q) (gap_tally_mark new (gap_tally_place_of x q))
        now = record {
          below = λ k h. elim (marked.others x q k h) [
            | inl o ↦ (let le = marked_past k o in let is = a.marked in omega arith)
            | inr s ↦ (let same = s.2 in let is = a.marked in omega arith)
          ];
          last = λ some. subst (N x q) (let is = a.marked in omega arith) marked.now;
        }

        marks : (b r : ℕ) → r < 16 → IsGapTallyMark (N b r) (gap_tally_mark new (gap_tally_place_of b r))
        marks b r within = elim (cases_eq (gap_tally_place_of b r) (gap_tally_place_of x q)) [
          | inl same ↦
              (let first : x ≡ b = omega arith in
              let second : q ≡ r = omega arith in
              subst (λ z. IsGapTallyMark (N z r) (gap_tally_mark new (gap_tally_place_of z r))) first
              (subst (λ z. IsGapTallyMark (N x z) (gap_tally_mark new (gap_tally_place_of x z))) second now))
          | inr apart ↦
              subst (IsGapTallyMark (N b r)) (sym (a.others_marked (gap_tally_place_of b r) apart))
              (mark_kept b r (λ s. apart (let first = s.0 in let second = s.1 in omega arith)) (is.marks b r within))
        ]

        few : (r : ℕ) → length (gap_tally_numbers new r) ≤ most + 1
        few r = elim (cases_eq r (gap_tally_place_of n q)) [
          | inl same ↦
              (let long = length-append (gap_tally_numbers old (gap_tally_place_of n q)) (f y ∷ []) in
              let old_few = is.few (gap_tally_place_of n q) in
              let P : ℕ → Type 0 = λ z. length (gap_tally_numbers new z) ≤ most + 1 in
              let Q : List ℕ → Type 0 = λ zs. length zs ≤ most + 1 in
              subst P (sym same) (subst Q (sym a.more) (omega arith)))
          | inr apart ↦
              (let old_few = is.few r in
              let Q : List ℕ → Type 0 = λ zs. length zs ≤ most + 1 in
              subst Q (sym (a.others r apart)) (omega arith))
        ]

-- values that stay leave the tally
pub tally_rows_and_marks_same : {A : Type 0} {P : ℕ → ℕ → A → Type 0} (Q : ℕ → ℕ → A → Type 0) {f : A → ℕ} {M : ℕ → ℕ → ℕ → Type 0} (N : ℕ → ℕ → ℕ → Type 0) {most : ℕ} {t : GapTally}
    → ((m r : ℕ) (z : A) → P m r z ↔ Q m r z) → ((m r k : ℕ) → M m r k ↔ N m r k) → IsGapTallyOfValues P f M most t
    → IsGapTallyOfValues Q f N (most + 1) t
tally_rows_and_marks_same {P = P} Q {f = f} N {t = t} same marks is = record {
  rows = λ m r lt. tally_row_same (P m r) (Q m r) f (gap_tally_numbers t (gap_tally_place_of m r)) (same m r) (is.rows m r lt);
  marks = λ a r lt. record {
    below = λ k h. (is.marks a r lt).below k ((marks a r k).1 h);
    last = λ some. (marks a r (gap_tally_mark t (gap_tally_place_of a r) - 1)).0 ((is.marks a r lt).last some);
  };
  few = λ r. (let few = is.few r in omega arith);
  few_rows = (let few = is.few_rows in omega arith);
  few_marks = (let few = is.few_marks in omega arith);
}

-- a row of no values
pub tally_row_none : {A : Type 0} (P : A → Type 0) (f : A → ℕ) (row : List ℕ) → row ≡ [] → ((x : A) → ¬ P x) → AreGapTallyIntervals P f row
tally_row_none {A} P f row is none = subst (AreGapTallyIntervals P f) (sym is) (record {
  list = [];
  each = λ x. (λ h. absurd (joined_list_has-nil x h), λ v. absurd (none x v));
  once = λ i k a b lt at to. absurd (none-some a at);
  are = refl;
  rising = λ i k a b lt at to. absurd (none-some a at);
})

-- a tally of no values
pub tally_rows_and_marks_none : {A : Type 0} (P : ℕ → ℕ → A → Type 0) (f : A → ℕ) (M : ℕ → ℕ → ℕ → Type 0) (t : GapTally)
    → (vec_len t.rows.kept ≡ 0) × (vec_len t.marks.kept ≡ 0)
    → ((r : ℕ) → gap_tally_numbers t r ≡ []) → ((m : ℕ) → gap_tally_mark t m ≡ 0) → ((m r : ℕ) (z : A) → ¬ P m r z)
    → ((m r k : ℕ) → ¬ M m r k) → IsGapTallyOfValues P f M 0 t
tally_rows_and_marks_none P f M t bare empty zeros none unmarked = record {
  rows = λ m r lt. tally_row_none (P m r) f (gap_tally_numbers t (gap_tally_place_of m r)) (empty (gap_tally_place_of m r)) (none m r);
  marks = λ a r lt. record {
    below = λ k h. absurd (unmarked a r k h);
    last = λ some. absurd (some (zeros (gap_tally_place_of a r)));
  };
  few = λ r. subst (λ (ks : List ℕ). length ks ≤ 0) (sym (empty r)) (omega arith);
  few_rows = (let none = bare.0 in omega arith);
  few_marks = (let none = bare.1 in omega arith);
}
