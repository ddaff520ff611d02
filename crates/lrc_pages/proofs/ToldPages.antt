-- The order in which pages are told, and the pages that are told so far.
use Rattle.std.proofs.Common.{◌≡◌, ℕ, ◌+◌, ◌<◌, ◌≤◌, ◌⊎◌, inl, inr, List, [], ◌∷◌, ◌++◌, Option, Some, length, slice_index, sym, refl, subst, subst₂, ◌∙◌, arith}
use Rattle.std.specs.Prelude.{None, IfSome, MatchOption}
use Rattle.std.proofs.lemmas.Bool.Decides.{eqb_tells, leb_tells}
use Rattle.std.proofs.lemmas.List.{get_or_past}
use Rattle.base.specs.InOrderOnce.{Has, InOrder}
use Rattle.base.proofs.JoinedLists.{joined_list_has-append, joined_list_has-cons, joined_list_has-nil, joined_list_in_order-append, joined_list_in_order-nil, joined_list_in_order_single, joined_list_in_weaker_order}
use Rattle.lrc_pages.specs.MostFetched.{AreMostFetched, IsFirstBelow, IsToldAfter, IsToldBefore, IsToldNext}

-- a page that is told before one that is told before another is told before that
pub told_before_far : (c : ℕ → ℕ) (n m k : ℕ) → IsToldBefore c n m → IsToldBefore c m k → IsToldBefore c n k
told_before_far c n m k (inl x) (inl y) = inl (omega arith)
told_before_far c n m k (inl x) (inr y) = let same = y.0 in inl (omega arith)
told_before_far c n m k (inr x) (inl y) = let same = x.0 in inl (omega arith)
told_before_far c n m k (inr x) (inr y) =
    let one = x.0 in
    let two = y.0 in
    let low = x.1 in
    let high = y.1 in
    inr (omega arith, omega arith)

-- the higher of two pages is told first if the lower one isn't
pub told_before_higher : (c : ℕ → ℕ) (n m : ℕ) → n < m → ¬ IsToldBefore c n m → IsToldBefore c m n
told_before_higher c n m lt never = elim (leb_tells (c m) (c n)) [
  | inl few ↦ elim (eqb_tells (c m) (c n)) [
    | inl same ↦ absurd (never (inr (same.1, lt)))
    | inr other ↦ (let le = few.1 in let away = other.1 in absurd (never (inl (omega arith))))
  ]
  | inr more ↦ inl more.1
]

-- with the same counts
pub told_before_same : (c d : ℕ → ℕ) → ((n : ℕ) → c n ≡ d n) → (n m : ℕ) → IsToldBefore c n m → IsToldBefore d n m
told_before_same c d same n m (inl x) = inl (subst₂ (λ a b. a < b) (same m) (same n) x)
told_before_same c d same n m (inr x) = inr (sym (same m) ∙ x.0 ∙ same n, x.1)

-- page `up` is none that may be told
pub first_told_stays : (c : ℕ → ℕ) (last : Option ℕ) (up : ℕ) (best : Option ℕ) → (0 < c up → ¬ IsToldAfter c last up)
    → IsFirstBelow c last up best → IsFirstBelow c last (up + 1) best
first_told_stays c last up None never were = λ m lt some after. elim (eqb_tells m up) [
  | inl same ↦ never (subst (λ x. 0 < c x) same.1 some) (subst (IsToldAfter c last) same.1 after)
  | inr other ↦ (let away = other.1 in were m (omega arith) some after)
]
first_told_stays c last up (Some n) never were = record {
  below = (let lt = were.below in omega arith);
  fetched = were.fetched;
  after = were.after;
  first = λ m lt some after. elim (eqb_tells m up) [
    | inl same ↦ absurd (never (subst (λ x. 0 < c x) same.1 some) (subst (IsToldAfter c last) same.1 after))
    | inr other ↦ (let away = other.1 in were.first m (omega arith) some after)
  ];
}

-- it is the only one
pub first_told_only : (c : ℕ → ℕ) (last : Option ℕ) (up : ℕ) → 0 < c up → IsToldAfter c last up → IsFirstBelow c last up None
    → IsFirstBelow c last (up + 1) (Some up)
first_told_only c last up fetched is were = record {
  below = omega arith;
  fetched = fetched;
  after = is;
  first = λ m lt some after. elim (eqb_tells m up) [
    | inl same ↦ inl (sym same.1)
    | inr other ↦ (let away = other.1 in absurd (were m (omega arith) some after))
  ];
}

-- another one is told before it
pub first_told_kept : (c : ℕ → ℕ) (last : Option ℕ) (up n : ℕ) → IsToldBefore c n up → IsFirstBelow c last up (Some n)
    → IsFirstBelow c last (up + 1) (Some n)
first_told_kept c last up n before were = record {
  below = (let lt = were.below in omega arith);
  fetched = were.fetched;
  after = were.after;
  first = λ m lt some after. elim (eqb_tells m up) [
    | inl same ↦ inr (subst (IsToldBefore c n) (sym same.1) before)
    | inr other ↦ (let away = other.1 in were.first m (omega arith) some after)
  ];
}

-- it is told before all others
pub first_told_now : (c : ℕ → ℕ) (last : Option ℕ) (up n : ℕ) → 0 < c up → IsToldAfter c last up → ¬ IsToldBefore c n up
    → IsFirstBelow c last up (Some n) → IsFirstBelow c last (up + 1) (Some up)
first_told_now c last up n fetched is never were =
    let before = told_before_higher c n up were.below never in
    record {
      below = omega arith;
      fetched = fetched;
      after = is;
      first = λ m lt some after. elim (eqb_tells m up) [
        | inl same ↦ inl (sym same.1)
        | inr other ↦ (let away = other.1 in elim (were.first m (omega arith) some after) [
          | inl one ↦ inr (subst (IsToldBefore c up) one before)
          | inr far ↦ inr (told_before_far c up n m before far)
        ])
      ];
    }

-- it is one of those below
pub first_told_within : (c : ℕ → ℕ) (last : Option ℕ) (up room : ℕ) (best : Option ℕ) → up ≤ room → IsFirstBelow c last up best
    → IfSome best (λ n. n < room)
first_told_within c last up room None le were = tt
first_told_within c last up room (Some n) le were = let lt = were.below in omega arith

-- a page that is fetched is one of those that there are
fetched_within : (xs : List ℕ) (m : ℕ) → 0 < slice_index xs m → m < length xs
fetched_within xs m some = elim (leb_tells (length xs) m) [
  | inl past ↦ (let none : slice_index xs m ≡ 0 = get_or_past xs m 0 past.1 in absurd (omega arith))
  | inr within ↦ within.1
]

-- the first one among all pages is the next one to be told
pub next_told : (xs : List ℕ) (last best : Option ℕ) (up : ℕ) → length xs ≤ up → IsFirstBelow (slice_index xs) last up best
    → MatchOption best ((m : ℕ) → 0 < slice_index xs m → ¬ IsToldAfter (slice_index xs) last m) (IsToldNext (slice_index xs) last)
next_told xs last None up all were = λ m some after. (let lt = fetched_within xs m some in were m (omega arith) some after)
next_told xs last (Some n) up all were = record {
  fetched = were.fetched;
  after = were.after;
  first = λ m some after. (let lt = fetched_within xs m some in were.first m (omega arith) some after);
}

-- these pages are told so far, and this one last
pub record AreToldSoFar (c : ℕ → ℕ) (last : Option ℕ) (pages : List ℕ) : Type 0 where
  pub fetched : (n : ℕ) → Has pages n → 0 < c n
  pub order : InOrder (IsToldBefore c) pages
  pub last_is : MatchOption last (pages ≡ []) (λ l. (n : ℕ) → Has pages n → (n ≡ l) ⊎ IsToldBefore c n l)
  pub rest : (m : ℕ) → 0 < c m → Has pages m ⊎ IsToldAfter c last m

pub told_so_far_start : (c : ℕ → ℕ) → AreToldSoFar c None []
told_so_far_start c = record {
  fetched = λ n has. absurd (joined_list_has-nil n has);
  order = joined_list_in_order-nil (IsToldBefore c);
  last_is = refl;
  rest = λ m some. inr tt;
}

-- each of them is told before one that is told after the last
pub told_so_far_before : (c : ℕ → ℕ) (last : Option ℕ) (pages : List ℕ) (m : ℕ) → AreToldSoFar c last pages → IsToldAfter c last m
    → (n : ℕ) → Has pages n → IsToldBefore c n m
told_so_far_before c None pages m told after n has = absurd (joined_list_has-nil n (subst (λ xs. Has xs n) told.last_is has))
told_so_far_before c (Some l) pages m told after n has = elim (told.last_is n has) [
  | inl same ↦ subst (λ x. IsToldBefore c x m) (sym same) after
  | inr far ↦ told_before_far c n l m far after
]

-- what a list with one more has
has_one_more : (pages : List ℕ) (n k : ℕ) → Has (pages ++ n ∷ []) k → Has pages k ⊎ (k ≡ n)
has_one_more pages n k has = elim ((joined_list_has-append pages (n ∷ []) k).0 has) [
  | inl old ↦ inl old
  | inr new ↦ elim ((joined_list_has-cons n [] k).0 new) [
    | inl is ↦ inr (sym is)
    | inr none ↦ absurd (joined_list_has-nil k none)
  ]
]

-- one more is told
pub told_so_far_next : (c : ℕ → ℕ) (last : Option ℕ) (pages : List ℕ) (n : ℕ) → IsToldNext c last n → AreToldSoFar c last pages
    → AreToldSoFar c (Some n) (pages ++ n ∷ [])
told_so_far_next c last pages n next told = record {
  fetched = λ k has. elim (has_one_more pages n k has) [
    | inl old ↦ told.fetched k old
    | inr is ↦ subst (λ x. 0 < c x) (sym is) next.fetched
  ];
  order = joined_list_in_order-append (IsToldBefore c) pages (n ∷ []) told.order (joined_list_in_order_single (IsToldBefore c) n)
      (λ a b here there. elim ((joined_list_has-cons n [] b).0 there) [
        | inl is ↦ subst (IsToldBefore c a) is (before a here)
        | inr none ↦ absurd (joined_list_has-nil b none)
      ]);
  last_is = λ k has. elim (has_one_more pages n k has) [
    | inl old ↦ inr (before k old)
    | inr is ↦ inl is
  ];
  rest = λ m some. elim (told.rest m some) [
    | inl has ↦ inl ((joined_list_has-append pages (n ∷ []) m).1 (inl has))
    | inr after ↦ elim (next.first m some after) [
      | inl is ↦ inl ((joined_list_has-append pages (n ∷ []) m).1 (inr ((joined_list_has-cons n [] m).1 (inl is))))
      | inr far ↦ inr far
    ]
  ];
}
  where
    before : (k : ℕ) → Has pages k → IsToldBefore c k n
    before = told_so_far_before c last pages n told next.after

-- none is left
pub told_all : (c : ℕ → ℕ) (last : Option ℕ) (pages : List ℕ) (most : ℕ) → length pages ≤ most → ((m : ℕ) → 0 < c m → ¬ IsToldAfter c last m)
    → AreToldSoFar c last pages → AreMostFetched c most pages
told_all c last pages most few none told = record {
  few = few;
  fetched = told.fetched;
  order = told.order;
  rest = λ m some. elim (told.rest m some) [ inl has ↦ inl has | inr after ↦ absurd (none m some after) ];
}

-- so many are told as are asked for
pub told_most : (c : ℕ → ℕ) (last : Option ℕ) (pages : List ℕ) (most : ℕ) → length pages ≡ most → AreToldSoFar c last pages
    → AreMostFetched c most pages
told_most c last pages most full told = record {
  few = omega arith;
  fetched = told.fetched;
  order = told.order;
  rest = λ m some. elim (told.rest m some) [
    | inl has ↦ inl has
    | inr after ↦ inr (full, told_so_far_before c last pages m told after)
  ];
}

-- with the same counts
pub most_fetched_same : (c d : ℕ → ℕ) (most : ℕ) (pages : List ℕ) → ((n : ℕ) → c n ≡ d n) → AreMostFetched c most pages
    → AreMostFetched d most pages
most_fetched_same c d most pages same were = record {
  few = were.few;
  fetched = λ n has. subst (λ x. 0 < x) (same n) (were.fetched n has);
  order = joined_list_in_weaker_order (IsToldBefore c) (IsToldBefore d) pages (λ a b here there. told_before_same c d same a b) were.order;
  rest = λ m some. elim (were.rest m (subst (λ x. 0 < x) (sym (same m)) some)) [
    | inl has ↦ inl has
    | inr full ↦ inr (full.0, λ n has. told_before_same c d same n m (full.1 n has))
  ];
}
