-- A list of intervals, sorted by closing number.
use Rattle.std.proofs.Common.{◌≡◌, ◌≢◌, ℕ, ◌<◌, ◌≤◌, ◌==◌, Bool, cond, inl, inr, Some, List, [], ◌∷◌, map, count_by, take, refl, sym, ap, arith, ◌∙◌}
use Rattle.std.specs.List.{Contains}
use Rattle.std.specs.List.Sorted.{IsPermutation, IsNonDecreasingBy}
use Rattle.std.proofs.lemmas.Bool.{cases_lt, cases_order, eq-eqb, eqb-true}
use Rattle.std.proofs.lemmas.List.Sorted.{IsPermutation-sym, IsPermutation-map, Contains-permutation, sum_by-IsPermutation}
use Rattle.std.specs.List.{sum_by}
use Rattle.std.proofs.lemmas.List.Sums.{sum_by-cons}
use Rattle.std.proofs.lemmas.Option.{slice_get_within, slice_get-get_or, get_or_from_slice_get}
use Rattle.base.specs.InOrderOnce.{Has, InOrder}
use Rattle.base.proofs.JoinedLists.{joined_list_in_order-map}
use Rattle.base.proofs.SlicesAndCounts.{slice_count_by-past, slice_count_by-within, slice_counted_at}
use Rattle.interval.specs.declared.interval.KeptInterval.{KeptInterval}
use Rattle.interval.specs.IntervalQueues.{SameQueuedIntervals}
use Rattle.interval.proofs.Order.RisingByPlace.{RisesBefore, Rises, same_rising_by_place}

abbrev is_at_sorted_place : ℕ → KeptInterval → Bool
is_at_sorted_place n k = k.place == n

-- where no closing number stands twice, each is counted once at most
once_at_sorted_place : (n : ℕ) (xs : List KeptInterval) → InOrder (λ (j k : KeptInterval). j.place ≢ k.place) xs → count_by (is_at_sorted_place n) xs ≤ 1
once_at_sorted_place n xs apart = elim (cases_lt 1 (count_by (is_at_sorted_place n) xs)) [
  | inr most ↦ most
  | inl more ↦
      let a = slice_counted_at (is_at_sorted_place n) xs 0 (omega arith) in
      let b = slice_counted_at (is_at_sorted_place n) xs 1 more in
      let at_a = eqb-true a.item.place n a.counts in
      let at_b = eqb-true b.item.place n b.counts in
      elim (cases_order a.place b.place) [
        | inl same ↦
            let counts = ap (λ (m : ℕ). count_by (is_at_sorted_place n) (take m xs)) same in
            let none = a.before in
            let one = b.before in
            absurd (omega arith)
        | inr other ↦ elim other [
          | inl before ↦ absurd (apart a.place b.place a.item b.item before a.at b.at (at_a ∙ sym at_b))
          | inr after ↦ absurd (apart b.place a.place b.item a.item after b.at a.at (at_b ∙ sym at_a))
        ]
      ]
]

sum_by-map_sorted_places : {X : Type 0} (w : KeptInterval → ℕ) (f : X → KeptInterval) (xs : List X)
    → sum_by w (map f xs) ≡ sum_by (λ (x : X). w (f x)) xs
sum_by-map_sorted_places w f [] = refl
sum_by-map_sorted_places {X} w f (x ∷ xs) =
    let rest = sum_by-map_sorted_places w f xs in
    let left = sum_by-cons w (f x) (map f xs) in
    let right = sum_by-cons (λ (y : X). w (f y)) x xs in
    omega arith

-- numbers that don't fall, of which none is there twice, rise
sorted_places_rise_once : {X : Type 0} (n : X → ℕ) (xs : List X) → IsNonDecreasingBy n xs
    → ((m : ℕ) → count_by (λ (x : X). n x == m) xs ≤ 1) → InOrder (λ (a b : X). n a < n b) xs
sorted_places_rise_once {X} n xs up counts x y a b less at_a at_b =
    let order = up x y a (omega arith) (slice_get_within xs y b at_b) in
    let read_a = ap n (get_or_from_slice_get xs x a a at_a) in
    let read_b = ap n (get_or_from_slice_get xs y b a at_b) in
    elim (cases_lt (n a) (n b)) [
      | inl lt ↦ lt
      | inr ge ↦
          let same : n b ≡ n a = omega arith in
          let test : X → Bool = λ z. n z == n a in
          let first = slice_count_by-past test xs x y a at_a (eq-eqb (n a) (n a) refl) less in
          let second = slice_count_by-within test xs y b at_b (eq-eqb (n b) (n a) same) in
          let most = counts (n a) in
          absurd (omega arith)
    ]

has_sorted_places : (xs ys : List KeptInterval) (k : KeptInterval) → IsPermutation xs ys → Has xs k → Has ys k
has_sorted_places xs ys k other h =
    let within = slice_get_within xs h.0 k h.1 in
    let there : Contains xs k = (h.0, within, get_or_from_slice_get xs h.0 k k h.1) in
    let c = Contains-permutation xs ys k other there in
    (c.0, slice_get-get_or ys c.0 k c.1 ∙ ap Some c.2)

-- a rising list is what comes of sorting all of its intervals; `kept` reads them where they are only lent
pub sorted_places_all : {X : Type 0} (kept : X → KeptInterval) (ks : List KeptInterval) (xs ys : List X) → Rises ks
    → SameQueuedIntervals ks (map kept xs) → IsPermutation xs ys → IsNonDecreasingBy (λ (x : X). (kept x).place) ys
    → map kept ys ≡ ks
sorted_places_all {X} kept ks xs ys rises all other up =
    let moved = IsPermutation-map kept xs ys other in
    let counts : (m : ℕ) → count_by (λ (x : X). (kept x).place == m) ys ≤ 1 = λ m.
    let most = once_at_sorted_place m (map kept xs) all.apart in
    let same = sum_by-IsPermutation (λ (k : KeptInterval). cond (is_at_sorted_place m k) 1 0) (map kept xs) (map kept ys) moved in
    let read = sum_by-map_sorted_places (λ (k : KeptInterval). cond (is_at_sorted_place m k) 1 0) kept ys in
    omega arith in
    let rising : Rises (map kept ys) =
    joined_list_in_order-map RisesBefore kept ys (sorted_places_rise_once (λ (x : X). (kept x).place) ys up counts) in
    same_rising_by_place (map kept ys) ks rising rises
    (λ k h. (all.same k).0 (has_sorted_places (map kept ys) (map kept xs) k
    (IsPermutation-sym (map kept xs) (map kept ys) moved) h))
    (λ k h. has_sorted_places (map kept xs) (map kept ys) k moved ((all.same k).1 h))
