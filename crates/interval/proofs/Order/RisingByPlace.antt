-- Lists of intervals by rising closing number.
use Rattle.std.proofs.Common.{◌≡◌, ◌<◌, suc, true, cond, nat_lt, Some, ◌⊎◌, inl, inr, List, [], ◌∷◌, ◌++◌, refl, sym, ap, subst, arith, ◌∙◌}
use Rattle.std.proofs.lemmas.Bool.{cond_both, ltb-true, ltb-false}
use Rattle.base.specs.InOrderOnce.{Has, InOrder}
use Rattle.base.proofs.JoinedLists.{joined_list_has-nil, joined_list_has-cons, joined_list_in_order-nil, joined_list_in_order-cons, joined_list_in_order_single, joined_list_in_order_tail, joined_list_in_order-append}
use Rattle.interval.specs.declared.interval.KeptInterval.{KeptInterval}
use Rattle.interval.specs.IntervalQueues.{interval_queue_placed, interval_queue_by_place}

abbrev pub RisesBefore : KeptInterval → KeptInterval → Type 0
RisesBefore j k = j.place < k.place

-- each interval was closed before all later ones of the list
abbrev pub Rises : List KeptInterval → Type 0
Rises xs = InOrder RisesBefore xs

-- the first was closed before the others
pub rises_first : (x : KeptInterval) (xs : List KeptInterval) → Rises (x ∷ xs) → (j : KeptInterval) → Has xs j → x.place < j.place
rises_first x xs rises j h = rises 0 (suc h.0) x j (omega arith) refl h.1

pub rises_rest : (x : KeptInterval) (xs : List KeptInterval) → Rises (x ∷ xs) → Rises xs
rises_rest x xs rises = joined_list_in_order_tail RisesBefore x xs rises

-- `placed`

pub has-rising_placed : (k : KeptInterval) (xs : List KeptInterval) (j : KeptInterval) → Has (interval_queue_placed k xs) j → (k ≡ j) ⊎ Has xs j
has-rising_placed k [] j h = (joined_list_has-cons k [] j).0 h
has-rising_placed k (x ∷ xs) j h =
    let P : List KeptInterval → Type 0 = λ ys. Has ys j → (k ≡ j) ⊎ Has (x ∷ xs) j in
    let later : P (x ∷ interval_queue_placed k xs) = λ g. elim ((joined_list_has-cons x (interval_queue_placed k xs) j).0 g) [
      | inl same ↦ inr (0, ap Some same)
      | inr rest ↦ elim (has-rising_placed k xs j rest) [ inl same ↦ inl same | inr old ↦ inr (suc old.0, old.1) ]
    ] in
    cond_both (nat_lt k.place x.place) (k ∷ x ∷ xs) (cond (nat_lt x.place k.place) (x ∷ interval_queue_placed k xs) (x ∷ xs)) P
    (λ e. (joined_list_has-cons k (x ∷ xs) j).0)
    (λ e. cond_both (nat_lt x.place k.place) (x ∷ interval_queue_placed k xs) (x ∷ xs) P (λ f. later) (λ f g. inr g)) h

pub has-rising_placed_old : (k : KeptInterval) (xs : List KeptInterval) (j : KeptInterval) → Has xs j → Has (interval_queue_placed k xs) j
has-rising_placed_old k [] j h = absurd (joined_list_has-nil j h)
has-rising_placed_old k (x ∷ xs) j h =
    let P : List KeptInterval → Type 0 = λ ys. Has ys j in
    let later : P (x ∷ interval_queue_placed k xs) = elim ((joined_list_has-cons x xs j).0 h) [
      | inl same ↦ (0, ap Some same)
      | inr old ↦ (let there = has-rising_placed_old k xs j old in (suc there.0, there.1))
    ] in
    cond_both (nat_lt k.place x.place) (k ∷ x ∷ xs) (cond (nat_lt x.place k.place) (x ∷ interval_queue_placed k xs) (x ∷ xs)) P
    (λ e. (suc h.0, h.1))
    (λ e. cond_both (nat_lt x.place k.place) (x ∷ interval_queue_placed k xs) (x ∷ xs) P (λ f. later) (λ f. h))

pub has-rising_placed_new : (k : KeptInterval) (xs : List KeptInterval) → ((x : KeptInterval) → Has xs x → k.place ≡ x.place → k ≡ x)
    → Has (interval_queue_placed k xs) k
has-rising_placed_new k [] apart = (0, refl)
has-rising_placed_new k (x ∷ xs) apart =
    let P : List KeptInterval → Type 0 = λ ys. Has ys k in
    let rest = has-rising_placed_new k xs (λ y h e. apart y (suc h.0, h.1) e) in
    cond_both (nat_lt k.place x.place) (k ∷ x ∷ xs) (cond (nat_lt x.place k.place) (x ∷ interval_queue_placed k xs) (x ∷ xs)) P
    (λ e. (0, refl))
    (λ e. cond_both (nat_lt x.place k.place) (x ∷ interval_queue_placed k xs) (x ∷ xs) P (λ f. (suc rest.0, rest.1))
    (λ f. let a = ltb-false _ _ e in let b = ltb-false _ _ f in (0, ap Some (sym (apart x (0, refl) (omega arith))))))

pub rises-placed : (k : KeptInterval) (xs : List KeptInterval) → Rises xs → Rises (interval_queue_placed k xs)
rises-placed k [] rises = joined_list_in_order_single RisesBefore k
rises-placed k (x ∷ xs) rises =
    let front : nat_lt k.place x.place ≡ true → Rises (k ∷ x ∷ xs) = λ e.
    let lt = ltb-true _ _ e in
    joined_list_in_order-cons RisesBefore k (x ∷ xs) (λ j h. elim ((joined_list_has-cons x xs j).0 h) [
      | inl same ↦ (let place = ap (λ (z : KeptInterval). z.place) same in omega arith)
      | inr old ↦ (let after = rises_first x xs rises j old in omega arith)
    ]) rises in
    let later : nat_lt x.place k.place ≡ true → Rises (x ∷ interval_queue_placed k xs) = λ f.
    let lt = ltb-true _ _ f in
    joined_list_in_order-cons RisesBefore x (interval_queue_placed k xs) (λ j h. elim (has-rising_placed k xs j h) [
      | inl same ↦ (let place = ap (λ (z : KeptInterval). z.place) same in omega arith)
      | inr old ↦ rises_first x xs rises j old
    ]) (rises-placed k xs (rises_rest x xs rises)) in
    cond_both (nat_lt k.place x.place) (k ∷ x ∷ xs) (cond (nat_lt x.place k.place) (x ∷ interval_queue_placed k xs) (x ∷ xs)) Rises
    front
    (λ e. cond_both (nat_lt x.place k.place) (x ∷ interval_queue_placed k xs) (x ∷ xs) Rises later (λ f. rises))

-- `by_place`

pub has-rising_by_place : (xs : List KeptInterval) (j : KeptInterval) → Has (interval_queue_by_place xs) j → Has xs j
has-rising_by_place [] j h = h
has-rising_by_place (x ∷ xs) j h = elim (has-rising_placed x (interval_queue_by_place xs) j h) [
  | inl same ↦ (0, ap Some same)
  | inr later ↦ (let old = has-rising_by_place xs j later in (suc old.0, old.1))
]

-- a closing number stands for one interval
abbrev pub RisesApartByPlace : List KeptInterval → Type 0
RisesApartByPlace xs = (j k : KeptInterval) → Has xs j → Has xs k → j.place ≡ k.place → j ≡ k

pub has-rising_by_place_from : (xs : List KeptInterval) → RisesApartByPlace xs → (j : KeptInterval) → Has xs j → Has (interval_queue_by_place xs) j
has-rising_by_place_from [] apart j h = absurd (joined_list_has-nil j h)
has-rising_by_place_from (x ∷ xs) apart j h = elim ((joined_list_has-cons x xs j).0 h) [
  | inl same ↦ (
      let new =
      has-rising_placed_new x (interval_queue_by_place xs)
      (λ y g e. let old = has-rising_by_place xs y g in apart x y (0, refl) (suc old.0, old.1) e) in
      let P : KeptInterval → Type 0 = λ z. Has (interval_queue_placed x (interval_queue_by_place xs)) z in
      subst P same new)
  | inr later ↦ has-rising_placed_old x (interval_queue_by_place xs) j
      (has-rising_by_place_from xs (λ i k a b e. apart i k (suc a.0, a.1) (suc b.0, b.1) e) j later)
]

pub rises-by_place : (xs : List KeptInterval) → Rises (interval_queue_by_place xs)
rises-by_place [] = joined_list_in_order-nil RisesBefore
rises-by_place (x ∷ xs) = rises-placed x (interval_queue_by_place xs) (rises-by_place xs)

-- a rising list is known by what stands in it
pub same_rising_by_place : (xs ys : List KeptInterval) → Rises xs → Rises ys → ((k : KeptInterval) → Has xs k → Has ys k)
    → ((k : KeptInterval) → Has ys k → Has xs k) → xs ≡ ys
same_rising_by_place [] [] r s to from = refl
same_rising_by_place [] (y ∷ ys) r s to from = absurd (joined_list_has-nil y (from y (0, refl)))
same_rising_by_place (x ∷ xs) [] r s to from = absurd (joined_list_has-nil x (to x (0, refl)))
same_rising_by_place (x ∷ xs) (y ∷ ys) r s to from =
    let same : x ≡ y = elim ((joined_list_has-cons y ys x).0 (to x (0, refl))) [
      | inl e ↦ sym e
      | inr above ↦ elim ((joined_list_has-cons x xs y).0 (from y (0, refl))) [
        | inl e ↦ e
        | inr below ↦
            (let a = rises_first y ys s x above in let b = rises_first x xs r y below in absurd (omega arith))
      ]
    ] in
    let tail_to : (k : KeptInterval) → Has xs k → Has ys k = λ k h. elim ((joined_list_has-cons y ys k).0 (to k (suc h.0, h.1))) [
      | inl e ↦ (let after = rises_first x xs r k h in
          let place : x.place ≡ k.place = ap (λ (z : KeptInterval). z.place) (same ∙ e) in absurd (omega arith))
      | inr t ↦ t
    ] in
    let tail_from : (k : KeptInterval) → Has ys k → Has xs k = λ k h. elim ((joined_list_has-cons x xs k).0 (from k (suc h.0, h.1))) [
      | inl e ↦ (let after = rises_first y ys s k h in
          let place : y.place ≡ k.place = ap (λ (z : KeptInterval). z.place) (sym same ∙ e) in absurd (omega arith))
      | inr t ↦ t
    ] in
    let tails = same_rising_by_place xs ys (rises_rest x xs r) (rises_rest y ys s) tail_to tail_from in cc

-- one more, closed after all others
pub rises-push : (xs : List KeptInterval) (k : KeptInterval) → Rises xs → ((j : KeptInterval) → Has xs j → j.place < k.place)
    → Rises (xs ++ k ∷ [])
rises-push xs k rises below = joined_list_in_order-append RisesBefore xs (k ∷ []) rises (joined_list_in_order_single RisesBefore k)
    (λ j l here last. elim ((joined_list_has-cons k [] l).0 last) [
      | inl same ↦ (let lt = below j here in let place = ap (λ (z : KeptInterval). z.place) same in omega arith)
      | inr none ↦ absurd (joined_list_has-nil l none)
    ])
