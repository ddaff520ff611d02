-- A list with two items in each other's place.
use Rattle.std.proofs.Common.{◌≡◌, ◌≢◌, ◌∙◌, ◌<◌, ◌==◌, ℕ, inl, inr, List, [], ◌∷◌, cond, length, slice_get, slice_set, slice_index_or, eq-eqb, ap, sym, refl, arith}
use Rattle.std.specs.List.{swap}
use Rattle.std.proofs.lemmas.Bool.{cases_eq, ne_eqb}
use Rattle.std.proofs.lemmas.List.{length-set}
use Rattle.std.proofs.lemmas.Option.{slice_get-get_or}
use Rattle.base.proofs.SliceSets.{slice_get-set_other, slice_get-set_same}

-- where the item at k stood
abbrev pub swapped_item_place : ℕ → ℕ → ℕ → ℕ
swapped_item_place i j k = cond (k == j) i (cond (k == i) j k)

swapped_item_place_second : (i j k : ℕ) → k ≡ j → swapped_item_place i j k ≡ i
swapped_item_place_second i j k is = ap (λ b. cond b i (cond (k == i) j k)) (eq-eqb k j is)

swapped_item_place_first : (i j k : ℕ) → k ≢ j → k ≡ i → swapped_item_place i j k ≡ j
swapped_item_place_first i j k isnt is =
    ap (λ b. cond b i (cond (k == i) j k)) (ne_eqb k j isnt) ∙ ap (λ b. cond b j k) (eq-eqb k i is)

swapped_item_place_others : (i j k : ℕ) → k ≢ j → k ≢ i → swapped_item_place i j k ≡ k
swapped_item_place_others i j k isnt not =
    ap (λ b. cond b i (cond (k == i) j k)) (ne_eqb k j isnt) ∙ ap (λ b. cond b j k) (ne_eqb k i not)

-- twice is not at all
pub swapped_item_place_back : (i j k : ℕ) → swapped_item_place i j (swapped_item_place i j k) ≡ k
swapped_item_place_back i j k = elim (cases_eq k j) [
  | inl is ↦
      ap (swapped_item_place i j) (swapped_item_place_second i j k is)
      ∙ elim (cases_eq i j)
      [ inl same ↦ swapped_item_place_second i j i same ∙ same ∙ sym is | inr other ↦ swapped_item_place_first i j i other refl ∙ sym is ]
  | inr isnt ↦
      elim (cases_eq k i) [
        | inl is ↦ ap (swapped_item_place i j) (swapped_item_place_first i j k isnt is) ∙ swapped_item_place_second i j j refl ∙ sym is
        | inr not ↦ ap (swapped_item_place i j) (swapped_item_place_others i j k isnt not) ∙ swapped_item_place_others i j k isnt not
      ]
]

-- what stands at k after the two writes that this is
written : {A : Type 0} (xs : List A) (i j k : ℕ) (d : A) → i < length xs → j < length xs
    → slice_get (slice_set (slice_set xs i (slice_index_or xs j d)) j (slice_index_or xs i d)) k
    ≡ slice_get xs (swapped_item_place i j k)
written xs i j k d first second =
    let there = slice_index_or xs j d in
    let here = slice_index_or xs i d in
    let one = slice_set xs i there in
    let within : j < length one = omega (arith, second, length-set xs i there) in
    elim (cases_eq k j) [
      | inl is ↦
          ap (slice_get (slice_set one j here)) is ∙ slice_get-set_same one j here within
          ∙ sym (slice_get-get_or xs i d first) ∙ ap (slice_get xs) (sym (swapped_item_place_second i j k is))
      | inr isnt ↦
          slice_get-set_other one j k here isnt ∙ elim (cases_eq k i) [
            | inl is ↦
                ap (slice_get one) is ∙ slice_get-set_same xs i there first ∙ sym (slice_get-get_or xs j d second)
                ∙ ap (slice_get xs) (sym (swapped_item_place_first i j k isnt is))
            | inr not ↦
                slice_get-set_other xs i k there not ∙ ap (slice_get xs) (sym (swapped_item_place_others i j k isnt not))
          ]
    ]

-- what stands at k
pub swapped_item_at : {A : Type 0} (xs : List A) (i j k : ℕ) → i < length xs → j < length xs
    → slice_get (swap xs i j) k ≡ slice_get xs (swapped_item_place i j k)
swapped_item_at [] i j k first second = absurd (omega arith)
swapped_item_at (d ∷ ys) i j k first second = written (d ∷ ys) i j k d first second
