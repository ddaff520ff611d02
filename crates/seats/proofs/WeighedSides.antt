-- Sides of a balance that are loaded under its lock, and compared.
use Rattle.std.proofs.Common.{ℕ, ◌≡◌, ◌+◌, ◌%◌, ◌^◌, inl, inr, Bool, true, false, List, [], ◌∷◌, ◌++◌, get_or, length, refl, sym, ap, subst, ◌∙◌, sum_by, append-nil, arith}
use Rattle.std.specs.Prelude.{◌==◌, ◌||◌}
use Rattle.std.proofs.lemmas.Bool.{cases_Bool, eq-eqb}
use Rattle.std.proofs.lemmas.List.Sums.{sum_by-cons}
use Rattle.std.proofs.lemmas.Option.{get_or_from_slice_get}
use Rattle.journal.specs.declared.event.Kind.{Kind}
use Rattle.journal.specs.declared.event.Kind.TheVariants.{Load}
use Rattle.journal.specs.Events.{event_address}
use Rattle.cluster.specs.Copies.Local.{Local}
use Rattle.seats.specs.Acting.{loads_at}
use Rattle.seats.specs.BalanceFacts.{HasFoundKept, HasWeighed, balance_fact, is_balance_fact_word, sum_at}
use Rattle.seats.specs.Sitting.{seat_deeds}
use Rattle.seats.specs.Tenures.{TenureAnswersFrom, IsBetweenTenures, are_tenure_accesses, tenure_has_address, tenure_of_lock}
use Rattle.seats.specs.WordTallies.{AddsUpTo}
use Rattle.seats.proofs.SeatActing.{seat_acted_added}
use Rattle.seats.proofs.BalancedTenures.{balanced_tenure_law}
use Rattle.seats.proofs.KeptByPrograms.{read_tenure}
use Rattle.seats.proofs.AddedTallies.{added_tally_both, added_tally_tenure}

-- loads add nothing
weighed_load_adds_nothing : (l a b v : ℕ) → AddsUpTo l a 0 (Load b v ∷ [])
weighed_load_adds_nothing l a b v = elim (cases_Bool (b == a)) [
  | inl same ↦ record { sighted = rw same refl; sum = rw same refl }
  | inr apart ↦ record { sighted = rw apart refl; sum = rw apart refl }
]

weighed_side_adds_nothing : (l a : ℕ) (side words : List ℕ) → AddsUpTo l a 0 (loads_at side words)
weighed_side_adds_nothing l a [] words = record { sighted = refl; sum = refl }
weighed_side_adds_nothing l a (b ∷ side) [] = record { sighted = refl; sum = refl }
weighed_side_adds_nothing l a (b ∷ side) (v ∷ words) =
    added_tally_both (Load b v ∷ []) (loads_at side words) (weighed_load_adds_nothing l a b v) (weighed_side_adds_nothing l a side words)

weighed_sides_add_nothing : (l a : ℕ) (left right lefts rights : List ℕ) → AddsUpTo l a 0 (loads_at left lefts ++ loads_at right rights)
weighed_sides_add_nothing l a left right lefts rights =
    added_tally_both (loads_at left lefts) (loads_at right rights) (weighed_side_adds_nothing l a left lefts)
    (weighed_side_adds_nothing l a right rights)

-- they are of the words of the two sides
weighed_among_both : (words : ℕ → Bool) (ks ls : List Kind) → are_tenure_accesses words ks ≡ true → are_tenure_accesses words ls ≡ true
    → are_tenure_accesses words (ks ++ ls) ≡ true
weighed_among_both words [] ls one two = two
weighed_among_both words (k ∷ ks) ls one two = elim (cases_Bool (tenure_has_address words (event_address k))) [
  | inl mine ↦ rw mine (weighed_among_both words ks ls (rw mine at one) two)
  | inr other ↦ absurd (let e : false ≡ true = rw other at one in cc)
]

weighed_side_among : (words : ℕ → Bool) (side vs : List ℕ) → ((a : ℕ) → is_balance_fact_word side a ≡ true → words a ≡ true)
    → are_tenure_accesses words (loads_at side vs) ≡ true
weighed_side_among words [] vs mine = refl
weighed_side_among words (b ∷ side) [] mine = refl
weighed_side_among words (b ∷ side) (v ∷ vs) mine =
    rw (mine b (rw (eq-eqb b b refl) refl)) (weighed_side_among words side vs (λ a one. mine a (more a one)))
  where
    more : (a : ℕ) → is_balance_fact_word side a ≡ true → is_balance_fact_word (b ∷ side) a ≡ true
    more a one = elim (cases_Bool (b == a)) [ inl same ↦ rw same refl | inr apart ↦ rw apart one ]

weighed_sides_among : (left right lefts rights : List ℕ)
    → are_tenure_accesses (λ a. is_balance_fact_word left a || is_balance_fact_word right a) (loads_at left lefts ++ loads_at right rights) ≡ true
weighed_sides_among left right lefts rights =
    let words : ℕ → Bool = λ a. is_balance_fact_word left a || is_balance_fact_word right a in
    weighed_among_both words (loads_at left lefts) (loads_at right rights)
    (weighed_side_among words left lefts (λ a one. rw one refl))
    (weighed_side_among words right rights (λ a one. or_true (is_balance_fact_word left a) (is_balance_fact_word right a) one))
  where
    or_true : (x y : Bool) → y ≡ true → (x || y) ≡ true
    or_true true y e = refl
    or_true false y e = e

-- what was loaded is what the memory's words come to
weighed_side_answered : (memory side words : List ℕ) (rest : List Kind) → length words ≡ length side
    → TenureAnswersFrom memory (loads_at side words ++ rest) → (sum_at memory side ≡ sum_by (λ v. v) words) × TenureAnswersFrom memory rest
weighed_side_answered memory [] [] rest e answers = (refl, answers)
weighed_side_answered memory [] (v ∷ words) rest e answers = absurd (cc)
weighed_side_answered memory (a ∷ side) [] rest e answers = absurd (cc)
weighed_side_answered memory (a ∷ side) (v ∷ words) rest e answers =
    let others = weighed_side_answered memory side words rest (omega (arith, e)) answers.1 in
    let here = get_or_from_slice_get memory a v 0 answers.0 in
    let one = sum_by-cons (λ b. get_or memory b 0) a side in
    let two = sum_by-cons (λ w. w) v words in
    (let sums = others.0 in omega arith, others.1)

-- it adds nothing to any word
pub weighed_adds_nothing : {m n : Local} {lock l a k : ℕ} {left right : List ℕ} {even : Bool} → HasWeighed lock left right m n even
    → AddsUpTo l a k (seat_deeds m) → AddsUpTo l a k (seat_deeds n)
weighed_adds_nothing {n = n} {lock = lock} {l = l} {a = a} {k = k} {left = left} {right = right} done was =
    let ks = loads_at left done.lefts ++ loads_at right done.rights in
    let none = weighed_sides_add_nothing l a left right done.lefts done.rights in
    subst (λ x. AddsUpTo l a x (seat_deeds n)) (let e : k + 0 ≡ k = omega arith in e)
    (seat_acted_added (tenure_of_lock lock ks) done.acted (added_tally_tenure lock ks none) was)

weighed_zeros : (side : List ℕ) → sum_by (λ (a : ℕ). 0) side ≡ 0
weighed_zeros [] = refl
weighed_zeros (a ∷ side) = let rest = weighed_zeros side in let one = sum_by-cons (λ (b : ℕ). 0) a side in omega arith

-- what the lock keeps, it has found
pub weighed_found_kept : {m n : Local} {lock : ℕ} {left right : List ℕ} {even : Bool} → HasWeighed lock left right m n even
    → IsBetweenTenures (balance_fact lock left right) (seat_deeds m) → HasFoundKept (balance_fact lock left right) n even
weighed_found_kept {m} {n} {lock} {left} {right} {even} done was =
    let ks = loads_at left done.lefts ++ loads_at right done.rights in
    let zero_left = weighed_zeros left in
    let zero_right = weighed_zeros right in
    let read = read_tenure {f = balance_fact lock left right} m n ks was done.acted.deeds_are
    (weighed_sides_among left right done.lefts done.rights)
    (balanced_tenure_law lock left right (λ a. 0) ks (λ a. weighed_sides_add_nothing lock a left right done.lefts done.rights) (omega arith)) in
    record {
      between = read.0;
      found = λ reads.
          let kept = read.1 reads in
          let held : sum_at kept.memory left % 2 ^ 32 ≡ sum_at kept.memory right % 2 ^ 32 = kept.held in
          let one = weighed_side_answered kept.memory left done.lefts (loads_at right done.rights) done.left_long kept.answers in
          let two = weighed_side_answered kept.memory right done.rights [] done.right_long
          (subst (TenureAnswersFrom kept.memory) (sym (append-nil (loads_at right done.rights))) one.1) in
          let same : sum_by (λ v. v) done.lefts % 2 ^ 32 ≡ sum_by (λ v. v) done.rights % 2 ^ 32 =
          sym (ap (λ n. n % 2 ^ 32) one.0) ∙ held ∙ ap (λ n. n % 2 ^ 32) two.0 in
          done.even_is ∙ eq-eqb _ _ same;
    }
