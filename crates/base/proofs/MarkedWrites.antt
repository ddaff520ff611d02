-- The dirty words of a page are the record of the writes that made them.
use Rattle.std.proofs.Common.{ℕ, zero, suc, ◌+◌, ◌≡◌, ◌<◌, ◌⊎◌, inl, inr, List, [], ◌∷◌, ◌++◌, Option, Some, None, Bool, true, false, slice_get, slice_set, ap₂, add-zero, zero-add, length, replicate, length-set, arith, refl, sym, ap, ◌∙◌, true≢false}
use Rattle.std.proofs.lemmas.Bool.{cases_eq}
use Rattle.std.proofs.lemmas.List.{length-replicate}
use Rattle.std.proofs.lemmas.Option.{slice_get_within, same_Some, none-some, some_pair_parts}
use Rattle.base.specs.InOrderOnce.{Has, InOrder}
use Rattle.base.specs.LastWrite.{written, LastWrite}
use Rattle.base.specs.AppliedRecords.{IsRecordOf, mark_write, marked_writes, harvest}
use Rattle.base.proofs.SliceSets.{slice_get-set_same, slice_get-set_other, slice_get-replicate_found}
use Rattle.base.proofs.LastWritten.{last_written_word, last_written_word_found}

-- place o is marked at the beginning, or is written
abbrev MarkedByWritesFrom : {A : Type 0} → (A → Option (ℕ × ℕ)) → List Bool → List A → ℕ → Type 0
MarkedByWritesFrom {A} f marks xs o =
    (slice_get marks o ≡ Some true) ⊎ ((k : ℕ) × (x : A) × (u : ℕ) × (slice_get xs k ≡ Some x) × (f x ≡ Some (o, u)))

-- marks one list of writes after another
pub marked_writes-append : {A : Type 0} (f : A → Option (ℕ × ℕ)) (marks : List Bool) (xs ys : List A)
    → marked_writes f marks (xs ++ ys) ≡ marked_writes f (marked_writes f marks xs) ys
marked_writes-append f marks [] ys = refl
marked_writes-append f marks (x ∷ xs) ys = marked_writes-append f (mark_write marks (f x)) xs ys

-- a mark after the writes was there before, or has been written
pub marked_write_from : {A : Type 0} (f : A → Option (ℕ × ℕ)) (marks : List Bool) (xs : List A) (o : ℕ)
    → slice_get (marked_writes f marks xs) o ≡ Some true → MarkedByWritesFrom f marks xs o
marked_write_from f marks [] o h = inl h
marked_write_from {A} f marks (x ∷ xs) o h = go (f x) refl (marked_write_from f (mark_write marks (f x)) xs o h)
  where
    go : (p : Option (ℕ × ℕ)) → f x ≡ p → MarkedByWritesFrom f (mark_write marks p) xs o → MarkedByWritesFrom f marks (x ∷ xs) o
    go p e (inr w) = inr (suc w.0, w.1, w.2, w.3, w.4)
    go None e (inl m) = inl m
    go (Some p) e (inl m) = elim (cases_eq o p.0) [
      | inl d ↦ inr (0, x, p.1, refl, e ∙ ap (λ (a : ℕ). Some (a, p.1)) (sym d))
      | inr d ↦ inl (sym (slice_get-set_other marks p.0 o true d) ∙ m)
    ]

-- a mark stays
pub marked_write_kept : {A : Type 0} (f : A → Option (ℕ × ℕ)) (marks : List Bool) (xs : List A) (o : ℕ)
    → slice_get marks o ≡ Some true → slice_get (marked_writes f marks xs) o ≡ Some true
marked_write_kept f marks [] o h = h
marked_write_kept f marks (x ∷ xs) o h = marked_write_kept f (mark_write marks (f x)) xs o (go (f x))
  where
    go : (p : Option (ℕ × ℕ)) → slice_get (mark_write marks p) o ≡ Some true
    go None = h
    go (Some p) = elim (cases_eq o p.0) [
      | inl d ↦ ap (slice_get (slice_set marks p.0 true)) d
          ∙ slice_get-set_same marks p.0 true (rw d at (slice_get_within marks o true h))
      | inr d ↦ slice_get-set_other marks p.0 o true d ∙ h
    ]

-- marking keeps the number of marks
length-mark_write : (marks : List Bool) (p : Option (ℕ × ℕ)) → length (mark_write marks p) ≡ length marks
length-mark_write marks None = refl
length-mark_write marks (Some p) = length-set marks p.0 true

-- marking keeps the number of marks
pub length-marked_writes : {A : Type 0} (f : A → Option (ℕ × ℕ)) (marks : List Bool) (xs : List A)
    → length (marked_writes f marks xs) ≡ length marks
length-marked_writes f marks [] = refl
length-marked_writes f marks (x ∷ xs) = length-marked_writes f (mark_write marks (f x)) xs ∙ length-mark_write marks (f x)

-- what is written within the marks is marked
pub marked_write_within : {A : Type 0} (f : A → Option (ℕ × ℕ)) (marks : List Bool) (xs : List A) (o k u : ℕ) (x : A)
    → o < length marks → slice_get xs k ≡ Some x → f x ≡ Some (o, u) → slice_get (marked_writes f marks xs) o ≡ Some true
marked_write_within f marks [] o k u x h at w = absurd (none-some x at)
marked_write_within f marks (y ∷ xs) o zero u x h at w =
    marked_write_kept f (mark_write marks (f y)) xs o (rw (ap f (same_Some y x at) ∙ w) (slice_get-set_same marks o true h))
marked_write_within f marks (y ∷ xs) o (suc k) u x h at w =
    marked_write_within f (mark_write marks (f y)) xs o k u x (rw length-mark_write h) at w

-- a harvested word is a marked one
pub marked_writes_harvest_found : (i : ℕ) (words : List ℕ) (marks : List Bool) (n o v : ℕ)
    → slice_get (harvest i words marks) n ≡ Some (o, v)
    → (k : ℕ) × (o ≡ i + k) × (slice_get words k ≡ Some v) × (slice_get marks k ≡ Some true)
marked_writes_harvest_found i [] marks n o v h = absurd (none-some (o, v) h)
marked_writes_harvest_found i (w ∷ words) [] n o v h = absurd (none-some (o, v) h)
marked_writes_harvest_found i (w ∷ words) (true ∷ marks) zero o v h =
    let e = some_pair_parts i o w v h in
    (0, sym e.0 ∙ sym (add-zero i), ap Some e.1, refl)
marked_writes_harvest_found i (w ∷ words) (true ∷ marks) (suc n) o v h =
    let r = marked_writes_harvest_found (suc i) words marks n o v h in
    (suc r.0, omega arith, r.2, r.3)
marked_writes_harvest_found i (w ∷ words) (false ∷ marks) n o v h =
    let r = marked_writes_harvest_found (suc i) words marks n o v h in
    (suc r.0, omega arith, r.2, r.3)

-- a marked word is harvested
pub marked_writes_harvest_has : (i : ℕ) (words : List ℕ) (marks : List Bool) (k o v : ℕ) → o ≡ i + k → slice_get words k ≡ Some v
    → slice_get marks k ≡ Some true → Has (harvest i words marks) (o, v)
marked_writes_harvest_has i [] marks k o v e at m = absurd (none-some v at)
marked_writes_harvest_has i (w ∷ words) [] k o v e at m = absurd (none-some true m)
marked_writes_harvest_has i (w ∷ words) (true ∷ marks) zero o v e at m =
    (0, ap₂ (λ (a b : ℕ). Some (a, b)) (sym (e ∙ add-zero i)) (same_Some w v at))
marked_writes_harvest_has i (w ∷ words) (false ∷ marks) zero o v e at m = absurd (true≢false (sym (same_Some false true m)))
marked_writes_harvest_has i (w ∷ words) (true ∷ marks) (suc k) o v e at m =
    let r = marked_writes_harvest_has (suc i) words marks k o v (omega arith) at m in
    (suc r.0, r.1)
marked_writes_harvest_has i (w ∷ words) (false ∷ marks) (suc k) o v e at m =
    marked_writes_harvest_has (suc i) words marks k o v (omega arith) at m

-- harvested offsets rise
pub marked_writes_harvest_rises : (i : ℕ) (words : List ℕ) (marks : List Bool)
    → InOrder (λ (x y : ℕ × ℕ). x.0 < y.0) (harvest i words marks)
marked_writes_harvest_rises i [] marks x y a b less at_a at_b = absurd (none-some a at_a)
marked_writes_harvest_rises i (w ∷ words) [] x y a b less at_a at_b = absurd (none-some a at_a)
marked_writes_harvest_rises i (w ∷ words) (true ∷ marks) x zero a b less at_a at_b = absurd (omega arith)
marked_writes_harvest_rises i (w ∷ words) (true ∷ marks) zero (suc y) a b less at_a at_b =
    let first : i ≡ a.0 = (some_pair_parts i a.0 w a.1 at_a).0 in
    let later = marked_writes_harvest_found (suc i) words marks y b.0 b.1 at_b in
    omega arith
marked_writes_harvest_rises i (w ∷ words) (true ∷ marks) (suc x) (suc y) a b less at_a at_b =
    marked_writes_harvest_rises (suc i) words marks x y a b (omega arith) at_a at_b
marked_writes_harvest_rises i (w ∷ words) (false ∷ marks) x y a b less at_a at_b =
    marked_writes_harvest_rises (suc i) words marks x y a b less at_a at_b

-- the harvest of dirty words is the record of the writes that made them
pub marked_writes_harvest_is_record : {A : Type 0} (f : A → Option (ℕ × ℕ)) (words : List ℕ) (xs : List A)
    → ((x : A) (o v : ℕ) → f x ≡ Some (o, v) → o < length words)
    → IsRecordOf f xs (harvest 0 (written f words xs) (marked_writes f (replicate (length words) false) xs))
marked_writes_harvest_is_record {A} f words xs within =
    record { each = λ o v. (there o v, back o v); rising = marked_writes_harvest_rises 0 (written f words xs) marks }
  where
    marks : List Bool
    marks = marked_writes f (replicate (length words) false) xs

    there : (o v : ℕ) → Has (harvest 0 (written f words xs) marks) (o, v) → LastWrite f xs o v
    there o v h =
        let r = marked_writes_harvest_found 0 (written f words xs) marks h.0 o v h.1 in
        let e : o ≡ r.0 = r.1 ∙ zero-add r.0 in
        let dirty : MarkedByWritesFrom f (replicate (length words) false) xs o =
        marked_write_from f (replicate (length words) false) xs o (ap (slice_get marks) e ∙ r.3) in
        elim (last_written_word f words xs o v (ap (slice_get (written f words xs)) e ∙ r.2)) [
          | inl l ↦ l
          | inr n ↦ elim dirty [
            | inl m ↦ absurd (true≢false (sym (slice_get-replicate_found (length words) false true o m)))
            | inr w ↦ absurd (n.1 w.0 w.1 w.2 w.3 w.4)
          ]
        ]

    back : (o v : ℕ) → LastWrite f xs o v → Has (harvest 0 (written f words xs) marks) (o, v)
    back o v l =
        let inside : o < length words = within l.item o v l.writes in
        marked_writes_harvest_has 0 (written f words xs) marks o o v (sym (zero-add o)) (last_written_word_found f words xs o v inside l)
        (marked_write_within f (replicate (length words) false) xs o l.place v l.item (rw length-replicate inside)
        l.at l.writes)

-- items that write nothing mark nothing
pub marked_writes_nothing : {A : Type 0} (f : A → Option (ℕ × ℕ)) (marks : List Bool) (xs : List A)
    → ((k : ℕ) (x : A) → slice_get xs k ≡ Some x → f x ≡ None) → marked_writes f marks xs ≡ marks
marked_writes_nothing f marks [] h = refl
marked_writes_nothing f marks (x ∷ xs) h =
    ap (λ (a : Option (ℕ × ℕ)). marked_writes f (mark_write marks a) xs) (h 0 x refl) ∙ marked_writes_nothing f marks xs (λ k. h (suc k))
