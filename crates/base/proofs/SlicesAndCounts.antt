-- Places of lists that are put together of others, and counts of their fronts.
use Rattle.std.proofs.Common.{◌≡◌, ℕ, zero, suc, ◌+◌, ◌<◌, ◌≤◌, ◌⊎◌, inl, inr, List, [], ◌∷◌, ◌++◌, length, take, drop, Bool, true, false, count_by, Some, slice_get, refl, ap, sym, ◌∙◌, cond, append_assoc, append-nil, take-take, arith}
use Rattle.std.proofs.lemmas.Option.{slice_get_within, same_Some, none-some}
use Rattle.std.proofs.lemmas.List.{take-append-le}
use Rattle.std.proofs.lemmas.List.Sums.{sum_by-append, sum_by-take-le}
use Rattle.std.proofs.lemmas.Bool.{cases_lt}
use Rattle.std.proofs.Math.Seq.{take-append_seam}

-- the first list's items keep their places
pub slice_get-append_left : {A : Type 0} (xs ys : List A) (k : ℕ) → k < length xs
    → slice_get (xs ++ ys) k ≡ slice_get xs k
slice_get-append_left [] ys k h = absurd (omega arith)
slice_get-append_left (x ∷ xs) ys zero h = refl
slice_get-append_left (x ∷ xs) ys (suc k) h = slice_get-append_left xs ys k (omega arith)

-- the second list's items stand behind the first list
pub slice_get-append_right : {A : Type 0} (xs ys : List A) (k : ℕ)
    → slice_get (xs ++ ys) (length xs + k) ≡ slice_get ys k
slice_get-append_right [] ys k = let e : 0 + k ≡ k = omega arith in rw e
slice_get-append_right (x ∷ xs) ys k =
    let e : suc (length xs) + k ≡ suc (length xs + k) = omega arith in rw e (slice_get-append_right xs ys k)

-- what is pushed stands last
pub slice_get-last : {A : Type 0} (xs : List A) (x : A) → slice_get (xs ++ x ∷ []) (length xs) ≡ Some x
slice_get-last [] x = refl
slice_get-last (y ∷ xs) x = slice_get-last xs x

-- a front has the list's items
pub slice_get-take : {A : Type 0} (xs : List A) (n k : ℕ) → k < n → slice_get (take n xs) k ≡ slice_get xs k
slice_get-take xs zero k h = absurd (omega arith)
slice_get-take [] (suc n) k h = refl
slice_get-take (x ∷ xs) (suc n) zero h = refl
slice_get-take (x ∷ xs) (suc n) (suc k) h = slice_get-take xs n k (omega arith)

-- an item of a front stands within it
pub slice_get-take_within : {A : Type 0} (xs : List A) (n k : ℕ) (x : A) → slice_get (take n xs) k ≡ Some x → k < n
slice_get-take_within xs zero k x h = absurd (none-some x h)
slice_get-take_within [] (suc n) k x h = absurd (none-some x h)
slice_get-take_within (y ∷ xs) (suc n) zero x h = omega arith
slice_get-take_within (y ∷ xs) (suc n) (suc k) x h = let lt = slice_get-take_within xs n k x h in omega arith

-- an item of a front is the list's
pub slice_get-from_take : {A : Type 0} (xs : List A) (n k : ℕ) (x : A) → slice_get (take n xs) k ≡ Some x
    → slice_get xs k ≡ Some x
slice_get-from_take xs n k x h = sym (slice_get-take xs n k (slice_get-take_within xs n k x h)) ∙ h

-- what is left has the list's items from there on
pub slice_get-drop : {A : Type 0} (xs : List A) (n k : ℕ) → slice_get (drop n xs) k ≡ slice_get xs (n + k)
slice_get-drop xs zero k = let e : k ≡ 0 + k = omega arith in ap (slice_get xs) e
slice_get-drop [] (suc n) k = refl
slice_get-drop (x ∷ xs) (suc n) k =
    let e : suc (n + k) ≡ suc n + k = omega arith in slice_get-drop xs n k ∙ ap (slice_get (x ∷ xs)) e

-- an item of two lists is one of the first or one of the second
pub slice_append_cases : {A : Type 0} (xs ys : List A) (k : ℕ) (x : A) → slice_get (xs ++ ys) k ≡ Some x
    → ((k < length xs) × (slice_get xs k ≡ Some x)) ⊎ ((m : ℕ) × (k ≡ length xs + m) × (slice_get ys m ≡ Some x))
slice_append_cases [] ys k x h = inr (k, omega arith, h)
slice_append_cases (y ∷ xs) ys zero x h = inl (omega arith, h)
slice_append_cases {A} (y ∷ xs) ys (suc k) x h =
    elim (slice_append_cases xs ys k x h)
    [ inl a ↦ inl (omega (arith, a.0), a.1) | inr b ↦ inr (b.0, omega (arith, b.1), b.2) ]

-- an item of a list with one more is one of the list, or the last
pub slice_push_cases : {A : Type 0} (xs : List A) (y : A) (k : ℕ) (x : A) → slice_get (xs ++ y ∷ []) k ≡ Some x
    → ((k < length xs) × (slice_get xs k ≡ Some x)) ⊎ ((k ≡ length xs) × (y ≡ x))
slice_push_cases [] y zero x h = inr (refl, same_Some y x h)
slice_push_cases [] y (suc k) x h = absurd (none-some x h)
slice_push_cases (z ∷ xs) y zero x h = inl (omega arith, h)
slice_push_cases (z ∷ xs) y (suc k) x h =
    elim (slice_push_cases xs y k x h) [ inl a ↦ inl (omega (arith, a.0), a.1) | inr b ↦ inr (omega (arith, b.0), b.1) ]

-- what holds of the empty list, and with each list of it with one more item, holds of every list
pub slice_push_induction : {A : Type 0} (P : List A → Type 0) → P [] → ((xs : List A) (x : A) → P xs → P (xs ++ x ∷ []))
    → (xs : List A) → P xs
slice_push_induction {A} P start step xs = go [] xs start
  where
    go : (front rest : List A) → P front → P (front ++ rest)
    go front [] h = rw append-nil h
    go front (x ∷ rest) h = rw append_assoc at (go (front ++ x ∷ []) rest (step front x h))

-- the front up to an item, with it
pub slice_take-suc_at : {A : Type 0} (xs : List A) (k : ℕ) (x : A) → slice_get xs k ≡ Some x
    → take (suc k) xs ≡ take k xs ++ x ∷ []
slice_take-suc_at [] k x h = absurd (none-some x h)
slice_take-suc_at (y ∷ xs) zero x h = ap (λ z. z ∷ []) (same_Some y x h)
slice_take-suc_at (y ∷ xs) (suc k) x h = ap (λ zs. y ∷ zs) (slice_take-suc_at xs k x h)

-- counts add up
pub slice_count_by-append : {A : Type 0} (p : A → Bool) (xs ys : List A)
    → count_by p (xs ++ ys) ≡ count_by p xs + count_by p ys
slice_count_by-append p xs ys = sum_by-append (λ x. cond (p x) 1 0) xs ys

-- a longer front counts at least as many
pub slice_count_by-mono : {A : Type 0} (p : A → Bool) (xs : List A) (i k : ℕ) → i ≤ k
    → count_by p (take i xs) ≤ count_by p (take k xs)
slice_count_by-mono p xs i k h = rw (take-take i k xs h) at (sum_by-take-le (λ x. cond (p x) 1 0) (take k xs) i)

-- a front counts at most as many as the list
pub slice_count_by-take-le : {A : Type 0} (p : A → Bool) (xs : List A) (i : ℕ) → count_by p (take i xs) ≤ count_by p xs
slice_count_by-take-le p xs i = sum_by-take-le (λ x. cond (p x) 1 0) xs i

-- a counted item counts one
pub slice_count_by-suc_at : {A : Type 0} (p : A → Bool) (xs : List A) (k : ℕ) (x : A) → slice_get xs k ≡ Some x → p x ≡ true
    → count_by p (take (suc k) xs) ≡ suc (count_by p (take k xs))
slice_count_by-suc_at p xs k x at is =
    let one : count_by p (x ∷ []) ≡ 1 = rw is in
    let sum = slice_count_by-append p (take k xs) (x ∷ []) in
    rw (slice_take-suc_at xs k x at) (omega arith)

-- a front past a counted item counts more than the front up to it
pub slice_count_by-past : {A : Type 0} (p : A → Bool) (xs : List A) (i k : ℕ) (x : A) → slice_get xs i ≡ Some x → p x ≡ true
    → i < k → count_by p (take i xs) < count_by p (take k xs)
slice_count_by-past p xs i k x at is h =
    let more = slice_count_by-suc_at p xs i x at is in
    let up = slice_count_by-mono p xs (suc i) k h in
    omega arith

-- the list counts more than the front up to a counted item
pub slice_count_by-within : {A : Type 0} (p : A → Bool) (xs : List A) (i : ℕ) (x : A) → slice_get xs i ≡ Some x → p x ≡ true
    → count_by p (take i xs) < count_by p xs
slice_count_by-within p xs i x at is =
    let more = slice_count_by-suc_at p xs i x at is in
    let up = slice_count_by-take-le p xs (suc i) in
    omega arith

-- the counted item at place k has n counted ones before it
pub record SliceCountedAt {A : Type 0} (p : A → Bool) (xs : List A) (n : ℕ) : Type 0 where
  pub place : ℕ
  pub item : A
  pub at : slice_get xs place ≡ Some item
  pub counts : p item ≡ true
  pub before : count_by p (take place xs) ≡ n

-- of each number below the count there is a counted item
pub slice_counted_at : {A : Type 0} (p : A → Bool) (xs : List A) (n : ℕ) → n < count_by p xs → SliceCountedAt p xs n
slice_counted_at {A} p xs n = slice_push_induction (λ ys. n < count_by p ys → SliceCountedAt p ys n) (λ h. absurd (omega arith)) step xs
  where
    longer : (ys : List A) (y : A) → SliceCountedAt p ys n → SliceCountedAt p (ys ++ y ∷ []) n
    longer ys y c =
        let lt = slice_get_within ys c.place c.item c.at in
        let le : c.place ≤ length ys = omega arith in
        record {
          place = c.place;
          item = c.item;
          at = slice_get-append_left ys (y ∷ []) c.place lt ∙ c.at;
          counts = c.counts;
          before = rw take-append-le c.before;
        }

    now : (ys : List A) (y : A) (b : Bool) → p y ≡ b → n < count_by p (ys ++ y ∷ []) → count_by p ys ≤ n
        → SliceCountedAt p (ys ++ y ∷ []) n
    now ys y true e h le =
        let sum = slice_count_by-append p ys (y ∷ []) in
        let one : count_by p (y ∷ []) ≡ 1 = rw e in
        record {
          place = length ys;
          item = y;
          at = slice_get-last ys y;
          counts = e;
          before = rw take-append_seam (omega arith);
        }
    now ys y false e h le =
        let sum = slice_count_by-append p ys (y ∷ []) in
        let none : count_by p (y ∷ []) ≡ 0 = rw e in
        absurd (omega arith)

    step : (ys : List A) (y : A) → (n < count_by p ys → SliceCountedAt p ys n) → n < count_by p (ys ++ y ∷ [])
        → SliceCountedAt p (ys ++ y ∷ []) n
    step ys y ih h =
        elim (cases_lt n (count_by p ys)) [ inl lt ↦ longer ys y (ih lt) | inr le ↦ now ys y (p y) refl h le ]
