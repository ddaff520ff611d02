-- Words without the zeros at their end: over as many zeros they are the words again.
use Rattle.std.proofs.Common.{ℕ, zero, suc, ◌≡◌, ◌≢◌, ◌<◌, ◌≤◌, List, [], ◌∷◌, ◌++◌, length, replicate, slice_index_or, slice_set, take, refl, sym, ap, ap₂, ◌∙◌, arith}
use Rattle.explore.specs.KeptStates.{trimmed_onto, trimmed_words, words_over}

pub trimmed_words_over : (ws : List ℕ) → words_over (trimmed_words ws) (replicate (length ws) 0) ≡ ws
trimmed_words_over [] = refl
trimmed_words_over (w ∷ ws) = go w (trimmed_words ws) (trimmed_words_over ws)
  where
    go : (w : ℕ) (t : List ℕ) → words_over t (replicate (length ws) 0) ≡ ws
        → words_over (trimmed_onto w t) (0 ∷ replicate (length ws) 0) ≡ w ∷ ws
    go zero [] is = ap (λ xs. 0 ∷ xs) is
    go zero (x ∷ t) is = ap (λ xs. 0 ∷ xs) is
    go (suc n) t is = ap (λ xs. suc n ∷ xs) is

-- they don't end with a 0
pub trimmed_words_again : (ws : List ℕ) → trimmed_words (trimmed_words ws) ≡ trimmed_words ws
trimmed_words_again [] = refl
trimmed_words_again (w ∷ ws) = go w (trimmed_words ws) (trimmed_words_again ws)
  where
    go : (w : ℕ) (t : List ℕ) → trimmed_words t ≡ t → trimmed_words (trimmed_onto w t) ≡ trimmed_onto w t
    go zero [] is = refl
    go zero (x ∷ t) is = ap (trimmed_onto 0) is
    go (suc n) t is = ap (λ xs. suc n ∷ xs) is

pub trimmed_words_short : (ws : List ℕ) → length (trimmed_words ws) ≤ length ws
trimmed_words_short [] = omega arith
trimmed_words_short (w ∷ ws) = go w (trimmed_words ws) (trimmed_words_short ws)
  where
    go : (w : ℕ) (t : List ℕ) → length t ≤ length ws → length (trimmed_onto w t) ≤ suc (length ws)
    go zero [] le = omega arith
    go zero (x ∷ t) le = omega (arith, le)
    go (suc n) t le = omega (arith, le)

-- words that don't end with a 0 are read off what they make of zeros
trimmed_words_zeros : (n : ℕ) → trimmed_words (replicate n 0) ≡ []
trimmed_words_zeros zero = refl
trimmed_words_zeros (suc n) = ap (trimmed_onto 0) (trimmed_words_zeros n)

trimmed_words_tail : (w : ℕ) (t ws : List ℕ) → trimmed_onto w t ≡ w ∷ ws → t ≡ ws
trimmed_words_tail zero [] ws is = absurd (let long = ap (λ (xs : List ℕ). length xs) is in omega (arith, long))
trimmed_words_tail zero (x ∷ t) ws is = ap behind is
  where
    behind : List ℕ → List ℕ
    behind [] = []
    behind (y ∷ ys) = ys
trimmed_words_tail (suc n) t ws is = ap behind is
  where
    behind : List ℕ → List ℕ
    behind [] = []
    behind (y ∷ ys) = ys

pub trimmed_words_back : (ws : List ℕ) (n : ℕ) → trimmed_words ws ≡ ws → length ws ≤ n → trimmed_words (words_over ws (replicate n 0)) ≡ ws
trimmed_words_back [] n is le = trimmed_words_zeros n
trimmed_words_back (w ∷ ws) zero is le = absurd (omega (arith, le))
trimmed_words_back (w ∷ ws) (suc n) is le =
    let rest = trimmed_words_tail w (trimmed_words ws) ws is in
    ap (trimmed_onto w) (trimmed_words_back ws n rest (omega (arith, le)) ∙ sym rest) ∙ is

-- words up to the last that isn't 0 are trimmed
trimmed_words_first : (w : ℕ) → w ≢ 0 → w ∷ [] ≡ trimmed_onto w []
trimmed_words_first zero isnt = absurd (isnt refl)
trimmed_words_first (suc n) isnt = refl

trimmed_words_inner : (w x : ℕ) (xs : List ℕ) → w ∷ x ∷ xs ≡ trimmed_onto w (x ∷ xs)
trimmed_words_inner zero x xs = refl
trimmed_words_inner (suc n) x xs = refl

pub trimmed_words_taken : (ws : List ℕ) (n : ℕ) → n ≤ length ws → ((i : ℕ) → n ≤ i → slice_index_or ws i 0 ≡ 0)
    → ((k : ℕ) → n ≡ suc k → slice_index_or ws k 0 ≢ 0) → take n ws ≡ trimmed_words ws
trimmed_words_taken [] zero le zeros last = refl
trimmed_words_taken [] (suc n) le zeros last = refl
trimmed_words_taken (w ∷ ws) zero le zeros last =
    ap₂ trimmed_onto (sym (zeros 0 (omega arith)))
    (trimmed_words_taken ws 0 (omega arith) (λ i at. zeros (suc i) (omega arith)) (λ k is. absurd (omega (arith, is))))
trimmed_words_taken (w ∷ ws) (suc zero) le zeros last =
    trimmed_words_first w (last 0 refl)
    ∙ ap (trimmed_onto w) (trimmed_words_taken ws 0 (omega arith) (λ i at. zeros (suc i) (omega arith)) (λ k is. absurd (omega (arith, is))))
trimmed_words_taken (w ∷ []) (suc (suc n)) le zeros last = absurd (omega (arith, le))
trimmed_words_taken (w ∷ x ∷ xs) (suc (suc n)) le zeros last =
    trimmed_words_inner w x (take n xs)
    ∙ ap (trimmed_onto w) (trimmed_words_taken (x ∷ xs) (suc n) (omega (arith, le)) (λ i at. zeros (suc i) (omega (arith, at))) (λ k is. last (suc k) (ap suc is)))

-- one word more over others
pub words_over_next : (ws ys : List ℕ) (i : ℕ) → i < length ws → i < length ys
    → slice_set (words_over (take i ws) ys) i (slice_index_or ws i 0) ≡ words_over (take (suc i) ws) ys
words_over_next [] ys i lt short = absurd (omega (arith, lt))
words_over_next (w ∷ ws) [] i lt short = absurd (omega (arith, short))
words_over_next (w ∷ ws) (y ∷ ys) zero lt short = refl
words_over_next (w ∷ ws) (y ∷ ys) (suc i) lt short = ap (λ xs. w ∷ xs) (words_over_next ws ys i (omega (arith, lt)) (omega (arith, short)))

-- as many as there are on either side are all
pub words_over_all : (ws ys : List ℕ) (n : ℕ) → n ≤ length ws → n ≤ length ys → (n < length ws → length ys ≤ n)
    → words_over (take n ws) ys ≡ words_over ws ys
words_over_all [] ys zero le short over = refl
words_over_all [] ys (suc n) le short over = refl
words_over_all (w ∷ ws) [] zero le short over = refl
words_over_all (w ∷ ws) [] (suc n) le short over = refl
words_over_all (w ∷ ws) (y ∷ ys) zero le short over = absurd (let none = over (omega arith) in omega (arith, none))
words_over_all (w ∷ ws) (y ∷ ys) (suc n) le short over =
    ap (λ xs. w ∷ xs) (words_over_all ws ys n (omega (arith, le)) (omega (arith, short)) (λ lt. let more = over (omega (arith, lt)) in omega (arith, more)))

-- as many words as there are in front are these
pub trimmed_words_whole : (ws ys : List ℕ) (n : ℕ) → n ≡ length ws → take n (ws ++ ys) ≡ ws
trimmed_words_whole [] ys zero is = refl
trimmed_words_whole [] ys (suc n) is = absurd (omega (arith, is))
trimmed_words_whole (w ∷ ws) ys zero is = absurd (omega (arith, is))
trimmed_words_whole (w ∷ ws) ys (suc n) is = ap (λ xs. w ∷ xs) (trimmed_words_whole ws ys n (omega (arith, is)))
