-- What a list of writes leaves at a place: its last write there, or what was there before.
use Rattle.std.proofs.Common.{ℕ, zero, suc, ◌≡◌, ◌≢◌, ◌<◌, ◌⊎◌, ◌↔◌, inl, inr, List, [], ◌∷◌, ◌++◌, Option, Some, None, Bool, true, false, cond, filter, map, slice_get, slice_set, length, replicate, get_or, ap₂, length-set, arith, refl, sym, ap, ◌∙◌}
use Rattle.std.proofs.lemmas.List.{length-replicate}
use Rattle.std.proofs.lemmas.Bool.{cases_eq, cases_order}
use Rattle.std.proofs.lemmas.Option.{slice_get-get_or, slice_get_within, same_Some, none-some, some_pair_parts}
use Rattle.base.specs.LastWrite.{wrote, written, LastWrite}
use Rattle.base.proofs.SliceSets.{slice_get-set_found, slice_get-set_other, slice_get-replicate_found, slice_sets_same}

-- no item writes at place o
abbrev pub HasNoLastWrite : {A : Type 0} → (A → Option (ℕ × ℕ)) → List A → ℕ → Type 0
HasNoLastWrite {A} f xs o = (k : ℕ) (y : A) (u : ℕ) → slice_get xs k ≡ Some y → f y ≢ Some (o, u)

-- the last write of a list without its first item is the last write of the whole
pub last_written_later : {A : Type 0} (f : A → Option (ℕ × ℕ)) (x : A) (xs : List A) (o v : ℕ) → LastWrite f xs o v
    → LastWrite f (x ∷ xs) o v
last_written_later {A} f x xs o v l =
    record { place = suc l.place; item = l.item; at = l.at; writes = l.writes; last = later }
  where
    later : (k : ℕ) (y : A) (u : ℕ) → suc l.place < k → slice_get (x ∷ xs) k ≡ Some y → f y ≢ Some (o, u)
    later zero y u h e = absurd (omega arith)
    later (suc k) y u h e = l.last k y u (omega arith) e

-- a first item's write is the last where no later item writes there
pub last_written_first : {A : Type 0} (f : A → Option (ℕ × ℕ)) (x : A) (xs : List A) (o v : ℕ) → f x ≡ Some (o, v)
    → HasNoLastWrite f xs o → LastWrite f (x ∷ xs) o v
last_written_first {A} f x xs o v e n = record { place = 0; item = x; at = refl; writes = e; last = later }
  where
    later : (k : ℕ) (y : A) (u : ℕ) → 0 < k → slice_get (x ∷ xs) k ≡ Some y → f y ≢ Some (o, u)
    later zero y u h g = absurd (omega arith)
    later (suc k) y u h g = n k y u g

-- no item writes there, where neither the first nor a later one does
pub not_last_written-cons : {A : Type 0} (f : A → Option (ℕ × ℕ)) (x : A) (xs : List A) (o : ℕ)
    → ((u : ℕ) → f x ≢ Some (o, u)) → HasNoLastWrite f xs o → HasNoLastWrite f (x ∷ xs) o
not_last_written-cons f x xs o here n zero y u e g = here u (ap f (same_Some x y e) ∙ g)
not_last_written-cons f x xs o here n (suc k) y u e g = n k y u e g

-- the last write is the only last one
pub last_written_alone : {A : Type 0} (f : A → Option (ℕ × ℕ)) (xs : List A) (o v w : ℕ) → LastWrite f xs o v
    → LastWrite f xs o w → v ≡ w
last_written_alone f xs o v w l m = go (cases_order l.place m.place)
  where
    go : (l.place ≡ m.place) ⊎ ((l.place < m.place) ⊎ (m.place < l.place)) → v ≡ w
    go (inl e) =
        let same : l.item ≡ m.item = same_Some l.item m.item (sym l.at ∙ ap (slice_get xs) e ∙ m.at) in
        (some_pair_parts o o v w (sym l.writes ∙ ap f same ∙ m.writes)).1
    go (inr (inl h)) = absurd (l.last m.place m.item w h m.at m.writes)
    go (inr (inr h)) = absurd (m.last l.place l.item v h l.at l.writes)

-- writes keep the number of words
pub length-written : {A : Type 0} (f : A → Option (ℕ × ℕ)) (words : List ℕ) (xs : List A)
    → length (written f words xs) ≡ length words
length-written f words [] = refl
length-written f words (x ∷ xs) = length-written f (wrote words (f x)) xs ∙ one (f x)
  where
    one : (p : Option (ℕ × ℕ)) → length (wrote words p) ≡ length words
    one None = refl
    one (Some p) = length-set words p.0 p.1

-- a word after the writes was written last at its place, or stood there and was never written
pub last_written_word : {A : Type 0} (f : A → Option (ℕ × ℕ)) (words : List ℕ) (xs : List A) (o w : ℕ)
    → slice_get (written f words xs) o ≡ Some w
    → LastWrite f xs o w ⊎ ((slice_get words o ≡ Some w) × HasNoLastWrite f xs o)
last_written_word f words [] o w h = inr (h, λ k y u e _. none-some y e)
last_written_word {A} f words (x ∷ xs) o w h = go (f x) refl (last_written_word f (wrote words (f x)) xs o w h)
  where
    Result : Type 0
    Result = LastWrite f (x ∷ xs) o w ⊎ ((slice_get words o ≡ Some w) × HasNoLastWrite f (x ∷ xs) o)

    at : (p : ℕ × ℕ) → f x ≡ Some p → slice_get (slice_set words p.0 p.1) o ≡ Some w → HasNoLastWrite f xs o
        → (o ≡ p.0) ⊎ (o ≢ p.0) → Result
    at p e g n (inl d) =
        let same : p.1 ≡ w =
        slice_get-set_found words p.0 p.1 w (ap (slice_get (slice_set words p.0 p.1)) (sym d) ∙ g) in
        inl (last_written_first f x xs o w (e ∙ ap₂ (λ (a b : ℕ). Some (a, b)) (sym d) same) n)
    at p e g n (inr d) =
        inr (
          sym (slice_get-set_other words p.0 o p.1 d)
              ∙ g,
          not_last_written-cons f x xs o (λ u k. d (some_pair_parts o p.0 u p.1 (sym k ∙ e)).0) n,
        )

    go : (p : Option (ℕ × ℕ)) → f x ≡ p
        → LastWrite f xs o w ⊎ ((slice_get (wrote words p) o ≡ Some w) × HasNoLastWrite f xs o) → Result
    go p e (inl l) = inl (last_written_later f x xs o w l)
    go None e (inr h) = inr (h.0, not_last_written-cons f x xs o (λ u g. none-some (o, u) (sym e ∙ g)) h.1)
    go (Some p) e (inr h) = at p e h.0 h.1 (cases_eq o p.0)

-- the last write at a place is found there
pub last_written_word_found : {A : Type 0} (f : A → Option (ℕ × ℕ)) (words : List ℕ) (xs : List A) (o v : ℕ) → o < length words
    → LastWrite f xs o v → slice_get (written f words xs) o ≡ Some v
last_written_word_found f words xs o v h l =
    let e : slice_get (written f words xs) o ≡ Some (get_or (written f words xs) o 0) =
    slice_get-get_or (written f words xs) o 0 (rw length-written h) in
    elim (last_written_word f words xs o (get_or (written f words xs) o 0) e)
    [ inl m ↦ e ∙ ap Some (last_written_alone f xs o _ _ m l) | inr n ↦ absurd (n.1 l.place l.item v l.at l.writes) ]

-- a word after these writes is there after others with the same last writes
last_written_half : {A B : Type 0} (f : A → Option (ℕ × ℕ)) (g : B → Option (ℕ × ℕ)) (words : List ℕ) (xs : List A)
    (ys : List B)
    → ((o v : ℕ) → LastWrite f xs o v ↔ LastWrite g ys o v) → (o w : ℕ) → slice_get (written f words xs) o ≡ Some w
    → slice_get (written g words ys) o ≡ Some w
last_written_half f g words xs ys same o w e = go (last_written_word f words xs o w e)
  where
    within : o < length words
    within = rw length-written at (slice_get_within (written f words xs) o w e)

    there : slice_get (written g words ys) o ≡ Some (get_or (written g words ys) o 0)
    there = slice_get-get_or (written g words ys) o 0 (rw length-written within)

    go : LastWrite f xs o w ⊎ ((slice_get words o ≡ Some w) × HasNoLastWrite f xs o)
        → slice_get (written g words ys) o ≡ Some w
    go (inl l) = last_written_word_found g words ys o w within ((same o w).0 l)
    go (inr h) = elim (last_written_word g words ys o (get_or (written g words ys) o 0) there) [
      | inl m ↦ let l : LastWrite f xs o (get_or (written g words ys) o 0) =
          (same o (get_or (written g words ys) o 0)).1 m in
          absurd (h.1 l.place l.item (get_or (written g words ys) o 0) l.at l.writes)
      | inr k ↦ there ∙ sym k.0 ∙ h.0
    ]

-- two lists with the same last writes do the same to any words
pub last_written_words_same : {A B : Type 0} (f : A → Option (ℕ × ℕ)) (g : B → Option (ℕ × ℕ)) (words : List ℕ) (xs : List A)
    (ys : List B)
    → ((o v : ℕ) → LastWrite f xs o v ↔ LastWrite g ys o v) → written f words xs ≡ written g words ys
last_written_words_same f g words xs ys same =
    slice_sets_same (written f words xs) (written g words ys)
    (λ o. go o (slice_get (written f words xs) o) (slice_get (written g words ys) o) refl refl)
  where
    go : (o : ℕ) (a b : Option ℕ) → slice_get (written f words xs) o ≡ a → slice_get (written g words ys) o ≡ b
        → slice_get (written f words xs) o ≡ slice_get (written g words ys) o
    go o (Some w) b d e = d ∙ sym (last_written_half f g words xs ys same o w d)
    go o None None d e = d ∙ sym e
    go o None (Some w) d e = last_written_half g f words ys xs (λ o v. ((same o v).1, (same o v).0)) o w e ∙ sym e

-- leaving out items that write nothing changes nothing
pub last_written_filter : {A : Type 0} (f : A → Option (ℕ × ℕ)) (pick : A → Bool) (words : List ℕ) (xs : List A)
    → ((x : A) → pick x ≡ false → f x ≡ None) → written f words (filter pick xs) ≡ written f words xs
last_written_filter f pick words [] h = refl
last_written_filter f pick words (x ∷ xs) h = go (pick x) refl (last_written_filter f pick (wrote words (f x)) xs h)
  where
    go : (b : Bool) → pick x ≡ b → written f (wrote words (f x)) (filter pick xs) ≡ written f (wrote words (f x)) xs
        → written f words (cond b (x ∷ filter pick xs) (filter pick xs)) ≡ written f (wrote words (f x)) xs
    go true e ih = ih
    go false e ih = ap (λ (a : Option (ℕ × ℕ)). written f (wrote words a) (filter pick xs)) (sym (h x e)) ∙ ih

-- writes of mapped items are the mapped writes of the items
pub last_written_map : {A B : Type 0} (f : B → Option (ℕ × ℕ)) (h : A → B) (words : List ℕ) (xs : List A)
    → written f words (map h xs) ≡ written (λ (x : A). f (h x)) words xs
last_written_map f h words [] = refl
last_written_map f h words (x ∷ xs) = last_written_map f h (wrote words (f (h x))) xs

-- writes one after another
pub written-append : {A : Type 0} (f : A → Option (ℕ × ℕ)) (words : List ℕ) (xs ys : List A)
    → written f words (xs ++ ys) ≡ written f (written f words xs) ys
written-append f words [] ys = refl
written-append f words (x ∷ xs) ys = written-append f (wrote words (f x)) xs ys

-- functions that write the same at each item of the list
pub last_written_function_same : {A : Type 0} (f g : A → Option (ℕ × ℕ)) (words : List ℕ) (xs : List A)
    → ((k : ℕ) (x : A) → slice_get xs k ≡ Some x → f x ≡ g x) → written f words xs ≡ written g words xs
last_written_function_same f g words [] h = refl
last_written_function_same f g words (x ∷ xs) h =
    ap (λ (a : Option (ℕ × ℕ)). written f (wrote words a) xs) (h 0 x refl)
    ∙ last_written_function_same f g (wrote words (g x)) xs (λ k. h (suc k))

-- a last write, told by what the writes leave in words that differ from it
pub last_written_found : {A : Type 0} (f : A → Option (ℕ × ℕ)) (xs : List A) (o v : ℕ)
    → slice_get (written f (replicate (suc o) (suc v)) xs) o ≡ Some v → LastWrite f xs o v
last_written_found f xs o v h = elim (last_written_word f (replicate (suc o) (suc v)) xs o v h) [
  | inl l ↦ l
  | inr n ↦ let e : suc v ≡ v = slice_get-replicate_found (suc o) (suc v) v o n.0 in absurd (omega arith)
]

-- lists that do the same to all words have the same last writes
pub last_written_same : {A B : Type 0} (f : A → Option (ℕ × ℕ)) (g : B → Option (ℕ × ℕ)) (xs : List A) (ys : List B) (o v : ℕ)
    → ((words : List ℕ) → written f words xs ≡ written g words ys) → LastWrite f xs o v → LastWrite g ys o v
last_written_same f g xs ys o v same l =
    last_written_found g ys o v (rw (← same (replicate (suc o) (suc v)))
    (last_written_word_found f (replicate (suc o) (suc v)) xs o v (rw length-replicate (omega arith)) l))

-- items that write nothing leave the words
pub last_written_nothing : {A : Type 0} (f : A → Option (ℕ × ℕ)) (words : List ℕ) (xs : List A)
    → ((k : ℕ) (x : A) → slice_get xs k ≡ Some x → f x ≡ None) → written f words xs ≡ words
last_written_nothing f words [] h = refl
last_written_nothing f words (x ∷ xs) h =
    ap (λ (a : Option (ℕ × ℕ)). written f (wrote words a) xs) (h 0 x refl)
    ∙ last_written_nothing f words xs (λ k. h (suc k))

-- where an item writes, there is a last write
pub last_written_exists : {A : Type 0} (f : A → Option (ℕ × ℕ)) (xs : List A) (k o u : ℕ) (x : A) → slice_get xs k ≡ Some x
    → f x ≡ Some (o, u) → (v : ℕ) × LastWrite f xs o v
last_written_exists f xs k o u x at writes = go (last_written_word f words xs o word found)
  where
    words : List ℕ
    words = replicate (suc o) 0

    word : ℕ
    word = get_or (written f words xs) o 0

    found : slice_get (written f words xs) o ≡ Some word
    found = slice_get-get_or (written f words xs) o 0 (rw (length-written, length-replicate) (omega arith))

    go : LastWrite f xs o word ⊎ ((slice_get words o ≡ Some word) × HasNoLastWrite f xs o) → (v : ℕ) × LastWrite f xs o v
    go (inl l) = (word, l)
    go (inr n) = absurd (n.1 k x u at writes)
