-- The words of a line, and what stands between separators.
use Rattle.std.proofs.Common.{◌≡◌, ◌≢◌, ℕ, ◌<◌, Bool, true, false, cond, eqb, List, [], ◌∷◌, ◌++◌, length, refl, sym, ap, subst, ◌∙◌, arith}
use Rattle.std.specs.List.{onto_first, list_all, flat_map, join_with_byte, AllByRecursion}
use Rattle.std.proofs.lemmas.Bool.{ltb-true, lt-ltb, and_parts, ne_eqb, eq-eqb}
use Rattle.std.proofs.lemmas.Bool.Decides.{nat_tests}
use Rattle.std.proofs.lemmas.List.Splits.{slice_split_at, slice_split_none, join_with_byte-slice_split}
use Rattle.std.proofs.lemmas.List.{append-nil}
use Rattle.std.proofs.lemmas.List.Elements.{All-from_recursion}
use Rattle.lrc_script.specs.ScriptFaults.{IsWordOfLine, IsLineSplit}
use Rattle.lrc_script.specs.LineReading.{parts_of_read_line, line_read_word_has_bytes}

-- none of these bytes is the separator
abbrev pub HasNoSeparator : ℕ → List ℕ → Type 0
HasNoSeparator c bytes = AllByRecursion (λ b. b ≢ c) bytes

pub HasNoSeparator-append : (c : ℕ) (a b : List ℕ) → HasNoSeparator c a → HasNoSeparator c b → HasNoSeparator c (a ++ b)
HasNoSeparator-append c [] b p q = q
HasNoSeparator-append c (x ∷ a) b p q = (p.0, HasNoSeparator-append c a b p.1 q)

separator_tests_false : (c : ℕ) (bytes : List ℕ) → HasNoSeparator c bytes → AllByRecursion (λ b. eqb b c ≡ false) bytes
separator_tests_false c [] h = tt
separator_tests_false c (b ∷ bytes) h = (ne_eqb b c h.0, separator_tests_false c bytes h.1)

-- the first part ends at the first separator
pub separator_behind_first_word : (c : ℕ) (bytes rest : List ℕ) → HasNoSeparator c bytes
    → parts_of_read_line c (bytes ++ c ∷ rest) ≡ bytes ∷ parts_of_read_line c rest
separator_behind_first_word c bytes rest h =
    slice_split_at (λ b. eqb b c) bytes c rest
    (All-from_recursion (λ b. eqb b c ≡ false) bytes (separator_tests_false c bytes h)) (eq-eqb c c refl)

-- where there is none, the bytes are the one part
pub separator_absent_one_word : (c : ℕ) (bytes : List ℕ) → HasNoSeparator c bytes → parts_of_read_line c bytes ≡ bytes ∷ []
separator_absent_one_word c bytes h =
    slice_split_none (λ b. eqb b c) bytes (All-from_recursion (λ b. eqb b c ≡ false) bytes (separator_tests_false c bytes h))

pub separator_parts_some : (c : ℕ) (bytes : List ℕ) → 0 < length (parts_of_read_line c bytes)
separator_parts_some c [] = omega arith
separator_parts_some c (b ∷ bytes) =
    elim (eqb b c) as (λ t. 0 < length (cond t ([] ∷ parts_of_read_line c bytes) (onto_first b (parts_of_read_line c bytes)))) [
      | true ↦ omega arith
      | false ↦ onto_some b (parts_of_read_line c bytes)
    ]
  where
    onto_some : (b : ℕ) (parts : List (List ℕ)) → 0 < length (onto_first b parts)
    onto_some b [] = omega arith
    onto_some b (p ∷ parts) = omega arith

-- the first part begins with what stands before any separator
separator_first_word_onto : (c x : ℕ) (front bytes w : List ℕ) (parts ws : List (List ℕ)) → 0 < length parts
    → ((p : List ℕ) (ps : List (List ℕ)) → parts ≡ p ∷ ps → (v : List ℕ) × (p ≡ front ++ v) × (parts_of_read_line c bytes ≡ v ∷ ps))
    → onto_first x parts ≡ w ∷ ws → (v : List ℕ) × (w ≡ x ∷ front ++ v) × (parts_of_read_line c bytes ≡ v ∷ ws)
separator_first_word_onto c x front bytes w [] ws some found e = absurd (omega (arith, some))
separator_first_word_onto c x front bytes w (p ∷ ps) ws some found e =
    let rest : ps ≡ ws = cc in
    let first : w ≡ x ∷ p = cc in
    let behind = found p ws (ap (λ (t : List (List ℕ)). p ∷ t) rest) in
    (behind.0, first ∙ ap (λ (t : List ℕ). x ∷ t) behind.1, behind.2)

pub separator_word_front : (c : ℕ) (front bytes w : List ℕ) (ws : List (List ℕ)) → HasNoSeparator c front
    → parts_of_read_line c (front ++ bytes) ≡ w ∷ ws → (v : List ℕ) × (w ≡ front ++ v) × (parts_of_read_line c bytes ≡ v ∷ ws)
separator_word_front c [] bytes w ws h e = (w, refl, e)
separator_word_front c (x ∷ front) bytes w ws h e =
    let apart = ne_eqb x c h.0 in
    separator_first_word_onto c x front bytes w (parts_of_read_line c (front ++ bytes)) ws (separator_parts_some c (front ++ bytes))
    (λ p ps is. separator_word_front c front bytes p ps h.1 is) (rw apart at e)

-- each part is without separators
separator_onto_first : (c x : ℕ) (parts : List (List ℕ)) → x ≢ c → AllByRecursion (HasNoSeparator c) parts
    → AllByRecursion (HasNoSeparator c) (onto_first x parts)
separator_onto_first c x [] ne h = ((ne, tt), tt)
separator_onto_first c x (part ∷ parts) ne h = ((ne, h.0), h.1)

separator_in_no_part_if : (c x : ℕ) (xs : List ℕ) (b : Bool) → eqb x c ≡ b → AllByRecursion (HasNoSeparator c) (parts_of_read_line c xs)
    → AllByRecursion (HasNoSeparator c) (cond b ([] ∷ parts_of_read_line c xs) (onto_first x (parts_of_read_line c xs)))
separator_in_no_part_if c x xs true e h = (tt, h)
separator_in_no_part_if c x xs false e h = separator_onto_first c x (parts_of_read_line c xs) (λ same. grind (arith, nat_tests, e, same)) h

pub separator_in_no_part : (c : ℕ) (bytes : List ℕ) → AllByRecursion (HasNoSeparator c) (parts_of_read_line c bytes)
separator_in_no_part c [] = (tt, tt)
separator_in_no_part c (x ∷ xs) = separator_in_no_part_if c x xs (eqb x c) refl (separator_in_no_part c xs)

-- a word and others with the separator before each
abbrev pub separator_joined : ℕ → List ℕ → List (List ℕ) → List ℕ
separator_joined c w ws = w ++ flat_map (λ v. c ∷ v) ws

separator_joined_are : (c : ℕ) (w : List ℕ) (ws : List (List ℕ)) → join_with_byte c (w ∷ ws) ≡ separator_joined c w ws
separator_joined_are c w [] = sym (append-nil w)
separator_joined_are c w (v ∷ ws) = ap (λ (t : List ℕ). w ++ c ∷ t) (separator_joined_are c v ws)

-- the parts with the separator between them are the bytes
pub separator_parts_whole : (c : ℕ) (bytes w : List ℕ) (ws : List (List ℕ)) → parts_of_read_line c bytes ≡ w ∷ ws → bytes ≡ separator_joined c w ws
separator_parts_whole c bytes w ws e = sym (join_with_byte-slice_split c bytes) ∙ ap (join_with_byte c) e ∙ separator_joined_are c w ws

-- what is joined is cut into the same parts
pub separator_parts_of_joined : (c : ℕ) (w : List ℕ) (ws : List (List ℕ)) → HasNoSeparator c w → AllByRecursion (HasNoSeparator c) ws
    → parts_of_read_line c (separator_joined c w ws) ≡ w ∷ ws
separator_parts_of_joined c w [] h hs = ap (parts_of_read_line c) (append-nil w) ∙ separator_absent_one_word c w h
separator_parts_of_joined c w (v ∷ ws) h hs =
    separator_behind_first_word c w (separator_joined c v ws) h ∙ ap (λ (vs : List (List ℕ)). w ∷ vs) (separator_parts_of_joined c v ws hs.0 hs.1)

separator_words_from : (ws : List (List ℕ)) → list_all line_read_word_has_bytes ws ≡ true → AllByRecursion (HasNoSeparator 32) ws
    → AllByRecursion IsWordOfLine ws
separator_words_from [] h clean = tt
separator_words_from (w ∷ ws) h clean =
    let both = and_parts (line_read_word_has_bytes w) (list_all line_read_word_has_bytes ws) h in
    (record { some = ltb-true _ _ both.0; no_space = clean.0 }, separator_words_from ws both.1 clean.1)

pub separator_words_have_bytes : (ws : List (List ℕ)) → AllByRecursion IsWordOfLine ws → list_all line_read_word_has_bytes ws ≡ true
separator_words_have_bytes [] h = refl
separator_words_have_bytes (w ∷ ws) h = let some = lt-ltb _ _ h.0.some in rw (some, separator_words_have_bytes ws h.1) refl

separator_words_clean : (ws : List (List ℕ)) → AllByRecursion IsWordOfLine ws → AllByRecursion (HasNoSeparator 32) ws
separator_words_clean [] h = tt
separator_words_clean (w ∷ ws) h = (h.0.no_space, separator_words_clean ws h.1)

-- a line is cut into the words that it is split into
pub separator_words_of_split : (line w : List ℕ) (ws : List (List ℕ)) → IsLineSplit line w ws
    → (parts_of_read_line 32 line ≡ w ∷ ws) × (list_all line_read_word_has_bytes (w ∷ ws) ≡ true)
separator_words_of_split line w ws h = (
  ap (parts_of_read_line 32) h.whole
      ∙ separator_parts_of_joined 32 w ws h.first.no_space (separator_words_clean ws h.others),
  separator_words_have_bytes (w ∷ ws)
      (h.first, h.others),
)

pub separator_split_from_parts : (line w : List ℕ) (ws : List (List ℕ)) → parts_of_read_line 32 line ≡ w ∷ ws
    → list_all line_read_word_has_bytes (w ∷ ws) ≡ true → IsLineSplit line w ws
separator_split_from_parts line w ws e h =
    let clean : AllByRecursion (HasNoSeparator 32) (w ∷ ws) =
    subst (λ (ps : List (List ℕ)). AllByRecursion (HasNoSeparator 32) ps) e (separator_in_no_part 32 line) in
    let words = separator_words_from (w ∷ ws) h clean in
    record { first = words.0; others = words.1; whole = separator_parts_whole 32 line w ws e }
