-- Final words that are written: their items, one after another.
use Rattle.std.proofs.Common.{◌≡◌, ◌≢◌, ℕ, zero, suc, ◌+◌, ◌<◌, inl, inr, List, [], ◌∷◌, ◌++◌, Option, Some, length, slice_get, subst, sym, ap, ◌∙◌, refl, length-append, arith}
use Rattle.std.specs.Prelude.{None}
use Rattle.std.proofs.lemmas.Option.{none-some, slice_get_within}
use Rattle.base.proofs.SlicesAndCounts.{slice_push_cases, slice_get-append_left, slice_get-append_right, slice_get-last}
use Rattle.lrc_script.specs.LineReading.{parts_of_read_line}
use Rattle.lrc_options.specs.FinalWords.{AreFinalWordsWritten, HasFinalWordAddress, final_word_of}

-- no items give no words
pub final_word_items_none : AreFinalWordsWritten [] []
final_word_items_none = record {
  long = refl;
  each = λ k item at. absurd (none-some item at);
  apart = λ i k v w lt at. absurd (none-some v at);
}

-- one item more
pub final_word_items_next : (items : List (List ℕ)) (words : List (ℕ × ℕ)) (item : List ℕ) (w : ℕ × ℕ)
    → final_word_of (parts_of_read_line 61 item) ≡ Some w → ¬ HasFinalWordAddress words w.0 → AreFinalWordsWritten items words
    → AreFinalWordsWritten (items ++ item ∷ []) (words ++ w ∷ [])
final_word_items_next items words item w gives new are = record {
  long = (
      let one = length-append words (w ∷ []) in
      let two = length-append items (item ∷ []) in
      let long = are.long in
      omega arith);
  each = λ k other at. elim (slice_push_cases items item k other at) [
    | inl old ↦
        (let long = are.long in
        let lt = old.0 in
        slice_get-append_left words (w ∷ []) k (omega arith) ∙ are.each k other old.1)
    | inr last ↦
        ap (slice_get (words ++ w ∷ [])) (last.0 ∙ sym are.long) ∙ slice_get-last words w ∙ sym gives
        ∙ ap (λ (i : List ℕ). final_word_of (parts_of_read_line 61 i)) last.1
  ];
  apart = λ i k v u lt first second. elim (slice_push_cases words w k u second) [
    | inl old ↦
        (let less = old.0 in
        are.apart i k v u lt (sym (slice_get-append_left words (w ∷ []) i (omega arith)) ∙ first) old.1)
    | inr last ↦ elim (slice_push_cases words w i v first) [
      | inl old ↦ λ same. new (v.1, (i, old.1 ∙ ap (λ a. Some (a, v.1)) (same ∙ sym (ap (λ (x : ℕ × ℕ). x.0) last.1))))
      | inr both ↦
          (let one = both.0 in
          let two = last.0 in
          absurd (omega arith))
    ]
  ];
}

module _ (before : List (List ℕ)) (item : List ℕ) (left items : List (List ℕ)) (whole : before ++ item ∷ left ≡ items)
    (written : List (ℕ × ℕ)) (are : AreFinalWordsWritten items written) where
  -- what the item behind so many gives is the word behind so many
  final_word_items_given : slice_get written (length before) ≡ final_word_of (parts_of_read_line 61 item)
  final_word_items_given =
      let there = subst (λ its. slice_get its (length before) ≡ Some item) whole at in
      are.each (length before) item there
    where
      at : slice_get (before ++ item ∷ left) (length before) ≡ Some item
      at = let e : length before + 0 ≡ length before = omega arith in
          subst (λ n. slice_get (before ++ item ∷ left) n ≡ Some item) e (slice_get-append_right before (item ∷ left) 0)

  final_word_items_long : length before < length written
  final_word_items_long =
      let long = are.long in
      let all = ap (λ (its : List (List ℕ)). length its) whole in
      let both = length-append before (item ∷ left) in
      omega arith

  -- so each item gives a word
  pub final_word_items_some : final_word_of (parts_of_read_line 61 item) ≢ None
  final_word_items_some none = absurd (past written (length before) final_word_items_long (final_word_items_given ∙ none))
    where
      past : (ws : List (ℕ × ℕ)) (k : ℕ) → k < length ws → slice_get ws k ≡ None → ⊥
      past [] k lt is = omega arith
      past (x ∷ ws) zero lt is = none-some x (sym is)
      past (x ∷ ws) (suc k) lt is = past ws k (omega arith) is

  -- at an address that none before it is at
  pub final_word_items_fresh : (words : List (ℕ × ℕ)) (w : ℕ × ℕ) → AreFinalWordsWritten before words
      → final_word_of (parts_of_read_line 61 item) ≡ Some w → ¬ HasFinalWordAddress words w.0
  final_word_items_fresh words w old gives has =
      let place = has.1.0 in
      let lt = slice_get_within words place (w.0, has.0) has.1.1 in
      let long = old.long in
      let here : place < length before = omega arith in
      let source = machine before place here in
      let there = subst (λ its. slice_get its place ≡ Some source.0) whole
      (slice_get-append_left before (item ∷ left) place here ∙ source.1) in
      let same = are.each place source.0 there ∙ sym (old.each place source.0 source.1) ∙ has.1.1 in
      are.apart place (length before) (w.0, has.0) w here same (final_word_items_given ∙ gives) refl
    where
      machine : (xs : List (List ℕ)) (k : ℕ) → k < length xs → (x : List ℕ) × (slice_get xs k ≡ Some x)
      machine [] k lt = absurd (omega arith)
      machine (x ∷ xs) zero lt = (x, refl)
      machine (x ∷ xs) (suc k) lt = machine xs k (omega arith)

-- what is no word is none
pub final_word_item_none_written : (o : Option (ℕ × ℕ)) → ((w : ℕ × ℕ) → o ≢ Some w) → o ≡ None
final_word_item_none_written None isnt = refl
final_word_item_none_written (Some w) isnt = absurd (isnt w refl)
