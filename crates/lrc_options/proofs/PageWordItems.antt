-- Page sizes that are written: their items, one after another.
use Rattle.std.proofs.Common.{◌≡◌, ◌≢◌, ℕ, zero, suc, ◌+◌, ◌<◌, inl, inr, List, [], ◌∷◌, ◌++◌, Option, Some, length, slice_get, subst, sym, ap, ◌∙◌, refl, length-append, arith}
use Rattle.std.specs.Prelude.{None}
use Rattle.std.proofs.lemmas.Option.{none-some}
use Rattle.base.proofs.SlicesAndCounts.{slice_push_cases, slice_get-append_left, slice_get-append_right, slice_get-last}
use Rattle.lrc_options.specs.PageWords.{ArePageWordsRead, page_words_of}

-- no items give no sizes
pub page_word_items_none : ArePageWordsRead [] []
page_word_items_none = record { long = refl; each = λ k item at. absurd (none-some item at) }

-- one item more
pub page_word_items_next : (items : List (List ℕ)) (words : List ℕ) (item : List ℕ) (w : ℕ) → page_words_of item ≡ Some w
    → ArePageWordsRead items words → ArePageWordsRead (items ++ item ∷ []) (words ++ w ∷ [])
page_word_items_next items words item w gives are = record {
  long = (
      let one = length-append words (w ∷ []) in
      let two = length-append items (item ∷ []) in
      let long = are.long in
      omega arith);
  each = λ k other at. elim (slice_push_cases items item k other at) [
    | inl old ↦
        (let long = are.long in
        let lt = old.0 in
        slice_get-append_left words (w ∷ []) k (omega arith) ∙ are.each k other old.1)
    | inr last ↦ ap (slice_get (words ++ w ∷ [])) (last.0 ∙ sym are.long) ∙ slice_get-last words w ∙ sym gives ∙ ap page_words_of last.1
  ];
}

-- an item that gives none is among none that give sizes
pub page_word_items_some : (before : List (List ℕ)) (item : List ℕ) (left items : List (List ℕ)) (words : List ℕ) → before ++ item ∷ left ≡ items
    → ArePageWordsRead items words → page_words_of item ≢ None
page_word_items_some before item left items words whole are none =
    past words (length before) long (are.each (length before) item there ∙ none)
  where
    at : slice_get (before ++ item ∷ left) (length before) ≡ Some item
    at = let e : length before + 0 ≡ length before = omega arith in
        subst (λ n. slice_get (before ++ item ∷ left) n ≡ Some item) e (slice_get-append_right before (item ∷ left) 0)

    there : slice_get items (length before) ≡ Some item
    there = subst (λ its. slice_get its (length before) ≡ Some item) whole at

    long : length before < length words
    long =
        let same = are.long in
        let all = ap (λ (its : List (List ℕ)). length its) whole in
        let both = length-append before (item ∷ left) in
        omega arith

    past : (ws : List ℕ) (k : ℕ) → k < length ws → slice_get ws k ≡ None → ⊥
    past [] k lt is = omega arith
    past (x ∷ ws) zero lt is = none-some x (sym is)
    past (x ∷ ws) (suc k) lt is = past ws k (omega arith) is

-- what is no size is none
pub page_word_item_none : (o : Option ℕ) → ((w : ℕ) → o ≢ Some w) → o ≡ None
page_word_item_none None isnt = refl
page_word_item_none (Some w) isnt = absurd (isnt w refl)
