-- Processors that are written: their words, one after another.
use Rattle.std.proofs.Common.{◌≡◌, ℕ, ◌<◌, ◌≤◌, inl, inr, List, [], ◌∷◌, ◌++◌, Bool, true, false, Some, length, replicate, slice_get, slice_set, subst, sym, ap, ◌∙◌, true≢false, arith}
use Rattle.std.proofs.lemmas.Bool.{cases_eq}
use Rattle.std.proofs.lemmas.List.{length-replicate, length-set}
use Rattle.std.proofs.lemmas.Option.{none-some, same_Some, slice_get_within}
use Rattle.base.specs.InOrderOnce.{Has}
use Rattle.base.proofs.SlicesAndCounts.{slice_push_cases, slice_get-append_left, slice_get-last}
use Rattle.base.proofs.SliceSets.{slice_get-replicate_found, slice_get-set_other, slice_get-set_same}
use Rattle.lrc_script.specs.LineReading.{line_read_number}
use Rattle.lrc_options.specs.Ranges.{AreProcessorsWritten, most_trace_processors}

-- no words mark nobody
pub written_processors_none : (n : ℕ) → AreProcessorsWritten n [] (replicate most_trace_processors false)
written_processors_none n = record {
  long = length-replicate most_trace_processors false;
  each = λ word h. absurd (none-some word h.1);
  marked = λ p. (
    λ at. absurd (true≢false (sym (slice_get-replicate_found most_trace_processors false true p at))),
    λ x. absurd (none-some x.0 x.1.1),
  );
}

-- a word more
pub written_processors_next : (n : ℕ) (words : List (List ℕ)) (marks : List Bool) (word : List ℕ) (p : ℕ)
    → n ≤ most_trace_processors → line_read_number word ≡ Some p → p < n → AreProcessorsWritten n words marks
    → AreProcessorsWritten n (words ++ word ∷ []) (slice_set marks p true)
written_processors_next n words marks word p few read low are = record {
  long = length-set marks p true ∙ are.long;
  each = λ other h. elim (slice_push_cases words word h.0 other h.1) [
    | inl old ↦ are.each other (h.0, old.1)
    | inr now ↦
        subst (λ (w : List ℕ). (q : ℕ) × (line_read_number w ≡ Some q) × (q < n)) now.1 (p, read, low)
  ];
  marked = λ q. (there q, back q);
}
  where
    inside : p < length marks
    inside = let long = are.long in omega arith

    Names : List (List ℕ) → ℕ → Type 0
    Names ws q = (other : List ℕ) × Has ws other × (line_read_number other ≡ Some q)

    old : (q : ℕ) → Names words q → Names (words ++ word ∷ []) q
    old q x = (
      x.0,
      (x.1.0, slice_get-append_left words (word ∷ []) x.1.0 (slice_get_within words x.1.0 x.0 x.1.1) ∙ x.1.1),
      x.2,
    )

    there : (q : ℕ) → slice_get (slice_set marks p true) q ≡ Some true → Names (words ++ word ∷ []) q
    there q at = elim (cases_eq q p) [
      | inl is ↦ (word, (length words, slice_get-last words word), read ∙ ap (λ (n : ℕ). Some n) (sym is))
      | inr isnt ↦ old q ((are.marked q).0 (sym (slice_get-set_other marks p q true isnt) ∙ at))
    ]

    back : (q : ℕ) → Names (words ++ word ∷ []) q → slice_get (slice_set marks p true) q ≡ Some true
    back q x = elim (cases_eq q p) [
      | inl is ↦
          subst (λ n. slice_get (slice_set marks p true) n ≡ Some true) (sym is) (slice_get-set_same marks p true inside)
      | inr isnt ↦ slice_get-set_other marks p q true isnt ∙ elim (slice_push_cases words word x.1.0 x.0 x.1.1) [
        | inl was ↦ (are.marked q).1 (x.0, (x.1.0, was.1), x.2)
        | inr now ↦
            absurd (isnt (same_Some q p (sym x.2 ∙ ap line_read_number (sym now.1) ∙ read)))
      ]
    ]

-- where a word names no processor, nothing is marked for all of them
pub written_processors_not : (n : ℕ) (words : List (List ℕ)) (marks : List Bool) (word : List ℕ) → Has words word
    → ((p : ℕ) → line_read_number word ≡ Some p → n ≤ p) → ¬ AreProcessorsWritten n words marks
written_processors_not n words marks word here past are =
    let x = are.each word here in
    let le = past x.0 x.1 in
    let lt = x.2 in
    omega arith
