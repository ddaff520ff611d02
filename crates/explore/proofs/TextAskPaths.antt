-- Asks of the text on a path, each of which holds what the one before asks for, and where it comes back to a lock.
use Rattle.std.proofs.Common.{ℕ, ◌≡◌, ◌+◌, ◌-◌, ◌<◌, ◌⊎◌, inl, inr, List, [], ◌∷◌, ◌++◌, suc, Some, drop, length, slice_get, sym, ap, subst, ◌∙◌, arith}
use Rattle.std.specs.Global.{Vec}
use Rattle.std.proofs.lemmas.List.{length-append, length-drop}
use Rattle.base.proofs.SlicesAndCounts.{slice_append_cases, slice_get-drop}
use Rattle.std.proofs.lemmas.Option.{same_Some, slice_get_within}
use Rattle.base.proofs.JoinedLists.{joined_list_has-append, joined_list_has-cons, joined_list_has-nil}
use Rattle.explore.specs.declared.prefixes.script_call.ScriptCall.{ScriptCall}
use Rattle.explore.specs.declared.text.unranked_locks.TextAsk.{TextAsk}
use Rattle.explore.specs.UnrankedLocks.{AreTextAsks, AreTextAsksChained, IsTextAsk, IsTextAskCircle}

-- what ends a path asks for this lock
abbrev pub EndsTextAskPath : List TextAsk → ℕ → Type 0
EndsTextAskPath path lock = (n : ℕ) (a : TextAsk) → slice_get path n ≡ Some a → length path ≡ suc n → a.asked ≡ lock

-- a path, one ask longer
module _ (path : List TextAsk) (ask : TextAsk) where
  text_ask_path_at : (n : ℕ) (a : TextAsk) → slice_get (path ++ ask ∷ []) n ≡ Some a
      → ((n < length path) × (slice_get path n ≡ Some a)) ⊎ ((n ≡ length path) × (ask ≡ a))
  text_ask_path_at n a at = elim (slice_append_cases path (ask ∷ []) n a at) [
    | inl before ↦ inl before
    | inr here ↦ (let lt = slice_get_within (ask ∷ []) here.0 a here.2 in
        let first : here.0 ≡ 0 = omega arith in
        inr (omega arith, same_Some ask a (sym (ap (slice_get (ask ∷ [])) first) ∙ here.2)))
  ]

  pub text_ask_path_chained_next : (lock : ℕ) → AreTextAsksChained path → EndsTextAskPath path lock → ask.held ≡ lock
      → AreTextAsksChained (path ++ ask ∷ [])
  text_ask_path_chained_next lock chained ends is n a b first second = elim (text_ask_path_at n a first) [
    | inl one ↦ elim (text_ask_path_at (suc n) b second) [
      | inl two ↦ chained n a b one.1 two.1
      | inr two ↦ ap (λ (x : TextAsk). x.held) (sym two.1) ∙ is ∙ sym (ends n a one.1 (sym two.0))
    ]
    | inr one ↦ absurd (let lt = slice_get_within (path ++ ask ∷ []) (suc n) b second in let long = length-append path (ask ∷ []) in omega arith)
  ]

  pub text_ask_path_ends_next : EndsTextAskPath (path ++ ask ∷ []) ask.asked
  text_ask_path_ends_next n a at long = elim (text_ask_path_at n a at) [
    | inl before ↦ absurd (let more = length-append path (ask ∷ []) in let lt = before.0 in omega arith)
    | inr here ↦ ap (λ (x : TextAsk). x.asked) (sym here.1)
  ]

  pub text_ask_path_each_next : (rows : List (Vec ScriptCall)) → AreTextAsks rows path → IsTextAsk rows ask → AreTextAsks rows (path ++ ask ∷ [])
  text_ask_path_each_next rows each is x has = elim ((joined_list_has-append path (ask ∷ []) x).0 has) [
    | inl before ↦ each x before
    | inr here ↦ elim ((joined_list_has-cons ask [] x).0 here) [
      | inl same ↦ subst (IsTextAsk rows) same is
      | inr none ↦ absurd (joined_list_has-nil x none)
    ]
  ]

-- where a path comes back to a lock, it has a circle
pub text_ask_path_circle : (rows : List (Vec ScriptCall)) (path : List TextAsk) (lock first : ℕ) (x : TextAsk) → AreTextAsks rows path
    → AreTextAsksChained path → EndsTextAskPath path lock → slice_get path first ≡ Some x → x.held ≡ lock → IsTextAskCircle rows (drop first path)
text_ask_path_circle rows path lock first x each chained ends at is = record {
  some = omega (arith, left, within);
  each = λ a has. each a (first + has.0, sym (slice_get-drop path first has.0) ∙ has.1);
  chained = λ n a b one two.
      chained (first + n) a b (sym (slice_get-drop path first n) ∙ one)
      (ap (slice_get path) (omega arith) ∙ sym (slice_get-drop path first (suc n)) ∙ two);
  closed = λ a b one two.
      let head = sym (slice_get-drop path first 0) ∙ one in
      let same = same_Some x a (sym at ∙ ap (slice_get path) (omega arith) ∙ head) in
      let last = sym (slice_get-drop path first (length (drop first path) - 1)) ∙ two in
      ap (λ (z : TextAsk). z.held) (sym same) ∙ is ∙ sym (ends (first + (length (drop first path) - 1)) b last (omega (arith, left, within)));
}
  where
    within : first < length path
    within = slice_get_within path first x at

    left : length (drop first path) ≡ length path - first
    left = length-drop first path
