-- The last of the news, found from the end: one that is up to none of the last ones so far is one of them, for whatever stands
-- behind it is up to one of those, and nothing before it happens after it.
use Rattle.std.proofs.Common.{◌≡◌, ℕ, ◌+◌, ◌<◌, ◌≤◌, inl, inr, List, [], ◌∷◌, ◌++◌, Some, length, slice_get, subst, sym, ap, ◌∙◌, arith}
use Rattle.std.proofs.lemmas.Bool.{cases_eq, cases_lt}
use Rattle.std.proofs.lemmas.Option.{none-some, same_Some, slice_get_within}
use Rattle.base.specs.InOrderOnce.{Has, InOrder}
use Rattle.base.proofs.SlicesAndCounts.{slice_push_cases, slice_get-append_left, slice_get-last}
use Rattle.journal.specs.declared.event.Event.{Event}
use Rattle.journal.specs.HappensBeforeEdges.{HappensBefore}
use Rattle.journal.specs.Pasts.{UpTo}
use Rattle.journal.proofs.Order.HappensBefore.{happens_before_goes_forward}
use Rattle.journal.proofs.Order.IntoPast.{into_past_up_to_back}
use Rattle.causes.specs.HandOvers.{AreHandOvers, AreHandOversFrom}
use Rattle.causes.specs.News.{AreNewsRising}

-- behind the last of the news there is none
pub hand_over_last_none : (j : List Event) (news : List ℕ) (n : ℕ) (places : List ℕ) → length news ≤ n → places ≡ []
    → AreHandOversFrom j news n places
hand_over_last_none j news n places end none = subst (AreHandOversFrom j news n) (sym none) (record {
  each = λ m at. absurd (none-some m at.1);
  last = λ m x i at. absurd (none-some m at.1);
  all = λ x i le at. absurd (let lt = slice_get_within news x i at in omega arith);
})

-- one that is up to one of them
pub hand_over_last_others : (j : List Event) (news : List ℕ) (n p : ℕ) (places : List ℕ) → slice_get news n ≡ Some p
    → (m : ℕ) × Has places m × UpTo j m p → AreHandOversFrom j news (n + 1) places → AreHandOversFrom j news n places
hand_over_last_others j news n p places at up old = record {
  each = old.each;
  last = old.last;
  all = λ x i le to. elim (cases_eq x n) [
    | inl is ↦
        (let same : p ≡ i = same_Some p i (sym at ∙ ap (slice_get news) (sym is) ∙ to) in
        (up.0, up.1, subst (UpTo j up.0) same up.2))
    | inr isnt ↦ old.all x i (omega arith) to
  ];
}

-- and one that is up to none
pub hand_over_last_next : (j : List Event) (news : List ℕ) (n p : ℕ) (places : List ℕ) → InOrder (λ i m. i < m) news
    → slice_get news n ≡ Some p → ((m : ℕ) → Has places m → ¬ UpTo j m p) → AreHandOversFrom j news (n + 1) places
    → AreHandOversFrom j news n (places ++ p ∷ [])
hand_over_last_next j news n p places rising at away old = record { each = each; last = last; all = all }
  where
    each : (m : ℕ) → Has (places ++ p ∷ []) m → (x : ℕ) × (slice_get news x ≡ Some m)
    each m has = elim (slice_push_cases places p has.0 m has.1) [
      | inl was ↦ old.each m (has.0, was.1)
      | inr new ↦ (n, at ∙ ap (λ y. Some y) new.1)
    ]

    last : (m x i : ℕ) → Has (places ++ p ∷ []) m → slice_get news x ≡ Some i → ¬ HappensBefore j m i
    last m x i has to before = elim (slice_push_cases places p has.0 m has.1) [
      | inl was ↦ old.last m x i (has.0, was.1) to before
      | inr new ↦
          (let from : HappensBefore j p i = subst (λ y. HappensBefore j y i) (sym new.1) before in
          let forth : p < i = happens_before_goes_forward j from in
          elim (cases_lt n x) [
            | inl lt ↦
                (let up = old.all x i (omega arith) to in
                away up.0 up.1 (into_past_up_to_back j p i up.0 from up.2))
            | inr le ↦ elim (cases_eq x n) [
              | inl is ↦
                  (let same : p ≡ i = same_Some p i (sym at ∙ ap (slice_get news) (sym is) ∙ to) in
                  omega arith)
              | inr isnt ↦ (let rise = rising x n i p (omega arith) to at in omega arith)
            ]
          ])
    ]

    all : (x i : ℕ) → n ≤ x → slice_get news x ≡ Some i → (m : ℕ) × Has (places ++ p ∷ []) m × UpTo j m i
    all x i le to = elim (cases_eq x n) [
      | inl is ↦
          (let same : i ≡ p = same_Some i p (sym to ∙ ap (slice_get news) is ∙ at) in
          (p, (length places, slice_get-last places p), inl same))
      | inr isnt ↦
          (let up = old.all x i (omega arith) to in (
            up.0,
            (up.1.0, slice_get-append_left places (p ∷ []) up.1.0 (slice_get_within places up.1.0 up.0 up.1.1) ∙ up.1.1),
            up.2,
          ))
    ]

-- the last of all news
pub hand_over_last_all : (j : List Event) (k : ℕ) (news places : List ℕ) → AreNewsRising j k news → AreHandOversFrom j news 0 places
    → AreHandOvers j k places
hand_over_last_all j k news places are last = record {
  each = λ n has. (let x = last.each n has in (are.has n).0 x);
  last = λ n i has new. (let x = (are.has i).1 new in last.last n x.0 i has x.1);
  all = λ i new. (let x = (are.has i).1 new in last.all x.0 i (omega arith) x.1);
}
