-- Pages that are accessed, as a history goes on.
use Rattle.std.proofs.Common.{◌≡◌, ℕ, ◌+◌, ◌≤◌, ◌⊎◌, ◌↔◌, inl, inr, List, [], ◌∷◌, ◌++◌, Some, true, length, slice_get, refl, sym, ap, ◌∙◌, subst, arith, length-append}
use Rattle.std.proofs.lemmas.Bool.Decides.{eqb_tells}
use Rattle.base.proofs.SlicesAndCounts.{slice_push_cases}
use Rattle.journal.specs.declared.event.Event.{Event}
use Rattle.journal.specs.declared.event.Kind.{Kind}
use Rattle.journal.specs.declared.event.Kind.TheVariants.{Load, Store}
use Rattle.journal.specs.PageImages.{HasPageImageCount}
use Rattle.journal.specs.Sizes.{Sizes}
use Rattle.journal.proofs.Missing.GapsCounted.{gaps_counted_same}
use Rattle.journal.proofs.Order.EventPlacesAndCounts.{event_place_at_end, event_place_longer}
use Rattle.judge.proofs.ValueCounts.{value_count_joined, value_count_one}
use Rattle.lrc_pages.specs.declared.touched_pages.TouchedPages.{TouchedPages}
use Rattle.lrc_pages.specs.Fetched.{AccessesPage}
use Rattle.lrc_pages.specs.PagedHistory.{AreTouchedPages, IsPageMarked, IsTouchedPage}

-- an event accesses one page at most
one_page : (s : Sizes) (k : Kind) (n m : ℕ) → AccessesPage s k n → AccessesPage s k m → n ≡ m
one_page s (Load a v) n m x y = sym x ∙ y
one_page s (Store a v) n m x y = sym x ∙ y
one_page s _ n m x y = absurd x

-- a page that is accessed stays so
touched_longer : (s : Sizes) (h : List Event) (e : Event) (n : ℕ) → IsTouchedPage s h n → IsTouchedPage s (h ++ e ∷ []) n
touched_longer s h e n t = (t.0, t.1, event_place_longer h (e ∷ []) t.0 t.1 t.2, t.3)

-- what is accessed after one more event
touched_cases : (s : Sizes) (h : List Event) (e : Event) (n : ℕ) → IsTouchedPage s (h ++ e ∷ []) n → IsTouchedPage s h n ⊎ AccessesPage s e.kind n
touched_cases s h e n t = elim (slice_push_cases h e t.0 t.1 t.2) [
  | inl old ↦ inl (t.0, t.1, old.1, t.3)
  | inr new ↦ inr (subst (λ (f : Event). AccessesPage s f.kind n) (sym new.1) t.3)
]

touched_last : (s : Sizes) (h : List Event) (e : Event) (n : ℕ) → AccessesPage s e.kind n → IsTouchedPage s (h ++ e ∷ []) n
touched_last s h e n x = (length h, e, event_place_at_end h e, x)

-- after an event that accesses no page
pub touched_other : (s : Sizes) (h : List Event) (e : Event) (t : TouchedPages) → ((n : ℕ) → ¬ AccessesPage s e.kind n)
    → AreTouchedPages s h t → AreTouchedPages s (h ++ e ∷ []) t
touched_other s h e t none were = record {
  room = were.room;
  seen = λ n. (λ is. (same n).0 ((were.seen n).0 is), λ now. (were.seen n).1 ((same n).1 now));
  count = gaps_counted_same (IsTouchedPage s h) (IsTouchedPage s (h ++ e ∷ [])) t.count same were.count;
  few = (let few = were.few in let long = length-append h (e ∷ []) in omega arith);
}
  where
    same : (n : ℕ) → IsTouchedPage s h n ↔ IsTouchedPage s (h ++ e ∷ []) n
    same n = (touched_longer s h e n, λ now. elim (touched_cases s h e n now) [ inl old ↦ old | inr x ↦ absurd (none n x) ])

-- what is accessed after an access of page n
touched_now : (s : Sizes) (h : List Event) (e : Event) (n m : ℕ) → AccessesPage s e.kind n
    → IsTouchedPage s (h ++ e ∷ []) m ↔ (IsTouchedPage s h m ⊎ (n ≡ m))
touched_now s h e n m x = (
  λ now. elim (touched_cases s h e m now) [ inl old ↦ inl old | inr y ↦ inr (one_page s e.kind n m x y) ],
  λ both. elim both [
    | inl old ↦ touched_longer s h e m old
    | inr is ↦ subst (IsTouchedPage s (h ++ e ∷ [])) is (touched_last s h e n x)
  ],
)

-- after an access of page n, which is marked
pub touched_access : (s : Sizes) (h : List Event) (e : Event) (old new : TouchedPages) (n : ℕ) → AccessesPage s e.kind n
    → IsPageMarked old new n → AreTouchedPages s h old → AreTouchedPages s (h ++ e ∷ []) new
touched_access s h e old new n x marked were = record {
  room = marked.room ∙ were.room;
  seen = λ m. (there m, back m);
  count = elim marked.count [
    | inl was ↦ subst (HasPageImageCount (IsTouchedPage s (h ++ e ∷ []))) (sym was.1)
        (gaps_counted_same (IsTouchedPage s h) (IsTouchedPage s (h ++ e ∷ [])) old.count (same ((were.seen n).0 was.0)) were.count)
    | inr first ↦ subst (HasPageImageCount (IsTouchedPage s (h ++ e ∷ []))) (sym first.1)
        (value_count_joined (IsTouchedPage s h) (λ m. n ≡ m) (IsTouchedPage s (h ++ e ∷ [])) old.count 1
        (λ m t is. first.0 ((were.seen n).1 (subst (IsTouchedPage s h) (sym is) t))) (λ m. touched_now s h e n m x) were.count
        (value_count_one (λ m. n ≡ m) n refl (λ m is. is)))
  ];
  few = (let few = were.few in
      let long = length-append h (e ∷ []) in
      let more : new.count ≤ old.count + 1 = elim marked.count [ inl was ↦ omega (arith, was.1) | inr first ↦ omega (arith, first.1) ] in
      omega arith);
}
  where
    there : (m : ℕ) → slice_get new.seen.items m ≡ Some true → IsTouchedPage s (h ++ e ∷ []) m
    there m is = elim (eqb_tells m n) [
      | inl same ↦ subst (IsTouchedPage s (h ++ e ∷ [])) (sym same.1) (touched_last s h e n x)
      | inr other ↦ touched_longer s h e m ((were.seen m).0 (sym (marked.others m other.1) ∙ is))
    ]

    back : (m : ℕ) → IsTouchedPage s (h ++ e ∷ []) m → slice_get new.seen.items m ≡ Some true
    back m now = elim (eqb_tells m n) [
      | inl same ↦ ap (slice_get new.seen.items) same.1 ∙ marked.now
      | inr other ↦ marked.others m other.1 ∙ (were.seen m).1 (elim ((touched_now s h e n m x).0 now) [
        | inl old ↦ old
        | inr is ↦ absurd (other.1 (sym is))
      ])
    ]

    same : IsTouchedPage s h n → (m : ℕ) → IsTouchedPage s h m ↔ IsTouchedPage s (h ++ e ∷ []) m
    same had m = (
      touched_longer s h e m,
      λ now. elim ((touched_now s h e n m x).0 now) [
        | inl old ↦ old
        | inr is ↦ subst (IsTouchedPage s h) is had
      ],
    )
