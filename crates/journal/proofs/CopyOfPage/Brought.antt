-- One fact for all copies of a page, valid or stale, and what each event does to it.
use Rattle.std.proofs.Common.{ℕ, ◌≡◌, ◌≢◌, ◌⊎◌, ◌↔◌, ◌/◌, inl, inr, List, [], ◌∷◌, ◌++◌, replicate, length, refl, sym, ap, subst, ◌∙◌}
use Rattle.std.proofs.lemmas.Option.{none-some}
use Rattle.journal.specs.declared.event.Event.{Event}
use Rattle.journal.specs.declared.event.Kind.TheVariants.{Store, Fetch}
use Rattle.journal.specs.DidEvent.{event}
use Rattle.journal.specs.Sizes.{Sizes}
use Rattle.journal.specs.Events.{EventAt}
use Rattle.journal.specs.HappensBeforeEdges.{HappensBefore}
use Rattle.journal.specs.Pasts.{InPast}
use Rattle.journal.specs.PageImages.{StoresToPageImage, InGap}
use Rattle.journal.specs.BroughtCopy.{BroughtToCopy, IsBroughtCopy, BroughtCopyHasNoGap, IsBroughtCopyComplete}
use Rattle.base.proofs.SlicesAndCounts.{slice_push_cases}
use Rattle.base.proofs.JoinedLists.{joined_list_has-nil, joined_list_in_order-nil, joined_list_has_or_not}
use Rattle.journal.proofs.Order.EventPlacesAndCounts.{event_place_longer, event_place_at_end}
use Rattle.journal.proofs.Order.HappensBefore.{happens_before_begins_within, happens_before_longer, happens_before_shorter}
use Rattle.journal.proofs.Order.IntoPast.{into_past_back, into_past_within, into_past_own}
use Rattle.journal.proofs.CopyOfPage.PageStores.{page_stores_shorter, page_stores_by_event, page_store_event_is}
use Rattle.journal.proofs.CopyOfPage.LawfulImages.{lawful_image_kept}

-- what was brought stays so
pub brought_longer : (j es : List Event) (p n i : ℕ) → BroughtToCopy j p n i → BroughtToCopy (j ++ es) p n i
brought_longer j es p n i (inl x) = inl (x.0, event_place_longer j es i x.0 x.1, x.2)
brought_longer j es p n i (inr x) =
    let f = x.1 in
    inr (x.0, (f.0, f.1, f.2, event_place_longer j es x.0 (event p (Fetch f.0 n f.1 f.2)) f.3), happens_before_longer j es x.2)

-- what was brought is in the past
pub brought_past : (j : List Event) (p n i : ℕ) → BroughtToCopy j p n i → InPast j p i
brought_past j p n i (inl x) = into_past_own j p i x.0 x.1 x.2
brought_past j p n i (inr x) =
    let f = x.1 in
    into_past_back j p i x.0 x.2 (into_past_own j p x.0 (event p (Fetch f.0 n f.1 f.2)) f.3 refl)

-- what was brought to a store of the page by one more event
pub brought_push : (s : Sizes) (j : List Event) (e : Event) (p n i : ℕ)
    → ((w r d : ℕ) → e ≢ (event p (Fetch w n r d))) → StoresToPageImage s (j ++ e ∷ []) n i → BroughtToCopy (j ++ e ∷ []) p n i
    → BroughtToCopy j p n i ⊎ ((i ≡ length j) × (e.processor ≡ p))
brought_push s j e p n i no_fetch x (inl m) = elim (slice_push_cases j e i m.0 m.1) [
  | inl h ↦ inl (inl (m.0, h.1, m.2))
  | inr h ↦ inr (h.0, ap (λ (f : Event). f.processor) h.1 ∙ m.2)
]
brought_push s j e p n i no_fetch x (inr m) =
    let f = m.1 in
    elim (slice_push_cases j e m.0 (event p (Fetch f.0 n f.1 f.2)) f.3) [
      | inl h ↦ inl (inr (m.0, (f.0, f.1, f.2, h.1), happens_before_shorter j (e ∷ []) h.0 m.2))
      | inr h ↦ absurd (no_fetch f.0 f.1 f.2 h.1)
    ]

-- the gap is the stores of the past that were not brought
pub brought_gap_is : (s : Sizes) (j : List Event) (p n i : ℕ)
    → InGap s j p n i ↔ (InPast j p i × StoresToPageImage s j n i × (BroughtToCopy j p n i → ⊥))
brought_gap_is s j p n i = (
  λ g. (g.past, g.store, λ b. elim b [ inl m ↦ g.others m | inr f ↦ g.new f.0 f.1 f.2 ]),
  λ x. record
      { store = x.1; others = λ m. x.2 (inl m); past = x.0; new = λ k f before. x.2 (inr (k, f, before)) },
)

-- a copy that lacks nothing has each store of the past
pub brought_is_complete : (s : Sizes) (j : List Event) (p n : ℕ) (page : List ℕ) → BroughtCopyHasNoGap s j p n → IsBroughtCopy s j p n page
    → IsBroughtCopyComplete s j p n
brought_is_complete s j p n page none copy i x past = elim (joined_list_has_or_not copy.image.order i) [
  | inl h ↦ ((copy.image.each i).0 h).0
  | inr away ↦ absurd (none i ((brought_gap_is s j p n i).1 (past, x, λ b. away ((copy.image.each i).1 (b, x)))))
]

-- at the start each copy is the zero page
pub brought_start : (s : Sizes) (p n : ℕ) → IsBroughtCopy s [] p n (replicate s.words 0)
brought_start s p n = record {
  image = record {
    order = [];
    each =
        λ i. (λ h. absurd (joined_list_has-nil i h), λ x. absurd (none-some (event x.1.by (Store x.1.address x.1.value)) x.1.does));
    once = joined_list_in_order-nil (λ (a b : ℕ). a ≢ b);
    extends = joined_list_in_order-nil (λ i k. ¬ HappensBefore [] k i);
    gives = refl;
  };
  closed = λ i k x y b before. absurd (none-some (event x.by (Store x.address x.value)) x.does);
}

-- an event that is neither p's store to the page nor p's fetch of it keeps p's copy
pub brought_kept : (s : Sizes) (j : List Event) (e : Event) (p n : ℕ) (page : List ℕ)
    → ((a v : ℕ) → a / s.words ≡ n → e ≢ (event p (Store a v))) → ((w r d : ℕ) → e ≢ (event p (Fetch w n r d)))
    → IsBroughtCopy s j p n page → IsBroughtCopy s (j ++ e ∷ []) p n page
brought_kept s j e p n page no_store no_fetch copy = record {
  image =
      lawful_image_kept copy.image (e ∷ []) (BroughtToCopy (j ++ e ∷ []) p n) (λ i x. brought_longer j (e ∷ []) p n i)
      (λ i x b. (old i x b, into_past_within j p i (brought_past j p n i (old i x b))));
  closed = λ i k x y b before.
      let o = old i x b in
      let within = into_past_within j p i (brought_past j p n i o) in
      let h = happens_before_shorter j (e ∷ []) within before in
      brought_longer j (e ∷ []) p n k (copy.closed i k (page_stores_shorter s j (e ∷ []) n i within x)
      (page_stores_shorter s j (e ∷ []) n k (happens_before_begins_within j h) y) o h);
}
  where
    old : (i : ℕ) → StoresToPageImage s (j ++ e ∷ []) n i → BroughtToCopy (j ++ e ∷ []) p n i → BroughtToCopy j p n i
    old i x b = elim (brought_push s j e p n i no_fetch x b) [
      | inl o ↦ o
      | inr m ↦ (let P : ℕ → Type 0 = λ k. EventAt (j ++ e ∷ []) k e in
          let at = page_stores_by_event s (j ++ e ∷ []) n i e (subst P (sym m.0) (event_place_at_end j e)) x in
          absurd (no_store x.address x.value x.in_page (page_store_event_is e p (Store x.address x.value) m.1 at.1)))
    ]
