-- What keeps an image, and a lawful copy.
use Rattle.std.proofs.Common.{ℕ, ◌≡◌, ◌≢◌, ◌<◌, ◌⊎◌, ◌↔◌, ◌/◌, ◌%◌, inl, inr, List, [], ◌∷◌, ◌++◌, Option, Some, replicate, slice_get, slice_set, length, Bool, true, false, ◌==◌, cond, None, eqb-true, eq-eqb, true≢false, arith, refl, sym, ap, subst, ◌∙◌}
use Rattle.journal.specs.declared.event.Event.{Event}
use Rattle.journal.specs.declared.event.Kind.{Kind}
use Rattle.journal.specs.declared.event.Kind.TheVariants.{Store}
use Rattle.journal.specs.DidEvent.{event}
use Rattle.journal.specs.Sizes.{Sizes}
use Rattle.journal.specs.Events.{EventAt, event_takes}
use Rattle.journal.specs.HappensBeforeEdges.{HappensBefore}
use Rattle.journal.specs.Pasts.{InPast}
use Rattle.journal.specs.PageImages.{StoresToPageImage, page_image_write, page_image_after, IsImage, Lawful}
use Rattle.journal.specs.Blocks.{block_write}
use Rattle.base.specs.LastWrite.{wrote}
use Rattle.base.specs.InOrderOnce.{Has, InOrder, IsOnce}
use Rattle.base.proofs.JoinedLists.{joined_list_has-nil, joined_list_has-cons, joined_list_has-append, joined_list_in_order-append, joined_list_in_order_single, joined_list_has_or_not}
use Rattle.base.proofs.OnceWithout.{once-append}
use Rattle.base.proofs.LastWritten.{written-append}
use Rattle.journal.proofs.Order.EventPlacesAndCounts.{event_place_at_end}
use Rattle.journal.proofs.Order.HappensBefore.{happens_before_shorter}
use Rattle.journal.proofs.Order.IntoPast.{into_past_back, into_past_within, into_past_longer, into_past_own_push, into_past_others}
use Rattle.journal.proofs.CopyOfPage.PageStores.{page_stores_longer, page_stores_shorter, page_stores_within, page_stores_to, page_stores_by_event, page_stores_after_longer}

-- an image stays one, of any places that have the same stores to the page
pub lawful_image_kept : {s : Sizes} {j : List Event} {among : ℕ → Type 0} {n : ℕ} {page : List ℕ} → IsImage s j among n page
    → (es : List Event) (among' : ℕ → Type 0) → ((i : ℕ) → StoresToPageImage s j n i → among i → among' i)
    → ((i : ℕ) → StoresToPageImage s (j ++ es) n i → among' i → among i × (i < length j))
    → IsImage s (j ++ es) among' n page
lawful_image_kept {s} {j} {among} {n} {page} image es among' on back = record {
  order = image.order;
  each = λ i. (
    λ h. let x = (image.each i).0 h in (on i x.1 x.0, page_stores_longer s j es n i x.1),
    λ x. let y = back i x.1 x.0 in (image.each i).1 (y.0, page_stores_shorter s j es n i y.1 x.1),
  );
  once = image.once;
  extends = λ x y i k less at to before. image.extends x y i k less at to (happens_before_shorter j es (within i (x, at)) before);
  gives = image.gives ∙ sym (page_stores_after_longer s j es (replicate s.words 0) image.order within);
}
  where
    within : (i : ℕ) → Has image.order i → i < length j
    within i h = page_stores_within s j n i ((image.each i).0 h).1

-- the places that an image of some places lacks to be one of more, none of which comes before those
pub record FillsLawfulImage (s : Sizes) (j : List Event) (among among' : ℕ → Type 0) (n : ℕ) (new : List ℕ) : Type 0 where
  pub on : (i : ℕ) → StoresToPageImage s j n i → among i → among' i
  pub closed : (i k : ℕ) → StoresToPageImage s j n i → StoresToPageImage s j n k → among i → HappensBefore j k i → among k
  pub each : (i : ℕ) → Has new i ↔ (among' i × StoresToPageImage s j n i × (among i → ⊥))
  pub once : IsOnce new
  pub extends : InOrder (λ i k. ¬ HappensBefore j k i) new

-- the stores at these places make it one
pub lawful_image_more : {s : Sizes} {j : List Event} {among among' : ℕ → Type 0} {n : ℕ} {page new : List ℕ}
    → IsImage s j among n page → FillsLawfulImage s j among among' n new → IsImage s j among' n (page_image_after s j page new)
lawful_image_more {s} {j} {among} {among'} {n} {page} {new} image fills = record {
  order = image.order ++ new;
  each =
      λ i. (
        λ h. there i ((joined_list_has-append image.order new i).0 h),
        λ x. (joined_list_has-append image.order new i).1
            (back i x.0 x.1 (joined_list_has_or_not image.order i)),
      );
  once = once-append image.order new image.once fills.once (λ i h m. ((fills.each i).0 m).2 ((image.each i).0 h).0);
  extends =
      joined_list_in_order-append (λ i k. ¬ HappensBefore j k i) image.order new image.extends fills.extends
      (λ i k h m before. let x = (image.each i).0 h in
      let y = (fills.each k).0 m in y.2 (fills.closed i k x.1 y.1 x.0 before));
  gives =
      ap (λ (ws : List ℕ). page_image_after s j ws new) image.gives
      ∙ sym (written-append (λ (i : ℕ). page_image_write s (slice_get j i)) (replicate s.words 0) image.order new);
}
  where
    there : (i : ℕ) → Has image.order i ⊎ Has new i → among' i × StoresToPageImage s j n i
    there i (inl h) = let x = (image.each i).0 h in (fills.on i x.1 x.0, x.1)
    there i (inr h) = let x = (fills.each i).0 h in (x.0, x.1)

    back : (i : ℕ) → among' i → StoresToPageImage s j n i → Has image.order i ⊎ (Has image.order i → ⊥)
        → Has image.order i ⊎ Has new i
    back i x y (inl h) = inl h
    back i x y (inr none) = inr ((fills.each i).1 (x, y, λ z. none ((image.each i).1 (z, y))))

-- a copy stays lawful where the events bring its processor no store to the page
pub lawful_image_on : (s : Sizes) (j es : List Event) (p n : ℕ) (page : List ℕ)
    → ((i : ℕ) → StoresToPageImage s (j ++ es) n i → InPast (j ++ es) p i → InPast j p i) → Lawful s j p n page
    → Lawful s (j ++ es) p n page
lawful_image_on s j es p n page nothing lawful =
    lawful_image_kept lawful es (InPast (j ++ es) p) (λ i x. into_past_longer j es p i)
    (λ i x past. (nothing i x past, into_past_within j p i (nothing i x past)))

-- others' events keep it
pub lawful_image_others : (s : Sizes) (j es : List Event) (p n : ℕ) (page : List ℕ)
    → ((k : ℕ) (e : Event) → EventAt es k e → e.processor ≢ p) → Lawful s j p n page → Lawful s (j ++ es) p n page
lawful_image_others s j es p n page away = lawful_image_on s j es p n page (λ i x. (into_past_others j es p i away).0)

-- an own event that takes nothing and stores nothing in the page keeps it
pub lawful_image_quiet : (s : Sizes) (j : List Event) (e : Event) (n : ℕ) (page : List ℕ) → event_takes e.kind ≡ false
    → ((a v : ℕ) → e.kind ≡ Store a v → a / s.words ≢ n) → Lawful s j e.processor n page
    → Lawful s (j ++ e ∷ []) e.processor n page
lawful_image_quiet s j e n page quiet elsewhere = lawful_image_on s j (e ∷ []) e.processor n page nothing
  where
    nothing : (i : ℕ) → StoresToPageImage s (j ++ e ∷ []) n i → InPast (j ++ e ∷ []) e.processor i → InPast j e.processor i
    nothing i x past = elim ((into_past_own_push j e i quiet).0 past) [
      | inl y ↦ y
      | inr is ↦ (let P : ℕ
          → Type 0 = λ m. EventAt (j ++ e ∷ []) m e in absurd (elsewhere x.address x.value
          (page_stores_by_event s (j ++ e ∷ []) n i e (subst P (sym is) (event_place_at_end j e)) x).1 x.in_page))
    ]

-- what is new to the past by an own store: its place
lawful_image_store_is_new : (s : Sizes) (j : List Event) (p n a v : ℕ) → a / s.words ≡ n → (i : ℕ)
    → Has (length j ∷ []) i
    ↔ (InPast (j ++ event p (Store a v) ∷ []) p i × StoresToPageImage s (j ++ event p (Store a v) ∷ []) n i
    × (InPast j p i → ⊥))
lawful_image_store_is_new s j p n a v in_page i =
    (λ h. there (elim ((joined_list_has-cons (length j) [] i).0 h) [ inl e ↦ e | inr m ↦ absurd (joined_list_has-nil i m) ]), back)
  where
    e : Event
    e = event p (Store a v)

    there : length j ≡ i → InPast (j ++ e ∷ []) p i × StoresToPageImage s (j ++ e ∷ []) n i × (InPast j p i → ⊥)
    there is =
        let P : ℕ → Type 0 = λ m. StoresToPageImage s (j ++ e ∷ []) n m in (
          (into_past_own_push j e i refl).1 (inr (sym is)),
          subst P is
              (page_stores_to s (j ++ e ∷ []) n (length j) p a v (event_place_at_end j e) in_page),
          λ old. let within = into_past_within
              j p i old in absurd (omega arith),
        )

    back : InPast (j ++ e ∷ []) p i × StoresToPageImage s (j ++ e ∷ []) n i × (InPast j p i → ⊥) → Has (length j ∷ []) i
    back x = elim ((into_past_own_push j e i refl).0 x.0) [ inl old ↦ absurd (x.2 old) | inr is ↦ (0, ap Some (sym is)) ]

-- an own store, done to the copy, keeps it lawful
pub lawful_image_store : (s : Sizes) (j : List Event) (p n : ℕ) (page : List ℕ) (a v : ℕ) → a / s.words ≡ n
    → Lawful s j p n page → Lawful s (j ++ event p (Store a v) ∷ []) p n (slice_set page (a % s.words) v)
lawful_image_store s j p n page a v in_page lawful =
    let P : Option Event → Type 0 =
    λ x. IsImage s (j ++ e ∷ []) (InPast (j ++ e ∷ []) p) n (wrote page (page_image_write s x)) in
    let now = lawful_image_more old fills in
    subst P (event_place_at_end j e) now
  where
    e : Event
    e = event p (Store a v)

    fills : FillsLawfulImage s (j ++ e ∷ []) (InPast j p) (InPast (j ++ e ∷ []) p) n (length j ∷ [])
    fills = record {
      on = λ i x. into_past_longer j (e ∷ []) p i;
      closed =
          λ i k x y past before. into_past_back j p k i (happens_before_shorter j (e ∷ []) (into_past_within j p i past) before) past;
      each = lawful_image_store_is_new s j p n a v in_page;
      once = joined_list_in_order_single (λ (x y : ℕ). x ≢ y) (length j);
      extends = joined_list_in_order_single (λ i k. ¬ HappensBefore (j ++ e ∷ []) k i) (length j);
    }

    old : IsImage s (j ++ e ∷ []) (InPast j p) n page
    old =
        lawful_image_kept lawful (e ∷ []) (InPast j p) (λ i x past. past) (λ i x past. (past, into_past_within j p i past))

-- an image of places that have the same stores to the page
pub lawful_image_among : (s : Sizes) (j : List Event) (among among' : ℕ → Type 0) (n : ℕ) (page : List ℕ)
    → ((i : ℕ) → StoresToPageImage s j n i → among i ↔ among' i) → IsImage s j among n page → IsImage s j among' n page
lawful_image_among s j among among' n page same image = record {
  order = image.order;
  each =
      λ i. (
        λ h. let x = (image.each i).0 h in
            ((same i x.1).0 x.0, x.1),
        λ x. (image.each i).1 ((same i x.1).1 x.0, x.1),
      );
  once = image.once;
  extends = image.extends;
  gives = image.gives;
}

-- an own event that takes nothing keeps a copy lawful, with what it stores in the page done to it
pub lawful_image_event : (s : Sizes) (j : List Event) (p n : ℕ) (page : List ℕ) (k : Kind) → event_takes k ≡ false
    → Lawful s j p n page → Lawful s (j ++ event p k ∷ []) p n (wrote page (block_write s n k))
lawful_image_event s j p n page (Store a v) quiet lawful = go (a / s.words == n) refl
  where
    go : (b : Bool) → (a / s.words == n) ≡ b
        → Lawful s (j ++ event p (Store a v) ∷ []) p n (wrote page (cond b (Some (a % s.words, v)) None))
    go true e = lawful_image_store s j p n page a v (eqb-true (a / s.words) n e) lawful
    go false e = lawful_image_quiet s j (event p (Store a v)) n page refl (λ b w is in_page.
        let same : a ≡ b = cc in
        let here : (a / s.words == n) ≡ true = eq-eqb (a / s.words) n (ap (λ x. x / s.words) same ∙ in_page) in
        absurd (true≢false (sym here ∙ e))) lawful
lawful_image_event s j p n page k quiet lawful = lawful_image_quiet s j (event p k) n page quiet (λ a v is. absurd (cc)) lawful
