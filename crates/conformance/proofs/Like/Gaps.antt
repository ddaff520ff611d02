-- Histories that are alike: a copy lacks the same in both, and counts it the same.
use Rattle.std.proofs.Common.{ℕ, ◌≡◌, ◌≤◌, inl, inr, List, Some, refl, sym, ap, ap₂, ◌∙◌, arith, take}
use Rattle.base.proofs.OnceWithout.{once_le}
use Rattle.journal.specs.declared.event.Event.{Event}
use Rattle.journal.specs.declared.event.Kind.{Kind}
use Rattle.journal.specs.declared.event.Kind.TheVariants.{Load, Store, Fetch}
use Rattle.journal.specs.BroughtCopy.{BroughtCopyHasNoGap}
use Rattle.journal.specs.DidEvent.{event}
use Rattle.journal.specs.Events.{event_closes}
use Rattle.journal.specs.PageImages.{FetchesPageImage, GapCounts, HasPageImageCount, InGap, IsOwnPlaceOfPageImage, StoredInGapOfPageImage, StoresToPageImage}
use Rattle.journal.specs.Pasts.{InPast}
use Rattle.journal.specs.Sizes.{Sizes}
use Rattle.journal.specs.WellFormed.{Does}
use Rattle.journal.proofs.Missing.GapsCounted.{gaps_counted_same}
use Rattle.conformance.specs.Like.{like_without_value, SameButValues}
use Rattle.conformance.proofs.Like.Order.{like_order_before}
use Rattle.conformance.proofs.Like.Places.{like_place_count, like_place_does, like_place_at, like_place_front}

-- what is like a store is one at its address
like_gap_store : (k : Kind) (a : ℕ) → like_without_value k ≡ Store a 0 → (v : ℕ) × (k ≡ Store a v)
like_gap_store (Load b v) a e = absurd (let other : Load b 0 ≡ Store a 0 = e in cc)
like_gap_store (Store b v) a e =
    let both : Store b 0 ≡ Store a 0 = e in
    let same : b ≡ a = cc in
    (v, ap (λ c. Store c v) same)
like_gap_store _ a e = absurd (cc)

like_gap_store_at : (h g : List Event) (i p a v : ℕ) → SameButValues h g → Does h i p (Store a v) → (w : ℕ) × Does g i p (Store a w)
like_gap_store_at h g i p a v like does =
    let there = like_place_at h g i (event p (Store a v)) like does in
    let found = like_gap_store there.event.kind a (sym there.like.kinds) in
    let same : there.event ≡ event p (Store a found.0) = ap₂ event (sym there.like.processors) found.1 in
    (found.0, there.at ∙ ap Some same)

like_gap_stores : {s : Sizes} {h g : List Event} {n i : ℕ} → SameButValues h g → StoresToPageImage s h n i → StoresToPageImage s g n i
like_gap_stores {h = h} {g = g} {i = i} like x =
    let there = like_gap_store_at h g i x.by x.address x.value like x.does in
    record { by = x.by; address = x.address; value = there.0; does = there.1; in_page = x.in_page }

like_gap_own_place : (h g : List Event) (p i : ℕ) → SameButValues h g → IsOwnPlaceOfPageImage h p i → IsOwnPlaceOfPageImage g p i
like_gap_own_place h g p i like x =
    let there = like_place_at h g i x.0 like x.1 in (there.event, there.at, sym there.like.processors ∙ x.2)

like_gap_past : {h g : List Event} {p i : ℕ} → SameButValues h g → InPast h p i → InPast g p i
like_gap_past {h = h} {g = g} like x =
    let there = like_place_at h g x.own x.event like x.at in
    record {
      own = x.own;
      event = there.event;
      at = there.at;
      mine = sym there.like.processors ∙ x.mine;
      reaches = elim x.reaches [ inl is ↦ inl is | inr before ↦ inr (like_order_before h g like before) ];
    }

like_gap_fetches : (h g : List Event) (k p n : ℕ) → SameButValues h g → FetchesPageImage h k p n → FetchesPageImage g k p n
like_gap_fetches h g k p n like x =
    (x.0, x.1, x.2, like_place_does h g k p (Fetch x.0 n x.1 x.2) like refl x.3)

like_gap : {s : Sizes} {h g : List Event} {p n i : ℕ} → SameButValues h g → InGap s h p n i → InGap s g p n i
like_gap {h = h} {g = g} {p = p} {n = n} {i = i} like x = record {
  store = like_gap_stores like x.store;
  others = λ own. x.others (like_gap_own_place g h p i (sym like) own);
  past = like_gap_past like x.past;
  new = λ k fetch before. x.new k (like_gap_fetches g h k p n (sym like) fetch) (like_order_before g h (sym like) before);
}

-- what lacks nothing in the one lacks nothing in the other
pub like_gap_none : {s : Sizes} {h g : List Event} {p n : ℕ} → SameButValues h g → BroughtCopyHasNoGap s h p n → BroughtCopyHasNoGap s g p n
like_gap_none like none i gap = none i (like_gap (sym like) gap)

like_gap_closing_valueless : (k : Kind) → event_closes (like_without_value k) ≡ event_closes k
like_gap_closing_valueless (Load a v) = refl
like_gap_closing_valueless (Store a v) = refl
like_gap_closing_valueless _ = refl

like_gap_stored : {s : Sizes} {h g : List Event} {p n : ℕ} → SameButValues h g → (x : ℕ × ℕ × ℕ) → StoredInGapOfPageImage s h p n x
    → StoredInGapOfPageImage s g p n x
like_gap_stored {h = h} {g = g} like x stored =
    let there = like_gap_store_at h g stored.0 x.0 x.2 stored.1 like stored.2 in
    let interval = like_place_count event_closes (take stored.0 h) (take stored.0 g) x.0 like_gap_closing_valueless (like_place_front h g stored.0 like) in
    (stored.0, there.0, there.1, like_gap like stored.3, sym interval ∙ stored.4)

-- it counts the same
pub like_gap_counts : {s : Sizes} {h g : List Event} {p n w r d : ℕ} → SameButValues h g → GapCounts s h p n w r d
    → GapCounts s g p n w r d
like_gap_counts {s = s} {h = h} {g = g} {p = p} {n = n} {w = w} {r = r} {d = d} like c = record {
  writers_are =
      gaps_counted_same (λ (q : ℕ). (k : ℕ) × (a : ℕ) × StoredInGapOfPageImage s h p n (q, k, a))
      (λ (q : ℕ). (k : ℕ) × (a : ℕ) × StoredInGapOfPageImage s g p n (q, k, a)) w
      (λ q. (λ x. (x.0, x.1, there (q, x.0, x.1) x.2), λ x. (x.0, x.1, back (q, x.0, x.1) x.2))) c.writers_are;
  records_are =
      gaps_counted_same (λ (x : ℕ × ℕ). (a : ℕ) × StoredInGapOfPageImage s h p n (x.0, x.1, a))
      (λ (x : ℕ × ℕ). (a : ℕ) × StoredInGapOfPageImage s g p n (x.0, x.1, a)) r
      (λ x. (λ y. (y.0, there (x.0, x.1, y.0) y.1), λ y. (y.0, back (x.0, x.1, y.0) y.1))) c.records_are;
  words_are = gaps_counted_same (StoredInGapOfPageImage s h p n) (StoredInGapOfPageImage s g p n) d (λ x. (there x, back x)) c.words_are;
}
  where
    there : (x : ℕ × ℕ × ℕ) → StoredInGapOfPageImage s h p n x → StoredInGapOfPageImage s g p n x
    there = like_gap_stored like

    back : (x : ℕ × ℕ × ℕ) → StoredInGapOfPageImage s g p n x → StoredInGapOfPageImage s h p n x
    back = like_gap_stored (sym like)

-- values have no two counts
like_gap_image_count_le : {A : Type 0} {P : A → Type 0} {m n : ℕ} → HasPageImageCount P m → HasPageImageCount P n → m ≤ n
like_gap_image_count_le x y =
    let le = once_le x.list y.list x.once (λ z has. (y.each z).1 ((x.each z).0 has)) in
    let first = x.length_is in
    let second = y.length_is in
    omega (arith, le, first, second)

like_gap_image_count_one : {A : Type 0} {P : A → Type 0} {m n : ℕ} → HasPageImageCount P m → HasPageImageCount P n → m ≡ n
like_gap_image_count_one x y =
    let up = like_gap_image_count_le x y in
    let down = like_gap_image_count_le y x in
    omega (arith, up, down)

-- so two fetches that count the same gap are the same
pub like_gap_fetch_counts_same : {s : Sizes} {h : List Event} {p n w r d w' r' d' : ℕ} → GapCounts s h p n w r d → GapCounts s h p n w' r' d'
    → Fetch w n r d ≡ Fetch w' n r' d'
like_gap_fetch_counts_same {n = n} x y =
    let writers = like_gap_image_count_one x.writers_are y.writers_are in
    let records = like_gap_image_count_one x.records_are y.records_are in
    let words = like_gap_image_count_one x.words_are y.words_are in
    cc
