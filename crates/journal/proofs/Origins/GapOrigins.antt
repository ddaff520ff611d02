-- The stores of a gap, with the places at which their intervals are closed: where the gap stays, so do these, and they are
-- what a fetch brings.
use Rattle.std.proofs.Common.{refl, ℕ, ◌≡◌, ◌<◌, ◌≤◌, ◌↔◌, ◌⊎◌, ◌/◌, ◌%◌, inl, inr, List, ◌++◌, length, take, drop, sym, ap, subst, ◌∙◌, le_of_lt, true≢false, arith}
use Rattle.std.proofs.lemmas.List.{take-append-drop}
use Rattle.journal.specs.declared.event.Event.{Event}
use Rattle.journal.specs.declared.event.Kind.TheVariants.{Store}
use Rattle.journal.specs.DidEvent.{event}
use Rattle.journal.specs.Sizes.{Sizes}
use Rattle.journal.specs.Events.{event_interval_at, event_closes}
use Rattle.journal.specs.WellFormed.{Does}
use Rattle.journal.specs.Times.{ClosesAt}
use Rattle.journal.specs.ClosingPlace.{IsClosingPlace}
use Rattle.journal.specs.PageImages.{FetchesPageImage, InGap}
use Rattle.journal.specs.OriginWrites.{IsOriginWriteBrought, OriginWritesBefore}
use Rattle.journal.specs.NewestInGap.{IsNewestInGap}
use Rattle.journal.specs.CopyOrigins.{IsCopyOriginInGap, IsLastCopyOriginInGap}
use Rattle.journal.proofs.Order.EventPlacesAndCounts.{event_place_inside, event_place_longer, event_place_shorter, event_count-front}
use Rattle.journal.proofs.CopyOfPage.PageStores.{page_store_same, page_store_same_address, page_stores_within}
use Rattle.journal.proofs.Missing.MissingGaps.{missing_gaps_apart}
use Rattle.journal.proofs.Times.IntervalNumbers.{interval_number_closes, interval_number_once, interval_number_closed}

-- q's store to a at place i, and the place at which its interval is closed
record GapOriginClosed (j : List Event) (a q i c : ℕ) : Type 0 where
  value : ℕ
  does : Does j i q (Store a value)
  closes : ClosesAt j q c
  interval : event_interval_at j q c ≡ event_interval_at j q i

gap_origin_closes_longer : (h t : List Event) (q c : ℕ) → ClosesAt h q c → ClosesAt (h ++ t) q c
gap_origin_closes_longer h t q c x =
    record { kind = x.kind; does = event_place_longer h t c (event q x.kind) x.does; closes = x.closes }

gap_origin_number : (h t : List Event) (q i : ℕ) → i < length h → event_interval_at (h ++ t) q i ≡ event_interval_at h q i
gap_origin_number h t q i within = event_count-front event_closes h t i q (le_of_lt within)

gap_origin_closed_longer : {h : List Event} {a q i c : ℕ} (t : List Event) → GapOriginClosed h a q i c
    → GapOriginClosed (h ++ t) a q i c
gap_origin_closed_longer {h} {a} {q} {i} {c} t x =
    let here = event_place_inside h i (event q (Store a x.value)) x.does in
    let there = event_place_inside h c (event q x.closes.kind) x.closes.does in
    record {
      value = x.value;
      does = event_place_longer h t i (event q (Store a x.value)) x.does;
      closes = gap_origin_closes_longer h t q c x.closes;
      interval = gap_origin_number h t q c there ∙ x.interval ∙ sym (gap_origin_number h t q i here);
    }

-- a store in a gap is closed within the journal
gap_origin_closed_shorter : {s : Sizes} {h : List Event} {p n a q i c : ℕ} (t : List Event) → InGap s h p n i
    → GapOriginClosed (h ++ t) a q i c → GapOriginClosed h a q i c
gap_origin_closed_shorter {s} {h} {p} {n} {a} {q} {i} {c} t gap x = record {
  value = x.value;
  does = does;
  closes = subst (ClosesAt h q) (sym same) end.1;
  interval = subst (λ (d : ℕ). event_interval_at h q d ≡ event_interval_at h q i) (sym same) end.2;
}
  where
    within : i < length h
    within = page_stores_within s h n i gap.store

    does : Does h i q (Store a x.value)
    does = event_place_shorter h t i (event q (Store a x.value)) within x.does

    end : (d : ℕ) × ClosesAt h q d × (event_interval_at h q d ≡ event_interval_at h q i)
    end = interval_number_closed h p q i (Store a x.value) does (missing_gaps_apart gap does) gap.past

    same : c ≡ end.0
    same =
        interval_number_once (h ++ t) q c end.0 x.closes (gap_origin_closes_longer h t q end.0 end.1)
        (x.interval ∙ gap_origin_number h t q i within ∙ sym end.2
        ∙ sym (gap_origin_number h t q end.0 (event_place_inside h end.0 (event q end.1.kind) end.1.does)))

-- where the gap stays as the journal goes on, so do its stores
pub gap_origins_same : {s : Sizes} {h : List Event} {p a : ℕ} (t : List Event)
    → ((i : ℕ) → InGap s (h ++ t) p (a / s.words) i ↔ InGap s h p (a / s.words) i) → (q i c : ℕ)
    → IsCopyOriginInGap s (h ++ t) p a q i c ↔ IsCopyOriginInGap s h p a q i c
gap_origins_same {s} {h} {p} {a} t same q i c = (
  (λ x. let gap = (same i).0 x.gap in
      let old =
      gap_origin_closed_shorter {a = a} {q = q} {c = c} t gap
      (record { value = x.value; does = x.does; closes = x.closes; interval = x.interval }) in
      record { value = old.value; does = old.does; gap = gap; closes = old.closes; interval = old.interval }),
  (λ x. let new =
      gap_origin_closed_longer {h = h} {a = a} {q = q} {i = i} {c = c} t
      (record { value = x.value; does = x.does; closes = x.closes; interval = x.interval }) in
      record { value = new.value; does = new.does; gap = (same i).1 x.gap; closes = new.closes; interval = new.interval }),
)

-- and the last of them
pub gap_last_origin_longer : {s : Sizes} {h : List Event} {p a v : ℕ} (t : List Event)
    → ((i : ℕ) → InGap s (h ++ t) p (a / s.words) i ↔ InGap s h p (a / s.words) i) → IsLastCopyOriginInGap s h p a v
    → IsLastCopyOriginInGap s (h ++ t) p a v
gap_last_origin_longer {s} {h} {p} {a} {v} t same x = record {
  place = x.place;
  by = x.by;
  closed = x.closed;
  stores = event_place_longer h t x.place (event x.by (Store a v)) x.stores;
  gap = (gap_origins_same t same x.by x.place x.closed).1 x.gap;
  last = λ q i c g. x.last q i c ((gap_origins_same t same q i c).0 g);
}

-- what a fetch brings is in the gap before it
pub gap_origin_of_brought : {s : Sizes} {j : List Event} {p a m q i c : ℕ} → IsOriginWriteBrought s j p a m q i c
    → IsCopyOriginInGap s (take m j) p a q i c
gap_origin_of_brought {s} {j} {p} {a} {m} {q} {i} {c} b =
    let whole : GapOriginClosed j a q i c =
    record { value = b.value; does = b.does; closes = b.closes; interval = b.interval } in
    let split : GapOriginClosed (take m j ++ drop m j) a q i c =
    subst (λ (xs : List Event). GapOriginClosed xs a q i c) (sym (take-append-drop m j)) whole in
    let old = gap_origin_closed_shorter (drop m j) b.gap split in
    record { value = old.value; does = old.does; gap = b.gap; closes = old.closes; interval = old.interval }

-- and a fetch brings that
pub gap_origin_brought : {s : Sizes} {j : List Event} {p a m q i c : ℕ} → FetchesPageImage j m p (a / s.words)
    → IsCopyOriginInGap s (take m j) p a q i c → IsOriginWriteBrought s j p a m q i c
gap_origin_brought {s} {j} {p} {a} {m} {q} {i} {c} fetches x =
    let front : GapOriginClosed (take m j) a q i c =
    record { value = x.value; does = x.does; closes = x.closes; interval = x.interval } in
    let whole : GapOriginClosed j a q i c =
    subst (λ (xs : List Event). GapOriginClosed xs a q i c) (take-append-drop m j)
    (gap_origin_closed_longer (drop m j) front) in
    record {
      fetches = fetches;
      value = whole.value;
      does = whole.does;
      gap = x.gap;
      closes = whole.closes;
      interval = whole.interval;
    }

-- the newest store of the gap at an address's offset is that which a fetch applies last
pub gap_newest_origin : {s : Sizes} {j : List Event} {p a v : ℕ} → IsNewestInGap s j p (a / s.words) (a % s.words) v
    → IsLastCopyOriginInGap s j p a v
gap_newest_origin {s} {j} {p} {a} {v} x = record {
  place = x.place;
  by = x.by;
  closed = end.0;
  stores = stores;
  gap = record { value = v; does = stores; gap = x.gap; closes = end.1; interval = end.2 };
  last = λ q i c g later.
      no_later i c (x.last i q a g.value c end.0 g.does refl g.gap (closed q i c g.value g.does g.closes g.interval)
      (closed x.by x.place end.0 v stores end.1 end.2)) later;
}
  where
    same : x.address ≡ a
    same =
        page_store_same_address s.words x.address a
        (ap (λ (b : ℕ). b / s.words) (page_store_same j x.place x.stores x.gap.store.does).1 ∙ x.gap.store.in_page) x.offset

    stores : Does j x.place x.by (Store a v)
    stores = subst (λ (b : ℕ). Does j x.place x.by (Store b v)) same x.stores

    end : (c : ℕ) × ClosesAt j x.by c × (event_interval_at j x.by c ≡ event_interval_at j x.by x.place)
    end = interval_number_closed j p x.by x.place (Store a v) stores (missing_gaps_apart x.gap stores) x.gap.past

    closed : (q i c w : ℕ) → Does j i q (Store a w) → ClosesAt j q c → event_interval_at j q c ≡ event_interval_at j q i
        → IsClosingPlace j i c
    closed q i c w does closes number = interval_number_closes j q i c (Store a w) does (λ h. true≢false (sym h)) closes (sym number)

    no_later : (i c : ℕ) → (c < end.0) ⊎ ((c ≡ end.0) × (i ≤ x.place)) → ¬ OriginWritesBefore x.place end.0 i c
    no_later i c (inl less) (inl later) = omega arith
    no_later i c (inl less) (inr later) = let same_end = later.0 in omega arith
    no_later i c (inr at) (inl later) = let same_end = at.0 in omega arith
    no_later i c (inr at) (inr later) = let up = at.1 in let down = later.1 in omega arith
