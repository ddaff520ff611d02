-- Copies that lack nothing: what keeps them so, and what a block changes.
use Rattle.std.proofs.Common.{ℕ, ◌≢◌, ◌≤◌, ◌+◌, ◌↔◌, inl, inr, List, ◌++◌, slice_get, length, arith, sym, subst}
use Rattle.std.specs.List.{concat}
use Rattle.journal.specs.declared.event.Event.{Event}
use Rattle.journal.specs.declared.event.Kind.TheVariants.{Store, Fetch}
use Rattle.journal.specs.DidEvent.{event}
use Rattle.journal.specs.Sizes.{Sizes}
use Rattle.journal.specs.Events.{EventAt}
use Rattle.journal.specs.HappensBeforeEdges.{HappensBefore}
use Rattle.journal.specs.Pasts.{InPast}
use Rattle.journal.specs.WellFormed.{Does}
use Rattle.journal.specs.PageImages.{StoresToPageImage, page_image_write, FetchesPageImage, IsOwnPlaceOfPageImage, InGap, Lawful}
use Rattle.journal.specs.BroughtCopy.{BroughtToCopy, IsBroughtCopy, BroughtCopyHasNoGap, IsBroughtCopyComplete}
use Rattle.journal.proofs.OwnBlocks.{IsBlock}
use Rattle.base.specs.InOrderOnce.{Has, InOrder, IsOnce}
use Rattle.base.specs.AppliedRecords.{records_applied, AreRecordsOf}
use Rattle.base.proofs.SlicesAndCounts.{slice_append_cases}
use Rattle.base.proofs.RecordWrites.{record_writes_all_same}
use Rattle.journal.proofs.Order.EventPlacesAndCounts.{event_place_inside, event_place_shorter, event_place_behind}
use Rattle.journal.proofs.Order.HappensBefore.{happens_before_shorter}
use Rattle.journal.proofs.Order.IntoPast.{into_past_back, into_past_within, into_past_others}
use Rattle.journal.proofs.Order.BlockPasts.{block_past, block_pasts_reaches}
use Rattle.journal.proofs.CopyOfPage.PageStores.{page_stores_longer, page_stores_shorter}
use Rattle.journal.proofs.CopyOfPage.LawfulImages.{FillsLawfulImage, lawful_image_among, lawful_image_more}
use Rattle.journal.proofs.CopyOfPage.Brought.{brought_longer, brought_past, brought_gap_is}

-- a lawful copy is one that lacks nothing
pub complete_copy_of_lawful : (s : Sizes) (j : List Event) (p n : ℕ) (page : List ℕ) → IsBroughtCopyComplete s j p n → Lawful s j p n page
    → IsBroughtCopy s j p n page
complete_copy_of_lawful s j p n page complete lawful = record {
  image = lawful_image_among s j (InPast j p) (BroughtToCopy j p n) n page (λ i x. (complete i x, brought_past j p n i)) lawful;
  closed = λ i k x y b before. complete k y (into_past_back j p k i before (brought_past j p n i b));
}

-- a copy that lacks nothing has no gap
pub complete_copy_no_gap : (s : Sizes) (j : List Event) (p n : ℕ) → IsBroughtCopyComplete s j p n → BroughtCopyHasNoGap s j p n
complete_copy_no_gap s j p n complete i g = let x = (brought_gap_is s j p n i).0 g in x.2 (complete i x.1 x.0)

-- events that bring no store to the page
pub complete_copy_on : (s : Sizes) (j es : List Event) (p n : ℕ)
    → ((i : ℕ) → StoresToPageImage s (j ++ es) n i → InPast (j ++ es) p i → InPast j p i) → IsBroughtCopyComplete s j p n
    → IsBroughtCopyComplete s (j ++ es) p n
complete_copy_on s j es p n nothing complete i x past =
    let old = nothing i x past in
    brought_longer j es p n i (complete i (page_stores_shorter s j es n i (into_past_within j p i old) x) old)

-- others' events leave nothing out
pub complete_copy_others : (s : Sizes) (j es : List Event) (p n : ℕ) → ((k : ℕ) (e : Event) → EventAt es k e → e.processor ≢ p)
    → IsBroughtCopyComplete s j p n → IsBroughtCopyComplete s (j ++ es) p n
complete_copy_others s j es p n away = complete_copy_on s j es p n (λ i x. (into_past_others j es p i away).0)

-- a store behind j is the block's own
complete_copy_block_mine : (s : Sizes) (j block : List Event) (p n i : ℕ) → IsBlock p block → StoresToPageImage s (j ++ block) n i
    → length j ≤ i → IsOwnPlaceOfPageImage (j ++ block) p i
complete_copy_block_mine s j block p n i is x behind =
    let e : Event = event x.by (Store x.address x.value) in (
      e,
      x.does,
      elim (slice_append_cases j block i e x.does)
          [ inl h ↦ absurd (omega (arith, h.0)) | inr h ↦ (is h.0 e h.2).0 ],
    )

-- nor does a block
pub complete_copy_block : (s : Sizes) (j block : List Event) (p n : ℕ) → IsBlock p block → IsBroughtCopyComplete s j p n
    → IsBroughtCopyComplete s (j ++ block) p n
complete_copy_block s j block p n is complete i x past = elim ((block_past j block p i is).0 past) [
  | inl old ↦ brought_longer j block p n i (complete i (page_stores_shorter s j block n i (into_past_within j p i old) x) old)
  | inr b ↦ inl (complete_copy_block_mine s j block p n i is x b.0)
]

-- a block that fetches the page leaves nothing out
pub complete_copy_fetched : (s : Sizes) (j block : List Event) (p n k : ℕ) → IsBlock p block → FetchesPageImage block k p n
    → IsBroughtCopyComplete s (j ++ block) p n
complete_copy_fetched s j block p n k is fetch i x past = elim ((block_past j block p i is).0 past) [
  | inl old ↦ inr (
    length j
        + k,
    (fetch.0, fetch.1, fetch.2, event_place_behind j block k e fetch.3),
    (block_pasts_reaches j block p i k is (event_place_inside block k e fetch.3)).1
        (inl old),
  )
  | inr b ↦ inl (complete_copy_block_mine s j block p n i is x b.0)
]
  where
    e : Event
    e = event p (Fetch fetch.0 n fetch.1 fetch.2)

-- the gap under a block that doesn't fetch the page is the gap before it
pub complete_copy_block_gap : (s : Sizes) (j block : List Event) (p n i : ℕ) → IsBlock p block
    → ((k w r d : ℕ) → ¬ Does block k p (Fetch w n r d)) → InGap s (j ++ block) p n i ↔ InGap s j p n i
complete_copy_block_gap s j block p n i is none = (there, back)
  where
    there : InGap s (j ++ block) p n i → InGap s j p n i
    there g = elim ((block_past j block p i is).0 g.past) [
      | inl old ↦ (brought_gap_is s j p n i).1 (
        old,
        page_stores_shorter s j block n i (into_past_within j p i old) g.store,
        λ b.
            ((brought_gap_is s (j ++ block) p n i).0 g).2 (brought_longer j block p n i b),
      )
      | inr b ↦ absurd (g.others (complete_copy_block_mine s j block p n i is g.store b.0))
    ]

    old : InGap s j p n i → BroughtToCopy (j ++ block) p n i → ⊥
    old g (inl m) = g.others (m.0, event_place_shorter j block i m.0 (into_past_within j p i g.past) m.1, m.2)
    old g (inr m) =
        let f = m.1 in
        elim (slice_append_cases j block m.0 (event p (Fetch f.0 n f.1 f.2)) f.3) [
          | inl h ↦ g.new m.0 (f.0, f.1, f.2, h.1) (happens_before_shorter j block h.0 m.2)
          | inr h ↦ none h.0 f.0 f.1 f.2 h.2
        ]

    back : InGap s j p n i → InGap s (j ++ block) p n i
    back g =
        (brought_gap_is s (j ++ block) p n i).1
        ((block_past j block p i is).1 (inl g.past), page_stores_longer s j block n i g.store, old g)

-- these places are the gap, each once, in an order that extends happens-before
pub record CompletesCopyGap (s : Sizes) (j : List Event) (p n : ℕ) (places : List ℕ) : Type 0 where
  pub each : (i : ℕ) → Has places i ↔ InGap s j p n i
  pub once : IsOnce places
  pub extends : InOrder (λ i k. ¬ HappensBefore j k i) places

-- the missing records, applied to a copy, make it lawful
pub complete_copy_gap_fetched : {s : Sizes} {j : List Event} {p n : ℕ} {page : List ℕ} {groups : List (List ℕ)}
    {records : List (List (ℕ × ℕ))}
    → IsBroughtCopy s j p n page → AreRecordsOf (λ (i : ℕ). page_image_write s (slice_get j i)) groups records
    → CompletesCopyGap s j p n (concat groups) → Lawful s j p n (records_applied page records)
complete_copy_gap_fetched {s} {j} {p} {n} {page} {groups} {records} copy are gap =
    let now = lawful_image_more copy.image fills in
    subst (Lawful s j p n) (sym (record_writes_all_same (λ (i : ℕ). page_image_write s (slice_get j i)) page are)) now
  where
    fills : FillsLawfulImage s j (BroughtToCopy j p n) (InPast j p) n (concat groups)
    fills = record {
      on = λ i x. brought_past j p n i;
      closed = copy.closed;
      each = λ i. (λ h. (brought_gap_is s j p n i).0 ((gap.each i).0 h), λ x. (gap.each i).1 ((brought_gap_is s j p n i).1 x));
      once = gap.once;
      extends = gap.extends;
    }
