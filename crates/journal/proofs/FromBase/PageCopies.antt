-- A copy that is lawful by the history is the base's page after the stores to it in the past within what is left.
use Rattle.std.proofs.Common.{◌≡◌, ℕ, suc, ◌+◌, ◌*◌, ◌-◌, ◌/◌, ◌%◌, ◌<◌, ◌≤◌, ◌⊎◌, inl, inr, ◌↔◌, List, ◌++◌, Option, Some, option_map, length, map, take, drop, replicate, get_or, slice_get, subst, sym, refl, ap, ◌∙◌, length-append, arith}
use Rattle.std.proofs.Math.Nat.{mul-le-mul_right}
use Rattle.std.proofs.lemmas.Nat.{div-mul-add, mod-mul-add}
use Rattle.std.proofs.lemmas.Bool.{cases_lt, cases_order}
use Rattle.std.proofs.lemmas.List.{length-replicate, length-take}
use Rattle.std.proofs.lemmas.Option.{slice_get_within, slice_get-get_or, slice_get_past, slice_get-map, same_Some}
use Rattle.journal.specs.declared.event.Event.{Event}
use Rattle.journal.specs.declared.event.Kind.TheVariants.{Store}
use Rattle.base.specs.InOrderOnce.{Has, InOrder}
use Rattle.base.specs.LastWrite.{LastWrite}
use Rattle.base.proofs.LastWritten.{HasNoLastWrite}
use Rattle.journal.specs.DidEvent.{event}
use Rattle.journal.specs.Sizes.{Sizes, addresses}
use Rattle.journal.specs.Events.{EventAt}
use Rattle.journal.specs.HappensBeforeEdges.{HappensBefore}
use Rattle.journal.specs.WellFormed.{Does}
use Rattle.journal.specs.Pasts.{InPast}
use Rattle.journal.specs.Races.{RaceFree}
use Rattle.journal.specs.ReplayMemory.{memory_after}
use Rattle.journal.specs.PageImages.{StoresToPageImage, page_image_write, page_image_after, Lawful}
use Rattle.journal.specs.Base.{Base}
use Rattle.journal.specs.HappensBeforeFromBase.{InPastFromBase}
use Rattle.journal.specs.PageImagesFromBase.{LawfulPageImageFromBase}
use Rattle.base.proofs.SlicesAndCounts.{slice_get-append_left, slice_get-append_right, slice_get-take, slice_get-drop, slice_append_cases}
use Rattle.base.proofs.SliceSets.{slice_get-replicate_found, slice_sets_same}
use Rattle.base.proofs.LastWritten.{last_written_word, last_written_word_found, last_written_alone, last_written_exists, length-written, written-append, last_written_map, last_written_function_same}
use Rattle.base.proofs.JoinedLists.{joined_list_has-map}
use Rattle.base.proofs.Halves.{Halves, halves}
use Rattle.journal.proofs.Order.EventPlacesAndCounts.{event_place_behind}
use Rattle.journal.proofs.Order.HappensBefore.{happens_before_longer}
use Rattle.journal.proofs.CopyOfPage.PageStores.{page_store_does_kind, page_store_writes, page_stores_to, page_store_at, page_stores_longer, page_stores_shorter, page_stores_within, page_stores_after_longer}
use Rattle.journal.proofs.Flat.FlatConflicts.{flat_conflict_store_is, flat_conflict_not_unordered}
use Rattle.journal.proofs.FromBase.OrderOfLeft.{IsEvenOrderOfLeft, order_of_left_at, order_of_left_before_back, order_of_left_past, order_of_left_past_back}
use Rattle.journal.proofs.FromBase.ExplainedByLast.{flat}

-- a word of a page of the memory
page_copy_word : (w n o : ℕ) (memory : List ℕ) → o < w
    → slice_get (take w (drop (n * w) memory)) o ≡ slice_get memory (n * w + o)
page_copy_word w n o memory lt = slice_get-take (drop (n * w) memory) w o lt ∙ slice_get-drop memory (n * w) o

-- an address of a page lies in the memory
page_copy_within : (pages w n o : ℕ) → n < pages → o < w → n * w + o < pages * w
page_copy_within pages w n o lt lt_o =
    let le : suc n * w ≤ pages * w = mul-le-mul_right w lt in let e : suc n * w ≡ n * w + w = omega arith in
    omega arith

-- of events without a race, any order of a page's stores that extends happens-before makes the page of the flat memory
module _ (s : Sizes) (c : List Event) (n : ℕ) (low : List ℕ) (free : RaceFree c)
    (each : (i : ℕ) → Has low i ↔ StoresToPageImage s c n i) (extends : InOrder (λ i k. ¬ HappensBefore c k i) low) where
  abbrev page_copy_write : ℕ → Option (ℕ × ℕ)
  page_copy_write i = page_image_write s (slice_get c i)

  module _ (o : ℕ) (within : o < s.words) where
    abbrev page_copy_address : ℕ
    page_copy_address = n * s.words + o

    page_copy_page_is : page_copy_address / s.words ≡ n
    page_copy_page_is = div-mul-add n s.words o within

    page_copy_offset_is : page_copy_address % s.words ≡ o
    page_copy_offset_is = mod-mul-add n s.words o within

    page_copy_writes_at : (k q u : ℕ) → Does c k q (Store page_copy_address u) → page_copy_write k ≡ Some (o, u)
    page_copy_writes_at k q u does = page_store_writes s c k q page_copy_address u does ∙ ap (λ x. Some (x, u)) page_copy_offset_is

    page_copy_writes_as : (k v : ℕ) (x : StoresToPageImage s c n k) → page_copy_write k ≡ Some (o, v) → Does c k x.by (Store page_copy_address v)
    page_copy_writes_as k v x writes = page_store_at s c n k page_copy_address v x page_copy_page_is (writes ∙ ap (λ y. Some (y, v)) (sym page_copy_offset_is))

    page_copy_last_flat : (v : ℕ) → LastWrite page_copy_write low o v → LastWrite flat c page_copy_address v
    page_copy_last_flat v l =
        record { place = l.item; item = event x.by (Store page_copy_address v); at = stores; writes = refl; last = later }
      where
        x : StoresToPageImage s c n l.item
        x = (each l.item).0 (l.place, l.at)

        stores : Does c l.item x.by (Store page_copy_address v)
        stores = page_copy_writes_as l.item v x l.writes

        later : (k : ℕ) (y : Event) (u : ℕ) → l.item < k → EventAt c k y → flat y ≡ Some (page_copy_address, u) → ⊥
        later k y u lt at writes = is (cases_order l.place has.0)
          where
            does : Does c k y.processor (Store page_copy_address u)
            does = page_store_does_kind c k y (Store page_copy_address u) at (flat_conflict_store_is y.kind page_copy_address u writes)

            has : Has low k
            has = (each k).1 (page_stores_to s c n k y.processor page_copy_address u does page_copy_page_is)

            is : (l.place ≡ has.0) ⊎ ((l.place < has.0) ⊎ (has.0 < l.place)) → ⊥
            is (inl same) =
                let e = same_Some l.item k (sym l.at ∙ ap (slice_get low) same ∙ has.1) in omega (arith, lt)
            is (inr (inl after)) = l.last has.0 k u after has.1 (page_copy_writes_at k y.processor u does)
            is (inr (inr before)) =
                flat_conflict_not_unordered lt stores does (record { address = page_copy_address; first = refl; second = refl; stores = inl refl })
                (free l.item k) (extends has.0 l.place k l.item before has.1 l.at)

    page_copy_last : (v : ℕ) → LastWrite flat c page_copy_address v → LastWrite page_copy_write low o v
    page_copy_last v l = subst (λ w. LastWrite page_copy_write low o w) (last_written_alone flat c page_copy_address w.0 v (page_copy_last_flat w.0 w.1) l) w.1
      where
        does : Does c l.place l.item.processor (Store page_copy_address v)
        does = page_store_does_kind c l.place l.item (Store page_copy_address v) l.at (flat_conflict_store_is l.item.kind page_copy_address v l.writes)

        has : Has low l.place
        has = (each l.place).1 (page_stores_to s c n l.place l.item.processor page_copy_address v does page_copy_page_is)

        w : (u : ℕ) × LastWrite page_copy_write low o u
        w = last_written_exists page_copy_write low has.0 o v l.place has.1 (page_copy_writes_at l.place l.item.processor v does)

    -- word by word
    page_copy_same_word : (size : ℕ) → page_copy_address < size
        → slice_get (page_image_after s c (replicate s.words 0) low) o
        ≡ slice_get (memory_after (replicate size 0) c) page_copy_address
    page_copy_same_word size lt = go (last_written_word page_copy_write (replicate s.words 0) low o word found)
      where
        word : ℕ
        word = get_or (page_image_after s c (replicate s.words 0) low) o 0

        found : slice_get (page_image_after s c (replicate s.words 0) low) o ≡ Some word
        found =
            slice_get-get_or (page_image_after s c (replicate s.words 0) low) o 0
            (rw (length-written, length-replicate) within)

        kept : ℕ
        kept = get_or (memory_after (replicate size 0) c) page_copy_address 0

        found_kept : slice_get (memory_after (replicate size 0) c) page_copy_address ≡ Some kept
        found_kept =
            slice_get-get_or (memory_after (replicate size 0) c) page_copy_address 0 (rw (length-written, length-replicate) lt)

        zero_kept : word ≡ 0 → HasNoLastWrite page_copy_write low o
            → LastWrite flat c page_copy_address kept
            ⊎ ((slice_get (replicate size 0) page_copy_address ≡ Some kept) × HasNoLastWrite flat c page_copy_address)
            → word ≡ kept
        zero_kept is none (inl l) = let x = page_copy_last kept l in absurd (none x.place x.item kept x.at x.writes)
        zero_kept is none (inr z) = is ∙ slice_get-replicate_found size 0 kept page_copy_address z.0

        go : LastWrite page_copy_write low o word
            ⊎ ((slice_get (replicate s.words 0) o ≡ Some word) × HasNoLastWrite page_copy_write low o)
            → slice_get (page_image_after s c (replicate s.words 0) low) o
            ≡ slice_get (memory_after (replicate size 0) c) page_copy_address
        go (inl l) =
            found ∙ sym (last_written_word_found flat (replicate size 0) c page_copy_address word (rw length-replicate lt) (page_copy_last_flat word l))
        go (inr z) =
            found
            ∙ ap Some (zero_kept (sym (slice_get-replicate_found s.words 0 word o z.0)) z.1
            (last_written_word flat (replicate size 0) c page_copy_address kept found_kept))
            ∙ sym found_kept

  pub page_copy_kept : n < s.pages
      → page_image_after s c (replicate s.words 0) low
      ≡ take s.words (drop (n * s.words) (memory_after (replicate (addresses s) 0) c))
  page_copy_kept lt =
      slice_sets_same (page_image_after s c (replicate s.words 0) low)
      (take s.words (drop (n * s.words) (memory_after (replicate (addresses s) 0) c))) each_word
    where
      each_word : (o : ℕ)
          → slice_get (page_image_after s c (replicate s.words 0) low) o
          ≡ slice_get (take s.words (drop (n * s.words) (memory_after (replicate (addresses s) 0) c))) o
      each_word o = elim (cases_lt o s.words) [
        | inl inside ↦ page_copy_same_word o inside (addresses s) (page_copy_within s.pages s.words n o lt inside)
            ∙ sym (page_copy_word s.words n o (memory_after (replicate (addresses s) 0) c) inside)
        | inr past ↦ slice_get_past (page_image_after s c (replicate s.words 0) low) o
            (rw (length-written, length-replicate) past)
            ∙ sym (slice_get_past (take s.words (drop (n * s.words) (memory_after (replicate (addresses s) 0) c))) o
            (simp length-take (omega arith)))
      ]

-- where what was cut off has no race, leaves this memory, happens before all that is left, and p knows of it
module _ (s : Sizes) (c j : List Event) (b : Base) (m : ℕ) (even : IsEvenOrderOfLeft b c j m) (free : RaceFree c)
    (kept : b.memory ≡ memory_after (replicate (addresses s) 0) c)
    (before : (i k : ℕ) → i < length c → k < length j → HappensBefore (c ++ j) i (length c + k)) (p : ℕ)
    (known : (i : ℕ) → i < length c → InPast (c ++ j) p i) (n : ℕ) where
  -- what was cut off comes first in any order that extends happens-before
  page_copy_cut_first : (order : List ℕ) → ((i : ℕ) → Has order i → i < length (c ++ j))
      → InOrder (λ i k. ¬ HappensBefore (c ++ j) k i) order → Halves (length c) order
  page_copy_cut_first order within extends = halves (length c) order (λ x y i k lt at to le. elim (cases_lt k (length c)) [
    | inr past ↦ past
    | inl early ↦ (let all = length-append c j in
        let is : length c + (i - length c) ≡ i = omega arith in
        absurd (extends x y i k lt at to (subst (HappensBefore (c ++ j) k) is
        (before k (i - length c) early (omega (arith, within i (x, at)))))))
  ])

  module _ (page : List ℕ) (lawful : Lawful s (c ++ j) p n page) where
    page_copy_halves : Halves (length c) lawful.order
    page_copy_halves = page_copy_cut_first lawful.order (λ i has. page_stores_within s (c ++ j) n i ((lawful.each i).0 has).1) lawful.extends

    page_copy_at_low : (k i : ℕ) → slice_get page_copy_halves.low k ≡ Some i → slice_get lawful.order k ≡ Some i
    page_copy_at_low k i at =
        ap (λ (xs : List ℕ). slice_get xs k) page_copy_halves.are
        ∙ slice_get-append_left page_copy_halves.low (map (λ x. length c + x) page_copy_halves.high) k (slice_get_within page_copy_halves.low k i at) ∙ at

    page_copy_at_high : (k i : ℕ) → slice_get page_copy_halves.high k ≡ Some i
        → slice_get lawful.order (length page_copy_halves.low + k) ≡ Some (length c + i)
    page_copy_at_high k i at =
        ap (λ (xs : List ℕ). slice_get xs (length page_copy_halves.low + k)) page_copy_halves.are
        ∙ slice_get-append_right page_copy_halves.low (map (λ x. length c + x) page_copy_halves.high) k
        ∙ slice_get-map (λ x. length c + x) page_copy_halves.high k ∙ ap (option_map (λ x. length c + x)) at

    page_copy_low_each : (i : ℕ) → Has page_copy_halves.low i ↔ StoresToPageImage s c n i
    page_copy_low_each i = (
      (λ has. page_stores_shorter s c j n i (page_copy_halves.below i has) ((lawful.each i).0 (has.0, page_copy_at_low has.0 i has.1)).1),
      (λ x. let lt = page_stores_within s c n i x in let has = (lawful.each i).1 (known i lt, page_stores_longer s c j n i x) in
          elim (slice_append_cases page_copy_halves.low (map (λ y. length c + y) page_copy_halves.high) has.0 i
          (ap (λ (xs : List ℕ). slice_get xs has.0) (sym page_copy_halves.are) ∙ has.1)) [
            | inl low ↦ (has.0, low.1)
            | inr high ↦
                (let y = (joined_list_has-map (λ y. length c + y) page_copy_halves.high i).0 (high.0, high.2) in absurd (omega (arith, y.2, lt)))
          ]),
    )

    page_copy_places_left : (i : ℕ) → StoresToPageImage s (c ++ j) n (length c + i) → StoresToPageImage s j n i
    page_copy_places_left i x =
        page_stores_to s j n i x.by x.address x.value (order_of_left_at c j i (event x.by (Store x.address x.value)) x.does)
        x.in_page

    page_copy_places_behind : (i : ℕ) → StoresToPageImage s j n i → StoresToPageImage s (c ++ j) n (length c + i)
    page_copy_places_behind i x =
        page_stores_to s (c ++ j) n (length c + i) x.by x.address x.value
        (event_place_behind c j i (event x.by (Store x.address x.value)) x.does) x.in_page

    page_copy_high_each : (i : ℕ) → Has page_copy_halves.high i ↔ (InPastFromBase b j p i × StoresToPageImage s j n i)
    page_copy_high_each i = (
      (λ has. let x = (lawful.each (length c + i)).0 (length page_copy_halves.low + has.0, page_copy_at_high has.0 i has.1) in
          (order_of_left_past b c j m even p i x.0, page_copy_places_left i x.1)),
      (λ x. let has = (lawful.each (length c + i)).1 (order_of_left_past_back b c j m even p i x.0, page_copy_places_behind i x.1) in
          elim (slice_append_cases page_copy_halves.low (map (λ y. length c + y) page_copy_halves.high) has.0 (length c + i)
          (ap (λ (xs : List ℕ). slice_get xs has.0) (sym page_copy_halves.are) ∙ has.1)) [
            | inl low ↦ absurd (let lt = page_copy_halves.below (length c + i) (has.0, low.1) in omega arith)
            | inr high ↦ (let y = (joined_list_has-map (λ y. length c + y) page_copy_halves.high (length c + i)).0 (high.0, high.2) in
                subst (Has page_copy_halves.high) (omega (arith, y.2)) y.1)
          ]),
    )

    page_copy_gives : page ≡ page_image_after s j (page_image_after s c (replicate s.words 0) page_copy_halves.low) page_copy_halves.high
    page_copy_gives = lawful.gives
        ∙ ap (page_image_after s (c ++ j) (replicate s.words 0)) page_copy_halves.are
        ∙ written-append (λ (i : ℕ). page_image_write s (slice_get (c ++ j) i)) (replicate s.words 0) page_copy_halves.low
        (map (λ x. length c + x) page_copy_halves.high)
        ∙ last_written_map (λ (i : ℕ). page_image_write s (slice_get (c ++ j) i)) (λ x. length c + x)
        (page_image_after s (c ++ j) (replicate s.words 0) page_copy_halves.low) page_copy_halves.high
        ∙ last_written_function_same (λ (i : ℕ). page_image_write s (slice_get (c ++ j) (length c + i)))
        (λ (i : ℕ). page_image_write s (slice_get j i)) (page_image_after s (c ++ j) (replicate s.words 0) page_copy_halves.low) page_copy_halves.high
        (λ k i at. ap (page_image_write s) (slice_get-append_right c j i))
        ∙ ap (λ (ws : List ℕ). page_image_after s j ws page_copy_halves.high) (page_stores_after_longer s c j (replicate s.words 0) page_copy_halves.low page_copy_halves.below)

    -- a copy that is lawful by the history is lawful from the base
    pub page_copy_lawful_from_base : n < s.pages → LawfulPageImageFromBase s b j p n page
    page_copy_lawful_from_base lt = record {
      order = page_copy_halves.high;
      each = page_copy_high_each;
      once =
          λ x y i k less at to same. lawful.once (length page_copy_halves.low + x) (length page_copy_halves.low + y) (length c + i) (length c + k)
          (omega arith) (page_copy_at_high x i at) (page_copy_at_high y k to) (ap (λ z. length c + z) same);
      extends =
          λ x y i k less at to back. lawful.extends (length page_copy_halves.low + x) (length page_copy_halves.low + y) (length c + i)
          (length c + k) (omega arith) (page_copy_at_high x i at) (page_copy_at_high y k to) (order_of_left_before_back b c j m even back);
      gives =
          page_copy_gives
          ∙ ap (λ (ws : List ℕ). page_image_after s j ws page_copy_halves.high) (page_copy_kept s c n page_copy_halves.low free page_copy_low_each low_extends lt
          ∙ ap (λ (ws : List ℕ). take s.words (drop (n * s.words) ws)) (sym kept));
    }
      where
        low_extends : InOrder (λ i k. ¬ HappensBefore c k i) page_copy_halves.low
        low_extends x y i k less at to back =
            lawful.extends x y i k less (page_copy_at_low x i at) (page_copy_at_low y k to) (happens_before_longer c j back)
