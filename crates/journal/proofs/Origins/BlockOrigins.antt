-- The words of a copy under an open block.
use Rattle.std.proofs.Common.{ℕ, ◌≡◌, ◌≢◌, ◌+◌, ◌<◌, ◌≤◌, ◌↔◌, ◌⊎◌, ◌/◌, ◌%◌, inl, inr, Some, List, [], ◌∷◌, ◌++◌, length, map, replicate, slice_get, take, refl, sym, ap, subst, subst₂, ◌∙◌, arith, le_of_lt, length-append}
use Rattle.std.proofs.Math.Seq.{take-append-add, take-length}
use Rattle.std.proofs.lemmas.Bool.{cases_lt, cases_eq, cases_order}
use Rattle.std.proofs.lemmas.Option.{none-some, some_pair_parts}
use Rattle.journal.specs.declared.event.Event.{Event}
use Rattle.journal.specs.declared.event.Kind.{Kind}
use Rattle.journal.specs.declared.event.Kind.TheVariants.{Load, Store, Fetch}
use Rattle.journal.specs.DidEvent.{event}
use Rattle.journal.specs.Sizes.{Sizes}
use Rattle.journal.specs.Events.{EventAt}
use Rattle.journal.specs.WellFormed.{Does}
use Rattle.journal.specs.PageImages.{FetchesPageImage, InGap}
use Rattle.journal.specs.Blocks.{block_write, block_done}
use Rattle.journal.proofs.OwnBlocks.{IsBlock}
use Rattle.journal.specs.MissingIntervals.{MissingInterval, AreMissingIntervals, MissingIntervalsInOrder}
use Rattle.journal.specs.OriginWrites.{OriginWritesWord}
use Rattle.journal.specs.CopyAnswers.{IsCopyAnswer}
use Rattle.journal.specs.NewestInGap.{IsNewestInGap}
use Rattle.journal.specs.CopyOrigins.{TouchesCopy, IsCopyOriginInGap, IsLastCopyOriginInGap, AreCopyOrigins, IsOnlyCopyOriginFetch, AreOpenCopyOrigins}
use Rattle.journal.specs.CopyOrigins.AreOpenCopyOrigins.{unfetched, fetched}
use Rattle.base.specs.LastWrite.{LastWrite}
use Rattle.base.proofs.LastWritten.{HasNoLastWrite}
use Rattle.base.specs.AppliedRecords.{records_applied}
use Rattle.base.proofs.LastWritten.{last_written_word}
use Rattle.base.proofs.SliceSets.{slice_get-replicate_found}
use Rattle.base.proofs.SlicesAndCounts.{slice_append_cases, slice_push_cases, slice_get-take, slice_get-take_within, slice_get-from_take}
use Rattle.journal.proofs.Order.EventPlacesAndCounts.{event_place_same, event_place_inside, event_place_longer, event_place_shorter, event_place_behind, event_place_at_end, event_place_does_same}
use Rattle.journal.proofs.CopyOfPage.CompleteCopies.{complete_copy_block_gap}
use Rattle.journal.proofs.CopyOfPage.PageStores.{page_store_same_address}
use Rattle.journal.proofs.Intervals.StoreContents.{store_contents_write_is, store_contents_write}
use Rattle.journal.proofs.Missing.MissingGaps.{missing_gaps_of_others}
use Rattle.journal.proofs.Origins.GapOrigins.{gap_origins_same, gap_last_origin_longer, gap_origin_of_brought, gap_newest_origin}
use Rattle.journal.proofs.Origins.NewestStores.{newest_stores}
use Rattle.journal.proofs.Origins.WordOrigins.{origin_word_kept, origin_word_longer, origin_word_on, origin_word_own, origin_word_fetched}

-- what stores at an address's offset in its page stores at the address
block_origin_store_of : (s : Sizes) (a v : ℕ) (k : Kind) → block_write s (a / s.words) k ≡ Some (a % s.words, v) → k ≡ Store a v
block_origin_store_of s a v k writes =
    let x = store_contents_write_is s (a / s.words) k (rw writes refl) in
    let stores : block_write s (a / s.words) (Store x.0 x.1) ≡ Some (x.0 % s.words, x.1) = store_contents_write s (a / s.words) x.0 x.1 x.3 in
    let parts =
    some_pair_parts (x.0 % s.words) (a % s.words) x.1 v
    (sym stores ∙ ap (block_write s (a / s.words)) (sym x.2) ∙ writes) in
    let address : x.0 ≡ a = page_store_same_address s.words x.0 a x.3 parts.0 in
    let P : ℕ → ℕ → Type 0 = λ b w. k ≡ Store b w in
    subst₂ P address parts.1 x.2

-- an event by which p's copy has the word, at a place behind j, is one of the block's
block_origin_event : {s : Sizes} (j block : List Event) {p a i : ℕ} (m : ℕ) → length j ≤ m
    → OriginWritesWord s (j ++ block) p a m i
    → (x : ℕ) × (m ≡ length j + x) × (((w : ℕ) × Does block x p (Store a w)) ⊎ FetchesPageImage block x p (a / s.words))
block_origin_event {s} j block {p} {a} m from (inl own) =
    elim (slice_append_cases j block m (event p (Store a own.1.0)) own.1.1) [
      | inl h ↦ (let old = h.0 in absurd (omega arith))
      | inr h ↦ (h.0, h.1, inl (own.1.0, h.2))
    ]
block_origin_event {s} j block {p} {a} m from (inr x) =
    let f = x.brought.fetches in
    elim (slice_append_cases j block m (event p (Fetch f.0 (a / s.words) f.1 f.2)) f.3) [
      | inl h ↦ (let old = h.0 in absurd (omega arith))
      | inr h ↦ (h.0, h.1, inr (f.0, f.1, f.2, h.2))
    ]

module _ {s : Sizes} {j block : List Event} {p : ℕ} (is : IsBlock p block) (a v k : ℕ) (within : k ≤ length block)
  where
    -- the block's stores to a before place k
    module _ (base : List ℕ) (late : (f : ℕ) → FetchesPageImage block f p (a / s.words) → f < k)
        (origins : AreOpenCopyOrigins s j block p (a / s.words) base) where
      -- the last of them
      block_origin_stored : LastWrite (λ (e : Event). block_write s (a / s.words) e.kind) (take k block) (a % s.words) v
          → IsCopyAnswer s (j ++ block) p a (length j + k) v
      block_origin_stored l = origin_word_own (length j + l.place) (length j + k) (omega (arith, low))
          (event_place_behind j block l.place (event p (Store a v)) does) later
        where
          low : l.place < k
          low = slice_get-take_within block k l.place l.item l.at

          at : EventAt block l.place l.item
          at = slice_get-from_take block k l.place l.item l.at

          kind : l.item.kind ≡ Store a v
          kind = block_origin_store_of s a v l.item.kind l.writes

          does : Does block l.place p (Store a v)
          does =
              let P : ℕ → Kind → Type 0 = λ q x. EventAt block l.place (event q x) in subst₂ P (is l.place l.item at).0 kind at

          no_fetch : (x : ℕ) → l.place < x → ¬ FetchesPageImage block x p (a / s.words)
          no_fetch x after fetch = elim origins [
            | unfetched o away ↦ away x fetch
            | fetched f only o ↦ elim (cases_lt f x) [
              | inl less ↦ only.only x less fetch
              | inr le ↦ only.first l.place (event p (Store a v)) (omega (arith, le, after)) does refl
            ]
          ]

          later : (m i : ℕ) → length j + l.place < m → m < length j + k → ¬ OriginWritesWord s (j ++ block) p a m i
          later m i after before w =
              let x = block_origin_event j block m (omega (arith, after)) w in
              let place = x.1 in
              elim x.2 [
                | inl own ↦
                    l.last x.0 (event p (Store a own.0)) own.0 (omega arith)
                    (slice_get-take block k x.0 (omega arith) ∙ own.1)
                    (store_contents_write s (a / s.words) a own.0 refl)
                | inr fetch ↦ no_fetch x.0 (omega arith) fetch
              ]

      -- the word below, if there are none
      block_origin_unstored : slice_get base (a % s.words) ≡ Some v
          → HasNoLastWrite (λ (e : Event). block_write s (a / s.words) e.kind) (take k block) (a % s.words)
          → IsCopyAnswer s (j ++ block) p a (length j + k) v
      block_origin_unstored word none = elim origins [
        | unfetched o away ↦ kept away (o.each a v refl word)
        | fetched f only o ↦ brought f only (o.each a v refl word)
      ]
        where
          no_store : (x : ℕ) → x < k → (w : ℕ) → ¬ Does block x p (Store a w)
          no_store x low w does =
              none x (event p (Store a w)) w (slice_get-take block k x low ∙ does) (store_contents_write s (a / s.words) a w refl)

          kept : ((f : ℕ) → ¬ FetchesPageImage block f p (a / s.words)) → IsCopyAnswer s j p a (length j) v
              → IsCopyAnswer s (j ++ block) p a (length j + k) v
          kept away old =
              origin_word_kept (length j + k) (omega arith) (λ m i from less w. (
              let x = block_origin_event j block m from w in
              let place = x.1 in
              elim x.2 [ inl own ↦ no_store x.0 (omega arith) own.0 own.1 | inr fetch ↦ away x.0 fetch ]))
              (origin_word_longer block (omega arith) old)

          brought : (f : ℕ) → IsOnlyCopyOriginFetch s block p (a / s.words) f
              → IsLastCopyOriginInGap s j p a v
              ⊎ (IsCopyAnswer s j p a (length j) v × ((q i c : ℕ) → ¬ IsCopyOriginInGap s j p a q i c))
              → IsCopyAnswer s (j ++ block) p a (length j + k) v
          brought f only x = elim x [
            | inl last ↦
                origin_word_fetched (length j + f) (length j + k) (omega (arith, early)) fetches
                (subst (λ (h : List Event). IsLastCopyOriginInGap s h p a v) (sym front)
                (gap_last_origin_longer (take f block) same last)) after
            | inr old ↦ origin_word_kept (length j + k) (omega arith) (untouched old.1) (origin_word_longer block (omega arith) old.0)
          ]
            where
              early : f < k
              early = late f only.fetches

              fetches : FetchesPageImage (j ++ block) (length j + f) p (a / s.words)
              fetches =
                  let g = only.fetches in
                  (g.0, g.1, g.2, event_place_behind j block f (event p (Fetch g.0 (a / s.words) g.1 g.2)) g.3)

              front : take (length j + f) (j ++ block) ≡ j ++ take f block
              front = take-append-add j block f

              same : (i : ℕ) → InGap s (j ++ take f block) p (a / s.words) i ↔ InGap s j p (a / s.words) i
              same i =
                  complete_copy_block_gap s j (take f block) p (a / s.words) i (λ x e at. is x e (slice_get-from_take block f x e at))
                  (λ x w r d does. only.first x (event p (Fetch w (a / s.words) r d))
                  (slice_get-take_within block f x (event p (Fetch w (a / s.words) r d)) does)
                  (slice_get-from_take block f x (event p (Fetch w (a / s.words) r d)) does) refl)

              after : (m i : ℕ) → length j + f < m → m < length j + k → ¬ OriginWritesWord s (j ++ block) p a m i
              after m i from less w =
                  let x = block_origin_event j block m (omega (arith, from)) w in
                  let place = x.1 in
                  elim x.2 [
                    | inl own ↦ no_store x.0 (omega arith) own.0 own.1
                    | inr fetch ↦ only.only x.0 (omega arith) fetch
                  ]

              untouched : ((q i c : ℕ) → ¬ IsCopyOriginInGap s j p a q i c) → (m i : ℕ) → length j ≤ m → m < length j + k
                  → ¬ OriginWritesWord s (j ++ block) p a m i
              untouched nothing m i from less (inl own) =
                  let x = block_origin_event {s = s} j block {p = p} {a = a} {i = i} m from (inl own) in
                  let place = x.1 in
                  elim x.2 [
                    | inl store ↦ no_store x.0 (omega arith) store.0 store.1
                    | inr fetch ↦ other own.1.0 own.1.1 x.0 place fetch
                  ]
                where
                  other : (w : ℕ) → Does (j ++ block) m p (Store a w) → (x : ℕ) → m ≡ length j + x
                      → ¬ FetchesPageImage block x p (a / s.words)
                  other w does x place g =
                      let e : Event = event p (Fetch g.0 (a / s.words) g.1 g.2) in
                      let P : ℕ → Type 0 = λ y. Does (j ++ block) y p (Store a w) in
                      absurd (cc (ap (λ (d : Event). d.kind) (event_place_same (j ++ block) (length j + x) (event p (Store a w)) e
                      (subst P place does) (event_place_behind j block x e g.3))))
              untouched nothing m i from less (inr last) =
                  let x = block_origin_event {s = s} j block {p = p} {a = a} {i = i} m from (inr last) in
                  let place = x.1 in
                  elim x.2 [
                    | inl store ↦ no_store x.0 (omega arith) store.0 store.1
                    | inr fetch ↦ elim (cases_lt f x.0) [
                      | inl behind ↦ only.only x.0 behind fetch
                      | inr le ↦ elim (cases_eq x.0 f) [
                        | inr before ↦
                            only.first x.0 (event p (Fetch fetch.0 (a / s.words) fetch.1 fetch.2)) (omega arith) fetch.3 refl
                        | inl is_it ↦
                            (let P : ℕ → Type 0 = λ y. IsCopyOriginInGap s (take y (j ++ block)) p a last.by i last.closed in
                            let Q : List Event → Type 0 = λ h. IsCopyOriginInGap s h p a last.by i last.closed in
                            let here : m ≡ length j + f = omega arith in
                            nothing last.by i last.closed
                            ((gap_origins_same (take f block) same last.by i last.closed).0
                            (subst Q front (subst P here (gap_origin_of_brought last.brought)))))
                      ]
                    ]
                  ]

    -- so the word at a before the block's place k is what the stores before that place make of the page below
    pub block_origin_word : (base : List ℕ) → ((f : ℕ) → FetchesPageImage block f p (a / s.words) → f < k)
        → AreOpenCopyOrigins s j block p (a / s.words) base
        → slice_get (block_done s (a / s.words) base (take k block)) (a % s.words) ≡ Some v
        → IsCopyAnswer s (j ++ block) p a (length j + k) v
    block_origin_word base late origins word =
        elim (last_written_word (λ (e : Event). block_write s (a / s.words) e.kind) base (take k block) (a % s.words) v word) [
          | inl l ↦ block_origin_stored base late origins l
          | inr u ↦ block_origin_unstored base late origins u.0 u.1
        ]

-- a load of the block answers the word of the copy
pub block_origin_answers : {s : Sizes} {j block : List Event} {p : ℕ} (k a v : ℕ) (base : List ℕ) → IsBlock p block
    → AreOpenCopyOrigins s j block p (a / s.words) base → Does block k p (Load a v)
    → slice_get (block_done s (a / s.words) base (take k block)) (a % s.words) ≡ Some v
    → IsCopyAnswer s (j ++ block) p a (length j + k) v
block_origin_answers {s} {j} {block} {p} k a v base is origins does word =
    let within = event_place_inside block k (event p (Load a v)) does in
    block_origin_word is a v k (le_of_lt within) base (λ f fetch. late f fetch (cases_order f k)) origins word
  where
    touches : (g : ℕ) → IsOnlyCopyOriginFetch s block p (a / s.words) g → g ≤ k
    touches g only = elim (cases_lt k g) [
      | inl less ↦ absurd (only.first k (event p (Load a v)) less does refl)
      | inr le ↦ le
    ]

    late : (f : ℕ) → FetchesPageImage block f p (a / s.words) → (f ≡ k) ⊎ ((f < k) ⊎ (k < f)) → f < k
    late f fetch (inl at) =
        let P : ℕ → Type 0 = λ y. Does block y p (Fetch fetch.0 (a / s.words) fetch.1 fetch.2) in
        absurd (cc (event_place_does_same block k p p (Load a v) (Fetch fetch.0 (a / s.words) fetch.1 fetch.2) does (subst P at fetch.3)).1)
    late f fetch (inr (inl less)) = less
    late f fetch (inr (inr after)) = elim origins [
      | unfetched o away ↦ absurd (away f fetch)
      | fetched g only o ↦ (let le = touches g only in absurd (only.only f (omega arith) fetch))
    ]

-- the page that the block's stores make has the words of the copy after the block
pub block_origins_handed : {s : Sizes} {j block : List Event} {p n : ℕ} {base page : List ℕ} → IsBlock p block
    → page ≡ block_done s n base block → AreOpenCopyOrigins s j block p n base → AreCopyOrigins s (j ++ block) p n page
block_origins_handed {s} {j} {block} {p} {n} {base} {page} is gives origins = record { each = words }
  where
    words : (a v : ℕ) → a / s.words ≡ n → slice_get page (a % s.words) ≡ Some v
        → IsCopyAnswer s (j ++ block) p a (length (j ++ block)) v
    words a v in_page word =
        let long = length-append j block in
        let all : take (length block) block ≡ block = take-length block in
        let made : slice_get (block_done s n base (take (length block) block)) (a % s.words) ≡ Some v =
        ap (λ (es : List Event). slice_get (block_done s n base es) (a % s.words)) all
        ∙ ap (λ (ws : List ℕ). slice_get ws (a % s.words)) (sym gives) ∙ word in
        let P : ℕ → Type 0 = λ m. AreOpenCopyOrigins s j block p m base in
        let Q : ℕ → Type 0 = λ m. slice_get (block_done s m base (take (length block) block)) (a % s.words) ≡ Some v in
        subst (λ (k : ℕ). IsCopyAnswer s (j ++ block) p a k v) (sym long)
        (block_origin_word is a v (length block) (omega arith) base (λ f fetch. event_place_inside block f
        (event p (Fetch fetch.0 (a / s.words) fetch.1 fetch.2)) fetch.3)
        (subst P (sym in_page) origins) (subst Q (sym in_page) made))

-- others' events leave the words of a copy
pub block_origins_copy_others : {s : Sizes} {j : List Event} {p n : ℕ} {page : List ℕ} (es : List Event)
    → ((k : ℕ) (e : Event) → EventAt es k e → e.processor ≢ p) → AreCopyOrigins s j p n page
    → AreCopyOrigins s (j ++ es) p n page
block_origins_copy_others es away origins = record {
  each = λ a v in_page word.
      origin_word_on es (λ k e at mine. absurd (away k e at mine)) (origins.each a v in_page word);
}

-- and so do p's that don't touch the page
pub block_origins_untouched : {s : Sizes} {j : List Event} {p n : ℕ} {page : List ℕ} (es : List Event)
    → ((k : ℕ) (e : Event) → EventAt es k e → e.processor ≡ p → ¬ TouchesCopy s n e.kind) → AreCopyOrigins s j p n page
    → AreCopyOrigins s (j ++ es) p n page
block_origins_untouched {s} {p = p} es away origins = record {
  each = λ a v in_page word.
      (let P : ℕ → Type 0 = λ m. (k : ℕ) (e : Event) → EventAt es k e → e.processor ≡ p → ¬ TouchesCopy s m e.kind in
      origin_word_on es (subst P (sym in_page) away) (origins.each a v in_page word));
}

-- under a block too
pub block_origins_others : {s : Sizes} {j block : List Event} {p n : ℕ} {base : List ℕ} (es : List Event)
    → ((k : ℕ) (e : Event) → EventAt es k e → e.processor ≢ p) → AreOpenCopyOrigins s j block p n base
    → AreOpenCopyOrigins s (j ++ es) block p n base
block_origins_others es away (unfetched o none) = unfetched (block_origins_copy_others es away o) none
block_origins_others {s} {j} {p = p} {n = n} {base = base} es away (fetched f only o) = fetched f only (record { each = words })
  where
    same : (m i : ℕ) → InGap s (j ++ es) p m i ↔ InGap s j p m i
    same m i = missing_gaps_of_others s j es p m i away

    words : (a v : ℕ) → a / s.words ≡ n → slice_get base (a % s.words) ≡ Some v
        → IsLastCopyOriginInGap s (j ++ es) p a v
        ⊎ (IsCopyAnswer s (j ++ es) p a (length (j ++ es)) v × ((q i c : ℕ) → ¬ IsCopyOriginInGap s (j ++ es) p a q i c))
    words a v in_page word = elim (o.each a v in_page word) [
      | inl last ↦ inl (gap_last_origin_longer es (same (a / s.words)) last)
      | inr old ↦ inr (
        origin_word_on es (λ k e at mine. absurd (away k e at mine)) old.0,
        λ q i c g. old.1 q i c ((gap_origins_same es (same (a / s.words)) q i c).0 g),
      )
    ]

-- a further event of the block that doesn't fetch the page leaves what lies below
pub block_origins_push : {s : Sizes} {j block : List Event} {p n : ℕ} {base : List ℕ} (e : Event)
    → ((w r d : ℕ) → e ≢ event p (Fetch w n r d)) → AreOpenCopyOrigins s j block p n base
    → AreOpenCopyOrigins s j (block ++ e ∷ []) p n base
block_origins_push {block = block} {p = p} {n = n} e away (unfetched o none) =
    unfetched o (λ k f. elim (slice_push_cases block e k (event p (Fetch f.0 n f.1 f.2)) f.3) [
      | inl h ↦ none k (f.0, f.1, f.2, h.1)
      | inr h ↦ away f.0 f.1 f.2 h.1
    ])
block_origins_push {s = s} {block = block} {p = p} {n = n} e away (fetched k only o) = fetched k (record {
  fetches =
      (f.0, f.1, f.2, event_place_longer block (e ∷ []) k (event p (Fetch f.0 n f.1 f.2)) f.3);
  first = λ m g less at. only.first m g less (event_place_shorter block (e ∷ []) m g (omega (arith, less, within)) at);
  only = λ m less g. elim (slice_push_cases block e m (event p (Fetch g.0 n g.1 g.2)) g.3) [
    | inl h ↦ only.only m less (g.0, g.1, g.2, h.1)
    | inr h ↦ away g.0 g.1 g.2 h.1
  ];
}) o
  where
    f : FetchesPageImage block k p n
    f = only.fetches

    within : k < length block
    within = event_place_inside block k (event p (Fetch f.0 n f.1 f.2)) f.3

-- a fetch of a page that the block left alone: below lies what the missing records make of the copy
pub block_origins_fetched : {s : Sizes} {j : List Event} (block : List Event) {p n : ℕ} {page : List ℕ} {missing : List MissingInterval} (w r d : ℕ)
    → AreMissingIntervals s j p n missing → MissingIntervalsInOrder missing
    → ((k : ℕ) (e : Event) → EventAt block k e → ¬ TouchesCopy s n e.kind) → AreCopyOrigins s j p n page
    → AreOpenCopyOrigins s j (block ++ event p (Fetch w n r d) ∷ []) p n
    (records_applied page (map (λ (x : MissingInterval). x.words) missing))
block_origins_fetched {s} {j} block {p} {n} {page} {missing} w r d lacks order untouched origins = fetched (length block) (record {
  fetches = (w, r, d, event_place_at_end block e);
  first = λ m g less at. untouched m g (event_place_shorter block (e ∷ []) m g less at);
  only = λ k less g. elim (slice_push_cases block e k (event p (Fetch g.0 n g.1 g.2)) g.3) [
    | inl h ↦ (let old = h.0 in omega arith)
    | inr h ↦ (let last = h.0 in omega arith)
  ];
}) (record { each = words })
  where
    e : Event
    e = event p (Fetch w n r d)

    words : (a v : ℕ) → a / s.words ≡ n
        → slice_get (records_applied page (map (λ (x : MissingInterval). x.words) missing)) (a % s.words) ≡ Some v
        → IsLastCopyOriginInGap s j p a v
        ⊎ (IsCopyAnswer s j p a (length j) v × ((q i c : ℕ) → ¬ IsCopyOriginInGap s j p a q i c))
    words a v in_page word = elim (newest_stores s j p n missing lacks order page (a % s.words) v word) [
      | inl last ↦
          (let P : ℕ → Type 0 = λ m. IsNewestInGap s j p m (a % s.words) v in
          inl (gap_newest_origin (subst P (sym in_page) last)))
      | inr old ↦
          (let P : ℕ → ℕ → Type 0 = λ m i. InGap s j p m i in
          inr (
            origins.each a v in_page old.0,
            λ q i c g. old.1 i q a g.value g.does refl (subst (λ m. P m i) in_page g.gap),
          ))
    ]

-- a page of zeros has the words of a copy before the first event
pub block_origins_zero : (s : Sizes) (p n : ℕ) → AreOpenCopyOrigins s [] [] p n (replicate s.words 0)
block_origins_zero s p n = unfetched (record {
  each = λ a v in_page word. inl (
    sym (slice_get-replicate_found s.words 0 v (a % s.words) word),
    λ m i less. absurd (omega (arith, less)),
  );
}) (λ k f. none-some (event p (Fetch f.0 n f.1 f.2)) f.3)

-- without a block what lies below is the copy
pub block_origins_without : {s : Sizes} {j : List Event} {p n : ℕ} {base : List ℕ} → AreOpenCopyOrigins s j [] p n base
    → AreCopyOrigins s j p n base
block_origins_without (unfetched o none) = o
block_origins_without {p = p} {n = n} (fetched k only o) =
    let f = only.fetches in absurd (none-some (event p (Fetch f.0 n f.1 f.2)) f.3)

pub block_origins_start : {s : Sizes} {j : List Event} {p n : ℕ} {base : List ℕ} → AreCopyOrigins s j p n base
    → AreOpenCopyOrigins s j [] p n base
block_origins_start {p = p} {n = n} o = unfetched o (λ k f. none-some (event p (Fetch f.0 n f.1 f.2)) f.3)
