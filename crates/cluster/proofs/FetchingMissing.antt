-- A fetch keeps a processor sound.
use Rattle.std.proofs.Common.{ℕ, zero, suc, ◌≡◌, ◌<◌, ◌≤◌, ◌+◌, ◌↔◌, Bool, false, Some, None, List, [], ◌∷◌, ◌++◌, map, length, sum, sum_by, replicate, get_or, slice_get, slice_set, inl, inr, refl, sym, ap, subst, subst₂, ◌∙◌, append_assoc, arith}
use Rattle.std.proofs.lemmas.Bool.{cases_eq}
use Rattle.std.proofs.lemmas.List.{length-set, length-map}
use Rattle.std.proofs.lemmas.List.Sums.{count_by-le-length, sum-map}
use Rattle.std.proofs.lemmas.Simd.{map-map}
use Rattle.journal.specs.declared.event.Event.{Event}
use Rattle.journal.specs.declared.event.Kind.TheVariants.{Fetch}
use Rattle.journal.specs.Events.{event_closes}
use Rattle.journal.proofs.OwnBlocks.{block_with_page}
use Rattle.journal.specs.FetchesCountGaps.{BlockFetchesCountGaps}
use Rattle.journal.specs.DidEvent.{event}
use Rattle.journal.specs.Dirty.{IsDirty}
use Rattle.journal.proofs.Missing.GapsCounted.{gaps_counted_same}
use Rattle.journal.specs.IntervalContents.{IsIntervalContent}
use Rattle.journal.specs.MissingIntervals.{MissingInterval, IsMissingIntervalPlace, missing_interval_closed_count}
use Rattle.journal.specs.ValidAndStaleCopy.{IsValidCopy, IsStaleCopy}
use Rattle.journal.proofs.CopyOfPage.BlockLoads.{block_loads_with_page_same, block_loads_with_page_other}
use Rattle.journal.proofs.CopyOfPage.UnderBlock.{stale_under_block_fetched, stale_under_block_counted, stale_under_block_answers_fetched}
use Rattle.journal.proofs.Intervals.StoreContents.{store_contents_within}
use Rattle.journal.proofs.Intervals.DirtyPages.{dirty_page_push, dirty_page_replaced}
use Rattle.base.specs.InOrderOnce.{Has, InOrder}
use Rattle.base.specs.AppliedRecords.{records_applied}
use Rattle.base.proofs.JoinedLists.{joined_list_has-map, joined_list_in_order_tail, joined_list_in_order-nil}
use Rattle.base.proofs.SlicesAndCounts.{slice_count_by-within}
use Rattle.base.proofs.RecordWrites.{length-records_applied}
use Rattle.base.proofs.SliceSets.{slice_get-set_found, slice_get-set_other}
use Rattle.interval.specs.SentIntervals.{SentRecord}
use Rattle.page.specs.declared.page.Access.TheVariants.{Invalid}
use Rattle.page.specs.Contents.{ContentsAreClean}
use Rattle.cluster.specs.declared.copies.replica.MissingCounts.{MissingCounts}
use Rattle.book.specs.PageNews.{page_news_of_notice}
use Rattle.cluster.specs.Copies.PageReplica.{PageReplica, page_replica_record_words, page_replica_fetched, IsPageReplica, IsPageReplicaOwner, AllFitPageReplica}
use Rattle.cluster.specs.Copies.MissingRecordCounts.{AreMissingRecordCounts, FitMissingRecordCounts}
use Rattle.cluster.specs.Copies.Local.{Local}
use Rattle.journal.specs.NewestInGap.{AreNewestInGap}
use Rattle.cluster.specs.AccessDone.{access_done_by_fetch}
use Rattle.cluster.specs.ProcessorRefusals.{processor_refusal_of_fetch}
use Rattle.cluster.specs.Copies.Sound.{IsSound}
use Rattle.journal.proofs.Origins.NewestStores.{newest_stores}
use Rattle.cluster.proofs.CountedGapStores.{counted_gap_stores_few}
use Rattle.journal.proofs.Missing.MissingLabels.{missing_labels_words_counted}
use Rattle.cluster.proofs.copies.Replicas.{replica_long, replica_pushed}
use Rattle.cluster.proofs.MayAccessAndFetch.{MayFetch, may_fetch, may_fetch_stale_copy}
use Rattle.cluster.proofs.copies.LoopItems.{loop_item_at}
use Rattle.cluster.proofs.NotedEvents.{noted_event_sound, noted_event_valid_is_not_invalid}

-- rising numbers from b on and below n are few
pub fetched_missing_rising_few : {A : Type 0} (f : A → ℕ) (xs : List A) (b n : ℕ) → b ≤ n → InOrder (λ (x y : A). f x < f y) xs
    → ((x : A) → Has xs x → (b ≤ f x) × (f x < n)) → b + length xs ≤ n
fetched_missing_rising_few f [] b n le order within = omega arith
fetched_missing_rising_few {A} f (x ∷ xs) b n le order within =
    let fetching_missing_replica = within x (zero, refl) in
    let more =
    fetched_missing_rising_few f xs (f x + 1) n (omega arith) (joined_list_in_order_tail (λ (y z : A). f y < f z) x xs order) (λ y h. (
      let less = order zero (suc h.0) x y (omega arith) refl h.1 in
          omega arith,
      (within y (suc h.0, h.1)).1,
    )) in
    omega arith

module _ (m : Local) (sound : IsSound m) (n : ℕ) (c : PageReplica) (at : slice_get m.copies n ≡ Some c)
    (invalid : c.page.access ≡ Invalid) where
  fetched_missing_stale : IsStaleCopy m.sizes m.seen m.block m.number n c.page.words (map page_news_of_notice c.missing)
  fetched_missing_stale = ((sound.copies.each n c at).stale invalid).0

  long : length c.page.words ≡ m.sizes.words
  long = replica_long m.sizes m.seen m.block m.number n (sound.bases n) c (sound.copies.each n c at)

  fetched_missing_here : (x : SentRecord) → Has c.missing x → Has (map page_news_of_notice c.missing) (page_news_of_notice x)
  fetched_missing_here x h = (joined_list_has-map page_news_of_notice c.missing (page_news_of_notice x)).1 (x, h, refl)

  -- each record fits the page
  pub fetched_missing_fit : AllFitPageReplica (length c.page.words) c.missing
  fetched_missing_fit x h = record {
    owner =
        let small =
        (sound.well_formed placed.at (record { processor = x.notice.owner; kind = placed.closes.kind })
        placed.closes.does).processor in
        let few = sound.sizes.processors in omega arith;
    fits = rw long within;
    short =
        let few = sound.sizes.words in
        let all =
        fetched_missing_rising_few (λ (w : ℕ × ℕ). w.0) (page_replica_record_words x) 0 m.sizes.words (omega arith) content.sums.rising (λ w there.
        (omega arith, within w there)) in
        omega arith;
  }
    where
      placed : IsMissingIntervalPlace m.seen x.notice.owner x.notice.number x.place
      placed = fetched_missing_stale.lacks.placed (page_news_of_notice x) (fetched_missing_here x h)

      content : IsIntervalContent m.sizes m.seen x.notice.owner x.notice.number n (page_replica_record_words x)
      content = fetched_missing_stale.lacks.contents (page_news_of_notice x) (fetched_missing_here x h)

      within : (w : ℕ × ℕ) → Has (page_replica_record_words x) w → w.0 < m.sizes.words
      within w there =
          store_contents_within sound.sizes.some_words
          content there

  -- they are few, since each is another closed interval
  fetched_missing_few : length c.missing ≤ length m.seen
  fetched_missing_few =
      let closed = count_by-le-length (λ (e : Event). event_closes e.kind) m.seen in
      let all =
      fetched_missing_rising_few (λ (x : MissingInterval). x.place) (map page_news_of_notice c.missing) 0 (missing_interval_closed_count m.seen) (omega arith)
      (sound.copies.each n c at).order (λ x h. (omega arith, below x h)) in
      let same = length-map c.missing page_news_of_notice in
      omega arith
    where
      below : (x : MissingInterval) → Has (map page_news_of_notice c.missing) x → x.place < missing_interval_closed_count m.seen
      below x h =
          let placed = fetched_missing_stale.lacks.placed x h in
          let less =
          slice_count_by-within (λ (e : Event). event_closes e.kind) m.seen placed.at (record {
            processor = x.owner;
            kind = placed.closes.kind;
          }) placed.closes.does placed.closes.closes in
          let is = placed.before in
          omega arith

  -- the records' words, as the journal has them
  fetched_missing_words_same : map (λ (x : MissingInterval). x.words) (map page_news_of_notice c.missing) ≡ map page_replica_record_words c.missing
  fetched_missing_words_same = map-map (λ (x : MissingInterval). x.words) page_news_of_notice c.missing

  fetched_missing_sums_same : sum_by (λ (x : MissingInterval). length x.words) (map page_news_of_notice c.missing)
      ≡ sum_by (λ (x : SentRecord). length (page_replica_record_words x)) c.missing
  fetched_missing_sums_same =
      sym (sum-map (λ (x : MissingInterval). length x.words) (map page_news_of_notice c.missing))
      ∙ ap sum (map-map (λ (x : MissingInterval). length x.words) page_news_of_notice c.missing)
      ∙ sum-map (λ (x : SentRecord). length (page_replica_record_words x)) c.missing

  -- and so are their words, since each is another store of what was seen
  pub fetched_missing_countable : FitMissingRecordCounts c.missing
  fetched_missing_countable =
      let few = sound.few in
      let records = fetched_missing_few in
      let all =
      counted_gap_stores_few m.sizes m.seen m.number n (sum_by (λ (x : MissingInterval). length x.words) (map page_news_of_notice c.missing))
      (missing_labels_words_counted m.sizes m.seen m.number n (map page_news_of_notice c.missing) fetched_missing_stale.lacks
      (sound.copies.each n c at).order) in
      let same = fetched_missing_sums_same in
      record { records = omega arith; words = omega arith }

  fetched_missing_owners_same : (q : ℕ) → IsPageReplicaOwner c.missing q ↔ ((x : MissingInterval) × Has (map page_news_of_notice c.missing) x × (x.owner ≡ q))
  fetched_missing_owners_same q = (
    (λ h. (page_news_of_notice h.0, fetched_missing_here h.0 h.1, h.2)),
    λ h. let y = (joined_list_has-map page_news_of_notice c.missing h.0).0 h.1 in
        (y.0, y.1, ap (λ (x : MissingInterval). x.owner) y.2 ∙ h.2),
  )

  abbrev new : List ℕ
  new = records_applied c.page.words (map page_replica_record_words c.missing)

  -- each word with stores in the gap has the newest of them
  pub fetched_missing_newest : AreNewestInGap m.sizes m.seen m.number n c.page.words (page_replica_fetched c).page.words
  fetched_missing_newest =
      subst (λ ws. AreNewestInGap m.sizes m.seen m.number n c.page.words (records_applied c.page.words ws)) fetched_missing_words_same
      (newest_stores m.sizes m.seen m.number n (map page_news_of_notice c.missing) fetched_missing_stale.lacks (sound.copies.each n c at).order
      c.page.words)

  module _ (k : MissingCounts) (counts : AreMissingRecordCounts c.missing k) (free : processor_refusal_of_fetch m n ≡ None) where
    abbrev e : Event
    e = event m.number (Fetch k.writers n k.records k.words)

    may : MayFetch m n
    may = may_fetch m n free

    abbrev fetching_missing_bases : ℕ → List ℕ
    fetching_missing_bases = block_with_page n new sound.bases

    fetched_missing_valid : IsValidCopy m.sizes m.seen (m.block ++ e ∷ []) m.number n new new
    fetched_missing_valid =
        subst (λ ws. IsValidCopy m.sizes m.seen (m.block ++ e ∷ []) m.number n (records_applied c.page.words ws)
        (records_applied c.page.words ws)) fetched_missing_words_same
        (stale_under_block_fetched k.writers k.records k.words (sound.copies.each n c at).order fetched_missing_stale)

    fetched_missing_in_block : BlockFetchesCountGaps m.sizes m.seen (m.block ++ e ∷ []) m.number
    fetched_missing_in_block =
        let P : ℕ → ℕ → Type 0 =
        λ r d. BlockFetchesCountGaps m.sizes m.seen (m.block ++ event m.number (Fetch k.writers n r d) ∷ []) m.number in
        subst₂ P (length-map c.missing page_news_of_notice ∙ sym counts.records) (fetched_missing_sums_same ∙ sym counts.words)
        (stale_under_block_counted k.writers
        (sound.copies.each n c at).order
        (gaps_counted_same (IsPageReplicaOwner c.missing) (λ q. (x : MissingInterval) × Has (map page_news_of_notice c.missing) x × (x.owner ≡ q))
        k.writers fetched_missing_owners_same counts.writers) fetched_missing_stale sound.counts)

    fetched_missing_dirty : IsDirty m.sizes (m.seen ++ (m.block ++ e ∷ [])) m.number n new c.page.dirty
    fetched_missing_dirty =
        let clean : c.page.dirty ≡ replicate m.sizes.words false =
        ((sound.copies.each n c at).stale invalid).2 ∙ ap (λ k. replicate k false) long in
        let pushed =
        dirty_page_push e refl refl
        (sound.copies.each n c at).dirty in
        let P : List Bool → Type 0 = λ ms. IsDirty m.sizes ((m.seen ++ m.block) ++ e ∷ []) m.number n c.page.words ms in
        rw (clean, ← append_assoc m.seen m.block (e ∷ []))
        (dirty_page_replaced m.sizes ((m.seen ++ m.block) ++ e ∷ []) m.number n c.page.words new sound.sizes.some_words
        (length-records_applied c.page.words (map page_replica_record_words c.missing) ∙ long) (subst P clean pushed))

    fetching_missing_replica : IsPageReplica m.sizes m.seen (m.block ++ e ∷ []) m.number n new (page_replica_fetched c)
    fetching_missing_replica = record {
      valid = λ _. (fetched_missing_valid, refl);
      stale = λ h. absurd (noted_event_valid_is_not_invalid h);
      order = joined_list_in_order-nil (λ (x y : MissingInterval). x.place < y.place);
      dirty = fetched_missing_dirty;
    }

    fetched_missing_copies : (i : ℕ) (x : PageReplica) → slice_get (slice_set m.copies n (page_replica_fetched c)) i ≡ Some x
        → IsPageReplica m.sizes m.seen (m.block ++ e ∷ []) m.number i (fetching_missing_bases i) x
    fetched_missing_copies i x found = elim (cases_eq i n) [
      | inl same ↦
          (let P : ℕ → Type 0 = λ j. slice_get (slice_set m.copies n (page_replica_fetched c)) j ≡ Some x in
          let is : page_replica_fetched c ≡ x = slice_get-set_found m.copies n (page_replica_fetched c) x (subst P same found) in
          let Q : ℕ → PageReplica → Type 0 = λ j y. IsPageReplica m.sizes m.seen (m.block ++ e ∷ []) m.number j (fetching_missing_bases j) y in
          subst₂ Q (sym same) is (subst (λ b. IsPageReplica m.sizes m.seen (m.block ++ e ∷ []) m.number n b (page_replica_fetched c))
          (sym (block_loads_with_page_same n new sound.bases)) fetching_missing_replica))
      | inr other ↦ subst (λ b. IsPageReplica m.sizes m.seen (m.block ++ e ∷ []) m.number i b x)
          (sym (block_loads_with_page_other n i new sound.bases other))
          (replica_pushed m.sizes m.seen m.block e m.number i (sound.bases i) x x refl refl (record {
            words = refl;
            dirty = refl;
            access = refl;
            missing = refl;
            unfetched =
                λ w r d is. (let kinds : Fetch k.writers n k.records k.words ≡ Fetch w i r d = is in
                let same : n ≡ i = cc in other (sym same));
            away = λ _. ((λ same. other (sym same)), refl);
          }) (sound.copies.each i x (sym (slice_get-set_other m.copies n i (page_replica_fetched c) other) ∙ found)))
    ]

    -- a fetch applies the missing records and counts them
    pub fetched_missing_sound : IsSound (access_done_by_fetch m n c k)
    fetched_missing_sound =
        noted_event_sound m (Fetch k.writers n k.records k.words) (slice_set m.copies n (page_replica_fetched c)) m.stored fetching_missing_bases sound
        (record {
          takes = refl;
          closes = refl;
          range = may.within;
          idle = may.idle;
          room = may.room;
        }) (record {
          answers = stale_under_block_answers_fetched k.writers k.records k.words new fetched_missing_stale sound.answers;
          counts = fetched_missing_in_block;
          copies = record { long = length-set m.copies n (page_replica_fetched c) ∙ sound.copies.long; each = fetched_missing_copies };
          marks = sound.marks;
          clean = clean_now;
        })
      where
        clean_now : (i : ℕ) (x : PageReplica) → slice_get (slice_set m.copies n (page_replica_fetched c)) i ≡ Some x
            → slice_get m.stored i ≡ Some false → ContentsAreClean x.page
        clean_now i x found unmarked = elim (cases_eq i n) [
          | inl same ↦
              (let P : ℕ → Type 0 = λ j. slice_get (slice_set m.copies n (page_replica_fetched c)) j ≡ Some x in
              let is : page_replica_fetched c ≡ x = slice_get-set_found m.copies n (page_replica_fetched c) x (subst P same found) in
              let clean = ((sound.copies.each n c at).stale invalid).2 in
              subst (λ (y : PageReplica). ContentsAreClean y.page) is (clean ∙ ap (λ j. replicate j false)
              (sym (length-records_applied c.page.words (map page_replica_record_words c.missing)))))
          | inr other ↦ sound.clean i x (sym (slice_get-set_other m.copies n i (page_replica_fetched c) other) ∙ found) unmarked
        ]

-- the copy that is read at the page is the processor's, and stale
pub fetched_missing_stale_read : (was m : Local) (n : ℕ) (x : PageReplica) → was ≡ m → processor_refusal_of_fetch m n ≡ None → x ≡ get_or was.copies n x
    → IsSound m → (slice_get m.copies n ≡ Some x) × (x.page.access ≡ Invalid)
fetched_missing_stale_read was m n x same free read sound =
    let P : List PageReplica → Type 0 = λ xs. x ≡ get_or xs n x in
    let within = (may_fetch m n free).within in
    let long = sound.copies.long in
    let at = loop_item_at m.copies n x (omega arith) (subst P (ap (λ (l : Local). l.copies) same) read) in
    (at, may_fetch_stale_copy m n x free at)

-- the parts of a processor after a fetch
pub fetching_missing_done : (was m : Local) (n : ℕ) (x y : PageReplica) (k : MissingCounts) (block : List Event) → was ≡ m → y ≡ page_replica_fetched x
    → block ≡ was.block ++ event was.number (Fetch k.writers n k.records k.words) ∷ []
    → record was { block = block; copies = slice_set was.copies n y } ≡ access_done_by_fetch m n x k
fetching_missing_done was m n x y k block same y_is block_is =
    rw (y_is, block_is) (ap (λ (l : Local). record l {
      block = l.block ++ event l.number
          (Fetch k.writers n k.records k.words) ∷ [];
      copies = slice_set l.copies n (page_replica_fetched x);
    }) same)
