-- What holds of a processor by what it has seen holds by every history that goes on without it.
use Rattle.std.proofs.Common.{ℕ, zero, suc, ◌≡◌, ◌≢◌, ◌<◌, ◌+◌, ◌/◌, ◌↔◌, arith, get_or, length, Option, Some, None, List, [], ◌∷◌, ◌++◌, map, slice_index, ne_eqb, refl, sym, subst, ◌∙◌, append-nil, slice_get, take, ap}
use Rattle.std.proofs.lemmas.List.Elements.{filter-append}
use Rattle.std.proofs.lemmas.Nat.{div_below}
use Rattle.std.proofs.lemmas.Option.{none-some, slice_get-get_or}
use Rattle.journal.specs.declared.event.Event.{Event}
use Rattle.journal.specs.declared.event.Kind.{Kind}
use Rattle.journal.specs.Events.{EventAt, events_of}
use Rattle.journal.specs.WellFormed.{Does, WellFormed}
use Rattle.std.proofs.lemmas.Bool.{false≢true}
use Rattle.base.proofs.SlicesAndCounts.{slice_get-from_take, slice_get-take_within}
use Rattle.journal.specs.DidEvent.{event}
use Rattle.journal.specs.declared.event.Kind.TheVariants.{Fetch}
use Rattle.journal.specs.PageImages.{GapCounts}
use Rattle.journal.specs.AwaitedNext.{AwaitsNothingNext}
use Rattle.journal.specs.ExplainedAnswers.{Explained}
use Rattle.journal.specs.FetchesCountGaps.{FetchesCountGaps}
use Rattle.journal.specs.CopyAnswers.{AnswersCopies, IsCopyAnswer}
use Rattle.journal.specs.CopyOrigins.{AreCopyOrigins}
use Rattle.journal.specs.DidEvent.{event}
use Rattle.journal.specs.declared.event.Kind.TheVariants.{Load}
use Rattle.journal.specs.BroughtCopy.{BroughtCopyHasNoGap}
use Rattle.journal.proofs.OwnBlocks.{IsBlock}
use Rattle.journal.specs.ValidAndStaleCopy.{IsStaleCopy}
use Rattle.journal.proofs.Journals.MayGoOn.{may_go_on_plain_block}
use Rattle.journal.proofs.Journals.WellFormedStays.{well_formed_stays_last_shorter}
use Rattle.journal.proofs.Times.BlockTime.{block_time}
use Rattle.journal.proofs.Times.PushedTimes.{pushed_time_others}
use Rattle.journal.proofs.CopyOfPage.BlockLoads.{block_loads_explained, block_loads_others}
use Rattle.journal.proofs.CopyOfPage.UnderBlock.{valid_under_block_others, valid_under_block_lawful, valid_under_block_no_gap, stale_under_block_others, stale_under_block_gap}
use Rattle.journal.proofs.Missing.GapsCounted.{gaps_counted_block_others, gaps_counted_block, gaps_counted_on}
use Rattle.journal.proofs.Origins.BlockOrigins.{block_origin_answers, block_origins_others, block_origins_handed, block_origins_copy_others, block_origins_untouched}
use Rattle.journal.proofs.Origins.WordOrigins.{origin_word_answers_on}
use Rattle.journal.proofs.CopyOfPage.CompleteCopies.{complete_copy_block_gap}
use Rattle.interval.specs.SentIntervals.{SentRecord}
use Rattle.page.specs.declared.page.Access.{Access}
use Rattle.page.specs.declared.page.Access.TheVariants.{Valid, Invalid}
use Rattle.book.specs.PageNews.{page_news_of_notice}
use Rattle.cluster.specs.Copies.PageReplica.{PageReplica, IsPageReplica, may_use_page_replica}
use Rattle.cluster.specs.Copies.Local.{Local, blank_local_copy}
use Rattle.cluster.specs.Copies.Sound.{IsSound}
use Rattle.cluster.specs.KeptViews.{view_having_seen}
use Rattle.cluster.specs.Covers.{IsCoverAllowedByLock, IsCovered, HasCoverage, IsCoveredAlone}
use Rattle.cluster.specs.ProcessorRefusals.{processor_refusal_copy_serves}
use Rattle.cluster.proofs.MayAccessAndFetch.{may_access_serving}

-- events of others have no part of p
pub covering_history_part_away : (es : List Event) (p : ℕ) → ((k : ℕ) (e : Event) → EventAt es k e → e.processor ≢ p) → events_of es p ≡ []
covering_history_part_away [] p away = refl
covering_history_part_away (e ∷ es) p away = rw (ne_eqb e.processor p (away zero e refl)) (covering_history_part_away es p (λ k f at. away (suc k) f at))

module _ (m : Local) (sound : IsSound m) where
  pub covering_history_block : IsBlock m.number m.block
  covering_history_block k e at = let inner = sound.inner k e at in (inner.mine, inner.takes)

  -- who waits for nothing may go on with its block
  pub covering_history_block_follows : (rest : List Event) → ((k : ℕ) (e : Event) → EventAt rest k e → e.processor ≢ m.number)
      → WellFormed m.sizes (m.seen ++ rest) → WellFormed m.sizes ((m.seen ++ rest) ++ m.block)
  covering_history_block_follows rest away well = go m.awaits refl
    where
      go : (o : Option Kind) → m.awaits ≡ o → WellFormed m.sizes ((m.seen ++ rest) ++ m.block)
      go None none =
          let idle : AwaitsNothingNext (m.seen ++ rest) m.number =
          λ i a last. sym (sound.awaits.last i a (well_formed_stays_last_shorter m.seen rest m.number i a away last)) ∙ none in
          (may_go_on_plain_block m.sizes (m.seen ++ rest) m.block m.number sound.mine well idle (λ k e at.
          let inner = sound.inner k e at in record {
            mine = inner.mine;
            takes = inner.takes;
            closes = inner.closes;
            in_range = inner.in_range;
          })).0
      go (Some k) some = rw (sound.quiet (λ none. none-some k (sym none ∙ some)), append-nil) well

  module _ (rest : List Event) (away : (k : ℕ) (e : Event) → EventAt rest k e → e.processor ≢ m.number) where
    -- a copy is valid exactly where it lacks nothing
    covering_history_valid_without_gap : (n : ℕ) (c : PageReplica) → IsPageReplica m.sizes m.seen m.block m.number n (sound.bases n) c
        → c.page.access ≡ Valid ↔ BroughtCopyHasNoGap m.sizes ((m.seen ++ rest) ++ m.block) m.number n
    covering_history_valid_without_gap n c r = (
      (λ valid. valid_under_block_no_gap m.sizes (m.seen ++ rest) m.block m.number n (sound.bases n) c.page.words covering_history_block
          (valid_under_block_others rest away
          (r.valid valid).0)),
      (λ none. go c.page.access refl none),
    )
      where
        lacks : (missing : List SentRecord) → missing ≢ []
            → IsStaleCopy m.sizes (m.seen ++ rest) m.block m.number n c.page.words (map page_news_of_notice missing)
            → BroughtCopyHasNoGap m.sizes ((m.seen ++ rest) ++ m.block) m.number n → ⊥
        lacks [] some stale none = some refl
        lacks (x ∷ xs) some stale none =
            let gap =
            stale_under_block_gap
            covering_history_block stale in
            none gap.0 gap.1

        go : (a : Access) → c.page.access ≡ a → BroughtCopyHasNoGap m.sizes ((m.seen ++ rest) ++ m.block) m.number n
            → c.page.access ≡ Valid
        go Valid is none = is
        go Invalid is none =
            let s = r.stale is in
            absurd (lacks c.missing s.1 (stale_under_block_others rest away s.0) none)

    -- its words are those of their origins
    covering_history_origins : (n : ℕ) (c : PageReplica) → IsPageReplica m.sizes m.seen m.block m.number n (sound.bases n) c
        → AreCopyOrigins m.sizes ((m.seen ++ rest) ++ m.block) m.number n c.page.words
    covering_history_origins n c r = go c.page.access refl
      where
        go : (a : Access) → c.page.access ≡ a → AreCopyOrigins m.sizes ((m.seen ++ rest) ++ m.block) m.number n c.page.words
        go Valid is =
            let v = (r.valid is).0 in block_origins_handed covering_history_block v.gives (block_origins_others rest away v.origins)
        go Invalid is =
            let st = (r.stale is).0 in
            block_origins_untouched m.block (λ k e at _. st.untouched k e at) (block_origins_copy_others rest away st.origins)

    -- and each load of the block answers such a word
    covering_history_loads : (k a v : ℕ) → Does m.block k m.number (Load a v)
        → IsCopyAnswer m.sizes ((m.seen ++ rest) ++ m.block) m.number a (length (m.seen ++ rest) + k) v
    covering_history_loads k a v does = go copy.page.access refl
      where
        within : a / m.sizes.words < m.sizes.pages
        within = div_below a m.sizes.words m.sizes.pages sound.sizes.some_words (sound.inner k (event m.number (Load a v)) does).in_range

        copy : PageReplica
        copy = get_or m.copies (a / m.sizes.words) (blank_local_copy m.sizes)

        replica : IsPageReplica m.sizes m.seen m.block m.number (a / m.sizes.words) (sound.bases (a / m.sizes.words)) copy
        replica =
            sound.copies.each (a / m.sizes.words) copy
            (slice_get-get_or m.copies (a / m.sizes.words) (blank_local_copy m.sizes) (let long = sound.copies.long in let low = within in omega arith))

        go : (x : Access) → copy.page.access ≡ x
            → IsCopyAnswer m.sizes ((m.seen ++ rest) ++ m.block) m.number a (length (m.seen ++ rest) + k) v
        go Valid is =
            block_origin_answers k a v (sound.bases (a / m.sizes.words)) covering_history_block
            (block_origins_others rest away (replica.valid is).0.origins) does (sound.answers.answers k a v does)
        go Invalid is = absurd ((replica.stale is).0.untouched k (event m.number (Load a v)) does refl)

    covering_history_copied : AnswersCopies m.sizes (m.seen ++ rest) → AnswersCopies m.sizes ((m.seen ++ rest) ++ m.block)
    covering_history_copied =
        origin_word_answers_on m.sizes (m.seen ++ rest) m.block (λ k p a v does.
        (let mine : p ≡ m.number = (covering_history_block k (event p (Load a v)) does).0 in
        let P : ℕ → Type 0 = λ q. Does m.block k q (Load a v) in
        let Q : ℕ → Type 0 =
        λ q. IsCopyAnswer m.sizes ((m.seen ++ rest) ++ m.block) q a (length (m.seen ++ rest) + k) v in
        subst Q (sym mine) (covering_history_loads k a v (subst P mine does))))

    pub covering_history_goes_on : WellFormed m.sizes (m.seen ++ rest) → Explained (m.seen ++ rest)
        → FetchesCountGaps m.sizes (m.seen ++ rest) → AnswersCopies m.sizes (m.seen ++ rest) → IsCovered m (m.seen ++ rest)
    covering_history_goes_on well explained counted copied = record {
      well_formed = covering_history_block_follows rest away well;
      calls_are = rw (filter-append, covering_history_part_away rest m.number away, append-nil);
      time =
          block_time (m.seen ++ rest) m.block m.number (slice_index m.time) covering_history_block (λ k e at.
          (sound.inner k e at).closes)
          (pushed_time_others m.seen rest m.number (slice_index m.time) away sound.time.is);
      valid = λ n c at. covering_history_valid_without_gap n c (sound.copies.each n c at);
      lawful =
          λ n c at valid. valid_under_block_lawful m.sizes (m.seen ++ rest) m.block m.number n (sound.bases n) c.page.words
          covering_history_block (valid_under_block_others rest away
          ((sound.copies.each n c at).valid valid).0);
      explained =
          block_loads_explained m.sizes (m.seen ++ rest) m.block m.number sound.bases covering_history_block
          (block_loads_others m.sizes m.seen rest m.block m.number sound.bases away sound.answers) explained;
      counted =
          gaps_counted_block m.sizes (m.seen ++ rest) m.block m.number covering_history_block
          (gaps_counted_block_others m.sizes m.seen rest m.block m.number away sound.counts) counted;
      copied = covering_history_copied copied;
      origins = λ n c at. covering_history_origins n c (sound.copies.each n c at);
    }

  -- by what it has seen itself it lacks nothing of a copy exactly if that is valid
  covering_history_alone_without_gap : (n : ℕ) (c : PageReplica) → slice_get m.copies n ≡ Some c
      → c.page.access ≡ Valid ↔ BroughtCopyHasNoGap m.sizes (m.seen ++ m.block) m.number n
  covering_history_alone_without_gap n c at =
      let P : List Event → Type 0 = λ es. c.page.access ≡ Valid ↔ BroughtCopyHasNoGap m.sizes (es ++ m.block) m.number n in
      subst P (append-nil m.seen)
      (covering_history_valid_without_gap [] (λ k e none. absurd (none-some e none)) n c (sound.copies.each n c at))

  -- a fetch of its block counts the gap before it
  covering_history_alone_counted : (k n w r d : ℕ) → Does m.block k m.number (Fetch w n r d)
      → GapCounts m.sizes (m.seen ++ take k m.block) m.number n w r d
  covering_history_alone_counted k n w r d does =
      gaps_counted_on (sound.counts.counts k n w r d does) (take k m.block)
      (λ i. complete_copy_block_gap m.sizes m.seen (take k m.block) m.number n i
      (λ j e at. covering_history_block j e (slice_get-from_take m.block k j e at))
      (λ j w' r' d' at. sound.counts.first j k n w r d w' r' d'
      (slice_get-take_within m.block k j (event m.number (Fetch w' n r' d')) at) does
      (slice_get-from_take m.block k j (event m.number (Fetch w' n r' d')) at)))

  covering_history_alone : IsCoveredAlone m
  covering_history_alone = record {
    own = λ k e at. (covering_history_block k e at).0;
    valid = λ n is.
        let found = may_access_serving (slice_get m.copies n) is in
        (covering_history_alone_without_gap n found.0 found.1).0 found.2;
    stale = λ n less is none.
        let long = sound.copies.long in
        let c = get_or m.copies n (blank_local_copy m.sizes) in
        let at : slice_get m.copies n ≡ Some c = slice_get-get_or m.copies n (blank_local_copy m.sizes) (omega (arith, long, less)) in
        let valid = (covering_history_alone_without_gap n c at).1 none in
        false≢true (sym is ∙ ap processor_refusal_copy_serves at ∙ ap may_use_page_replica valid);
    counted = covering_history_alone_counted;
  }

  -- every history that the lock allows covers the processor
  pub covers : HasCoverage m
  covers = record { each = each; alone = covering_history_alone }
    where
      each : (h : List Event) → IsCoverAllowedByLock m h → IsCovered m h
      each h allows =
          let goes = allows.kept.each m.number (view_having_seen m.sizes m.seen m.cut m.own_cut) allows.mine in
          let P : List Event → Type 0 = λ es. WellFormed m.sizes es in
          let Q : List Event → Type 0 = λ es. FetchesCountGaps m.sizes es in
          let R : List Event → Type 0 = λ es. AnswersCopies m.sizes es in
          subst (IsCovered m) (sym goes.begins)
          (covering_history_goes_on goes.rest goes.away (subst P goes.begins allows.kept.told.well_formed)
          (subst Explained goes.begins allows.kept.explained) (subst Q goes.begins allows.kept.counted)
          (subst R goes.begins allows.kept.copied))
