-- What a taking does to a copy of a page.
use Rattle.std.proofs.Common.{ℕ, zero, ◌≡◌, ◌≢◌, ◌↔◌, ◌⊎◌, inl, inr, true, false, true≢false, None, List, [], ◌∷◌, ◌++◌, map, refl, sym, ap, subst, ◌∙◌, append-nil}
use Rattle.journal.specs.declared.event.Event.{Event}
use Rattle.journal.specs.declared.event.Kind.{Kind}
use Rattle.journal.specs.declared.event.Kind.TheVariants.{Store, Acquire, Depart, Await}
use Rattle.journal.specs.DidEvent.{event, did}
use Rattle.journal.specs.Sizes.{Sizes}
use Rattle.journal.specs.Events.{event_closes, event_takes}
use Rattle.journal.specs.AwaitedNext.{awaited_next}
use Rattle.journal.specs.Times.{IsTimeOf}
use Rattle.journal.specs.Blocks.{block_write}
use Rattle.journal.specs.Dirty.{IsDirty}
use Rattle.journal.specs.MissingIntervals.{MissingInterval, AreMissingIntervalsOfNotices}
use Rattle.journal.specs.ValidAndStaleCopy.{IsStaleCopy}
use Rattle.journal.proofs.CopyOfPage.UnderBlock.{valid_under_block_taken, valid_under_block_staled, stale_under_block_taken}
use Rattle.journal.proofs.Intervals.DirtyPages.{dirty_page_push}
use Rattle.journal.proofs.Missing.StillMissing.{still_missing_same}
use Rattle.base.specs.InOrderOnce.{Has}
use Rattle.base.proofs.JoinedLists.{joined_list_has-nil, joined_list_has-append, joined_list_has-map}
use Rattle.page.specs.declared.page.Access.{Access}
use Rattle.page.specs.declared.page.Access.TheVariants.{Valid, Invalid}
use Rattle.page.specs.Contents.{Contents, ContentsAreClean}
use Rattle.interval.specs.SentIntervals.{SentRecord}
use Rattle.book.specs.PageNews.{page_news_of_notice}
use Rattle.cluster.specs.Copies.PageReplica.{PageReplica, IsPageReplica}
use Rattle.cluster.specs.Copies.AfterNews.{IsSameCopyAfterNews, IsAfterNews}
use Rattle.cluster.proofs.copies.Replicas.{replica_same}

-- what takes closes no interval
pub taken_closes_none : (k : Kind) → event_takes k ≡ true → event_closes k ≡ false
taken_closes_none (Acquire l) takes = refl
taken_closes_none Depart takes = refl
taken_closes_none (Await f) takes = refl
taken_closes_none _ takes = absurd (true≢false (sym takes))

-- and waits for nothing
pub taken_awaits_none : (k : Kind) → event_takes k ≡ true → awaited_next k ≡ None
taken_awaits_none (Acquire l) takes = refl
taken_awaits_none Depart takes = refl
taken_awaits_none (Await f) takes = refl
taken_awaits_none _ takes = absurd (true≢false (sym takes))

-- it stores in no page
taken_writes_none : (s : Sizes) (n : ℕ) (k : Kind) → event_takes k ≡ true → block_write s n k ≡ None
taken_writes_none s n (Store a v) takes = absurd (true≢false (sym takes))
taken_writes_none s n _ takes = refl

-- a stale copy may list what it lacks in another order
taken_stale_same : (s : Sizes) (j block : List Event) (p n : ℕ) (page : List ℕ) (missing other : List MissingInterval)
    → ((x : MissingInterval) → Has missing x ↔ Has other x)
    → IsStaleCopy s j block p n page missing
    → IsStaleCopy s j block p n page other
taken_stale_same s j block p n page missing other same stale = record {
  copy = stale.copy;
  lacks = still_missing_same s j p n missing other same stale.lacks;
  untouched = stale.untouched;
  origins = stale.origins;
}

module _ (c d : PageReplica) (news : List SentRecord) (after : IsAfterNews c news d) where
  -- news leave the words of a copy, and its marks
  pub taken_news_keep : (d.page.words ≡ c.page.words) × (d.page.dirty ≡ c.page.dirty)
  taken_news_keep = go news after
    where
      go : (sent : List SentRecord) → IsAfterNews c sent d
          → (d.page.words ≡ c.page.words) × (d.page.dirty ≡ c.page.dirty)
      go [] is =
          let same = (is.none refl).page in
          (ap (λ (x : Contents). x.words) same, ap (λ (x : Contents). x.dirty) same)
      go (x ∷ xs) is =
          let same = is.page (λ none. cc) in
          (ap (λ (y : Contents). y.words) same, ap (λ (y : Contents). y.dirty) same)

  -- so a clean copy is clean after
  pub taken_news_clean : ContentsAreClean c.page → ContentsAreClean d.page
  taken_news_clean clean = rw (taken_news_keep.0, taken_news_keep.1) clean

  -- the copy lacks what it lacked, and the news
  taken_copy_lacks : (x : MissingInterval)
      → Has (map page_news_of_notice c.missing ++ map page_news_of_notice news) x ↔ Has (map page_news_of_notice d.missing) x
  taken_copy_lacks x = (there, back)
    where
      add : (y : SentRecord) → page_news_of_notice y ≡ x → Has c.missing y ⊎ Has news y → Has (map page_news_of_notice d.missing) x
      add y is has = (joined_list_has-map page_news_of_notice d.missing x).1 (y, (after.lacks y).1 has, is)

      there : Has (map page_news_of_notice c.missing ++ map page_news_of_notice news) x → Has (map page_news_of_notice d.missing) x
      there has = elim ((joined_list_has-append (map page_news_of_notice c.missing) (map page_news_of_notice news) x).0 has) [
        | inl old ↦ (let y = (joined_list_has-map page_news_of_notice c.missing x).0 old in add y.0 y.2 (inl y.1))
        | inr new ↦ (let y = (joined_list_has-map page_news_of_notice news x).0 new in add y.0 y.2 (inr y.1))
      ]

      back : Has (map page_news_of_notice d.missing) x → Has (map page_news_of_notice c.missing ++ map page_news_of_notice news) x
      back has =
          let y = (joined_list_has-map page_news_of_notice d.missing x).0 has in
          (joined_list_has-append (map page_news_of_notice c.missing) (map page_news_of_notice news) x).1 (elim ((after.lacks y.0).0 y.1) [
            | inl old ↦ inl ((joined_list_has-map page_news_of_notice c.missing x).1 (y.0, old, y.2))
            | inr new ↦ inr ((joined_list_has-map page_news_of_notice news x).1 (y.0, new, y.2))
          ])

-- what comes to a copy comes to one that is the same but for its room
pub taken_news_same : (c d e : PageReplica) (news : List SentRecord) → IsSameCopyAfterNews c d → IsAfterNews d news e
    → IsAfterNews c news e
taken_news_same c d e news same after = record {
  none = λ none. let still = after.none none in record {
    page = still.page ∙ same.page;
    missing = still.missing ∙ same.missing;
  };
  page = λ some. after.page some ∙ ap (λ (p : Contents). record p { access = Invalid }) same.page;
  lacks = λ x.
      let P : List SentRecord → Type 0 = λ xs. Has e.missing x ↔ (Has xs x ⊎ Has news x) in
      subst P same.missing (after.lacks x);
  order = after.order;
}

module _ (s : Sizes) (seen : List Event) (p n : ℕ) (k : Kind) (t t' : ℕ → ℕ) (base : List ℕ) (c : PageReplica)
    (takes : event_takes k ≡ true)
    (time : IsTimeOf seen p t)
    (after_time : IsTimeOf (did seen p k) p t')
    (r : IsPageReplica s seen [] p n base c)
  where
    -- a taking leaves the dirty bits
    taken_dirty_same : IsDirty s (did seen p k ++ []) p n c.page.words c.page.dirty
    taken_dirty_same =
        let old = rw append-nil at r.dirty in
        let now = dirty_page_push (event p k) refl (taken_closes_none k takes) old in
        rw append-nil (rw (taken_writes_none s n k takes) at now)

    -- without news the copy stays as it is
    taken_without_news : AreMissingIntervalsOfNotices s seen p n t t' [] → IsPageReplica s (did seen p k) [] p n c.page.words c
    taken_without_news none = record {
      valid = λ h. let old = r.valid h in (
        valid_under_block_taken k takes time after_time none old.0,
        old.1,
      );
      stale = λ h. let old = r.stale h in (
        let lacking = map page_news_of_notice c.missing in
            rw append-nil at (stale_under_block_taken k takes time after_time none old.0),
        old.1,
        old.2,
      );
      order = r.order;
      dirty = taken_dirty_same;
    }

    -- with news it is stale
    taken_with_news : (new : List MissingInterval) → AreMissingIntervalsOfNotices s seen p n t t' new
        → IsStaleCopy s (did seen p k) [] p n c.page.words (map page_news_of_notice c.missing ++ new)
    taken_with_news new news = go c.page.access refl
      where
        go : (a : Access) → c.page.access ≡ a
            → IsStaleCopy s (did seen p k) [] p n c.page.words (map page_news_of_notice c.missing ++ new)
        go Valid is =
            let old = r.valid is in
            rw (old.1) (valid_under_block_staled k takes time after_time news old.0)
        go Invalid is =
            let lacking = map page_news_of_notice c.missing in
            stale_under_block_taken k takes time after_time news (r.stale is).0

    -- a taking that brings news of the page, or none
    pub taken_replica : (d : PageReplica) (sent : List SentRecord) → AreMissingIntervalsOfNotices s seen p n t t' (map page_news_of_notice sent)
        → ContentsAreClean c.page
        → IsAfterNews c sent d
        → IsPageReplica s (did seen p k) [] p n d.page.words d
    taken_replica d [] news clean after =
        let P : Contents → Type 0 = λ x. IsPageReplica s (did seen p k) [] p n x.words d in
        let same = replica_same s (did seen p k) [] p n c.page.words c d (after.none refl) (taken_without_news news) in
        subst P (sym (after.none refl).page) same
    taken_replica d (x ∷ xs) news clean after = record {
      valid = λ valid. absurd (cc (valid, invalid));
      stale = λ _. (rw (kept.0) stale, some, taken_news_clean c d (x ∷ xs) after clean);
      order = after.order;
      dirty = rw (kept.0, kept.1) taken_dirty_same;
    }
      where
        stale : IsStaleCopy s (did seen p k) [] p n c.page.words (map page_news_of_notice d.missing)
        stale =
            let lacking = map page_news_of_notice c.missing ++ map page_news_of_notice (x ∷ xs) in
            let same = taken_copy_lacks c d (x ∷ xs) after in
            let was = taken_with_news (map page_news_of_notice (x ∷ xs)) news in
            taken_stale_same s (did seen p k) [] p n c.page.words lacking (map page_news_of_notice d.missing) same was

        kept : (d.page.words ≡ c.page.words) × (d.page.dirty ≡ c.page.dirty)
        kept = taken_news_keep c d (x ∷ xs) after

        invalid : d.page.access ≡ Invalid
        invalid = ap (λ (y : Contents). y.access) (after.page (λ none. cc))

        some : d.missing ≢ []
        some none =
            let here = (after.lacks x).1 (inr (zero, refl)) in
            joined_list_has-nil x (subst (λ (ys : List SentRecord). Has ys x) none here)
