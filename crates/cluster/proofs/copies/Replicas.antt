-- What each call does to a copy of a page.
use Rattle.std.proofs.Common.{ℕ, ◌≡◌, ◌≢◌, true, false, true≢false, inl, inr, List, [], ◌∷◌, ◌++◌, None, map, length, replicate, refl, sym, ap, subst, ◌∙◌, append_assoc, append-nil}
use Rattle.std.proofs.lemmas.Option.{none-some}
use Rattle.journal.specs.declared.event.Event.{Event}
use Rattle.journal.specs.declared.event.Kind.{Kind}
use Rattle.journal.specs.declared.event.Kind.TheVariants.{Load, Store, Fetch, Ask, Release, Arrive, Set, Watch}
use Rattle.journal.specs.DidEvent.{event, did}
use Rattle.journal.specs.Sizes.{Sizes}
use Rattle.journal.specs.Events.{EventAt, event_closes, event_takes}
use Rattle.journal.specs.Blocks.{block_write}
use Rattle.journal.proofs.OwnBlocks.{IsBlock}
use Rattle.journal.specs.CopyOrigins.{TouchesCopy}
use Rattle.journal.specs.ValidAndStaleCopy.{IsValidCopy, IsStaleCopy}
use Rattle.journal.specs.IntervalContents.{open_interval_contents}
use Rattle.journal.specs.Dirty.{IsDirty}
use Rattle.journal.proofs.CopyOfPage.UnderBlock.{valid_under_block_push, stale_under_block_push, valid_under_block_others, stale_under_block_others, valid_under_block_handed, stale_under_block_handed}
use Rattle.journal.proofs.Intervals.DirtyPages.{dirty_page_push, dirty_page_others, dirty_page_closing}
use Rattle.base.specs.LastWrite.{wrote}
use Rattle.base.specs.AppliedRecords.{mark_write}
use Rattle.base.proofs.LastWritten.{length-written}
use Rattle.base.proofs.SlicesAndCounts.{slice_push_cases}
use Rattle.page.specs.declared.page.Access.TheVariants.{Invalid}
use Rattle.page.specs.Contents.{ContentsAreClean}
use Rattle.book.specs.PageNews.{page_news_of_notice}
use Rattle.cluster.specs.Copies.PageReplica.{PageReplica, IsPageReplica}
use Rattle.cluster.specs.Copies.AfterNews.{IsSameCopyAfterNews, copy_cleaned_after_news}

-- a copy has as many words as its page
pub replica_long : (s : Sizes) (seen block : List Event) (p n : ℕ) (base : List ℕ) (c : PageReplica)
    → IsPageReplica s seen block p n base c
    → length c.page.words ≡ s.words
replica_long s seen block p n base c r =
    let f = λ (e : Event). block_write s n e.kind in
    ap length r.dirty.page_is ∙ length-written f r.dirty.clean (open_interval_contents (seen ++ block) p) ∙ r.dirty.long

-- a copy's room is no matter
pub replica_same : (s : Sizes) (seen block : List Event) (p n : ℕ) (base : List ℕ) (c d : PageReplica)
    → IsSameCopyAfterNews c d
    → IsPageReplica s seen block p n base c
    → IsPageReplica s seen block p n base d
replica_same s seen block p n base c d same r = record {
  valid = rw (same.page, same.missing) r.valid;
  stale = rw (same.page, same.missing) r.stale;
  order = rw (same.missing) r.order;
  dirty = rw (same.page) r.dirty;
}

-- the copy d is c after an event of the block that doesn't fetch the page
pub record IsReplicaAfterEvent (s : Sizes) (n : ℕ) (e : Event) (c d : PageReplica) : Type 0 where
  pub words : d.page.words ≡ wrote c.page.words (block_write s n e.kind)
  pub dirty : d.page.dirty ≡ mark_write c.page.dirty (block_write s n e.kind)
  pub access : d.page.access ≡ c.page.access
  pub missing : d.missing ≡ c.missing
  pub unfetched : (w r d : ℕ) → e.kind ≢ Fetch w n r d
  pub away : c.page.access ≡ Invalid → (¬ TouchesCopy s n e.kind) × (block_write s n e.kind ≡ None)

-- an event of the block that doesn't use a stale copy
pub replica_pushed : (s : Sizes) (seen block : List Event) (e : Event) (p n : ℕ) (base : List ℕ) (c d : PageReplica)
    → e.processor ≡ p
    → event_closes e.kind ≡ false
    → IsReplicaAfterEvent s n e c d
    → IsPageReplica s seen block p n base c
    → IsPageReplica s seen (block ++ e ∷ []) p n base d
replica_pushed s seen block e p n base c d mine inner after r = record {
  valid = λ h. let old = r.valid (sym after.access ∙ h) in (valid old.0, after.missing ∙ old.1);
  stale = stale;
  order = rw (after.missing) r.order;
  dirty =
      let now = dirty_page_push e mine inner r.dirty in
      rw (after.words, after.dirty, ← append_assoc seen block (e ∷ [])) now;
}
  where
    valid : IsValidCopy s seen block p n base c.page.words → IsValidCopy s seen (block ++ e ∷ []) p n base d.page.words
    valid old =
        let now =
        valid_under_block_push s seen block e p n base c.page.words
        (λ w r x is. after.unfetched w r x (ap (λ (f : Event). f.kind) is)) old in
        subst (IsValidCopy s seen (block ++ e ∷ []) p n base) (sym after.words) now

    stale : d.page.access ≡ Invalid
        → IsStaleCopy s seen (block ++ e ∷ []) p n d.page.words (map page_news_of_notice d.missing)
        × (d.missing ≢ [])
        × ContentsAreClean d.page
    stale h =
        let was = sym after.access ∙ h in
        let old = r.stale was in
        let away = after.away was in
        let words : d.page.words ≡ c.page.words = after.words ∙ ap (wrote c.page.words) away.1 in
        let dirty : d.page.dirty ≡ c.page.dirty = after.dirty ∙ ap (mark_write c.page.dirty) away.1 in
        let now = stale_under_block_push e away.0 old.0 in (
          rw (words, after.missing) now,
          (λ none. old.1 (sym after.missing ∙ none)),
          rw (words) (dirty ∙ old.2),
        )

-- others' events
pub replica_others : (s : Sizes) (seen rest block : List Event) (p n : ℕ) (base : List ℕ) (c : PageReplica)
    → ((k : ℕ) (e : Event) → EventAt rest k e → e.processor ≢ p)
    → IsPageReplica s seen block p n base c
    → IsPageReplica s (seen ++ rest) block p n base c
replica_others s seen rest block p n base c away r = record {
  valid = λ h. let old = r.valid h in (valid_under_block_others rest away old.0, old.1);
  stale = λ h. let old = r.stale h in (
    stale_under_block_others rest away old.0,
    old.1,
    old.2,
  );
  order = r.order;
  dirty = dirty_page_others seen rest block away r.dirty;
}

-- the block is handed in
pub replica_handed : (s : Sizes) (seen block : List Event) (p n : ℕ) (base : List ℕ) (c : PageReplica)
    → IsBlock p block
    → IsPageReplica s seen block p n base c
    → IsPageReplica s (seen ++ block) [] p n c.page.words c
replica_handed s seen block p n base c is r = record {
  valid = λ h. let old = r.valid h in (valid_under_block_handed s seen block p n base c.page.words is old.0, old.1);
  stale = λ h. let old = r.stale h in (
    stale_under_block_handed s seen block p n c.page.words (map page_news_of_notice c.missing) is old.0,
    old.1,
    old.2,
  );
  order = r.order;
  dirty = rw append-nil r.dirty;
}

-- what closes an interval takes nothing
pub replica_closing_takes : (k : Kind) → event_closes k ≡ true → event_takes k ≡ false
replica_closing_takes (Ask l) closes = refl
replica_closing_takes (Release l) closes = refl
replica_closing_takes Arrive closes = refl
replica_closing_takes (Set f) closes = refl
replica_closing_takes (Watch f) closes = refl
replica_closing_takes _ closes = absurd (true≢false (sym closes))

-- it touches no page
pub replica_closing_touches : (s : Sizes) (n : ℕ) (k : Kind) → event_closes k ≡ true → ¬ TouchesCopy s n k
replica_closing_touches s n (Load a v) closes = absurd (true≢false (sym closes))
replica_closing_touches s n (Store a v) closes = absurd (true≢false (sym closes))
replica_closing_touches s n (Fetch w m r d) closes = absurd (true≢false (sym closes))
replica_closing_touches s n _ closes = λ h. h

-- and stores in none
pub replica_closing_writes : (s : Sizes) (n : ℕ) (k : Kind) → event_closes k ≡ true → block_write s n k ≡ None
replica_closing_writes s n (Store a v) closes = absurd (true≢false (sym closes))
replica_closing_writes s n _ closes = refl

-- an event that closes the interval cleans the copy
pub replica_closed : (s : Sizes) (seen : List Event) (p n : ℕ) (k : Kind) (base : List ℕ) (c : PageReplica)
    → event_closes k ≡ true
    → IsPageReplica s seen [] p n base c
    → IsPageReplica s (did seen p k) [] p n c.page.words (copy_cleaned_after_news c)
replica_closed s seen p n k base c closes r = record {
  valid = λ h. let old = r.valid h in (valid old.0, old.1);
  stale = λ h. let old = r.stale h in (stale old.0, old.1, refl);
  order = r.order;
  dirty = dirty;
}
  where
    e : Event
    e = event p k

    is : IsBlock p (e ∷ [])
    is m f at = elim (slice_push_cases [] e m f at) [
      | inl old ↦ absurd (none-some f old.1)
      | inr new ↦
          (let P : Event → Type 0 = λ g. (g.processor ≡ p) × (event_takes g.kind ≡ false) in
          subst P new.1 (refl, replica_closing_takes k closes))
    ]

    valid : IsValidCopy s seen [] p n base c.page.words
        → IsValidCopy s (did seen p k) [] p n c.page.words c.page.words
    valid old =
        let pushed =
        valid_under_block_push s seen [] e p n base c.page.words
        (λ w r x is. true≢false (sym closes ∙ ap (λ (f : Event). event_closes f.kind) is)) old in
        let same = ap (wrote c.page.words) (replica_closing_writes s n k closes) in
        let P : List ℕ → Type 0 = λ page. IsValidCopy s seen (e ∷ []) p n base page in
        valid_under_block_handed s seen (e ∷ []) p n base c.page.words is (subst P same pushed)

    stale : IsStaleCopy s seen [] p n c.page.words (map page_news_of_notice c.missing)
        → IsStaleCopy s (did seen p k) [] p n c.page.words (map page_news_of_notice c.missing)
    stale old =
        let away = replica_closing_touches s n k closes in
        let pushed = stale_under_block_push e away old in
        stale_under_block_handed s seen (e ∷ []) p n c.page.words (map page_news_of_notice c.missing) is pushed

    dirty : IsDirty s (did seen p k ++ []) p n c.page.words (replicate (length c.page.words) false)
    dirty =
        let old : IsDirty s seen p n c.page.words c.page.dirty = rw append-nil at r.dirty in
        let now = dirty_page_closing e refl closes old in
        rw (append-nil, replica_long s seen [] p n base c r) now
