-- What a closing call hands to the book: the harvests of the copies are what the open interval stores.
use Rattle.std.proofs.Common.{ℕ, ◌≡◌, ◌≢◌, ◌<◌, inl, inr, false, Some, List, [], ◌∷◌, ◌++◌, length, replicate, get_or, slice_get, sym, ap, subst, subst₂, ◌∙◌, arith}
use Rattle.std.proofs.Math.Nat.{div-lt_iff_lt-mul}
use Rattle.std.proofs.lemmas.List.{length-replicate}
use Rattle.std.proofs.lemmas.Option.{none-some, slice_get_within, slice_get-get_or}
use Rattle.journal.specs.declared.event.Event.{Event}
use Rattle.journal.specs.declared.event.Kind.TheVariants.{Store}
use Rattle.journal.specs.DidEvent.{event}
use Rattle.journal.specs.Events.{EventAt, event_closes, event_count}
use Rattle.journal.specs.WellFormed.{WellFormedKindInRange}
use Rattle.journal.specs.Blocks.{block_write}
use Rattle.journal.specs.IntervalContents.{open_interval_contents, IntervalContentHas, IsIntervalContent}
use Rattle.journal.proofs.Intervals.StoreContents.{store_contents_none}
use Rattle.journal.proofs.Intervals.DirtyPages.{dirty_page_content}
use Rattle.base.specs.InOrderOnce.{Has}
use Rattle.base.specs.AppliedRecords.{harvest}
use Rattle.base.proofs.MarkedWrites.{length-marked_writes}
use Rattle.base.proofs.JoinedLists.{joined_list_in_order-append, joined_list_in_order_single, joined_list_has-append}
use Rattle.base.proofs.SlicesAndCounts.{slice_append_cases, slice_push_cases, slice_get-append_left, slice_get-last}
use Rattle.base.proofs.Unmarked.{unmarked_harvests_nothing, unmarked_harvest}
use Rattle.page.specs.CarriedHarvests.{IsCarriedHarvest}
use Rattle.page.specs.PageChanges.{PageChanges}
use Rattle.page.specs.Contents.{ContentsAreClean}
use Rattle.interval.specs.SentIntervals.{SentIntervalPagesRise}
use Rattle.book.specs.KeptIntervals.{AreIntervalContents}
use Rattle.cluster.specs.Copies.PageReplica.{PageReplica}
use Rattle.cluster.specs.Copies.Local.{Local, blank_local_copy}
use Rattle.cluster.specs.Copies.MarkedCopiesAndHarvests.{IsHarvestOfCopy, AreHarvestsOfCopies}
use Rattle.cluster.specs.Copies.Sound.{IsSound}
use Rattle.cluster.proofs.copies.Replicas.{replica_long}

module _ (xs : List PageReplica) (c : PageReplica) (rs : List PageChanges) (hs : AreHarvestsOfCopies xs rs) where
  harvested_interval_record_longer : (r : PageChanges) → IsHarvestOfCopy xs r → IsHarvestOfCopy (xs ++ c ∷ []) r
  harvested_interval_record_longer r x = record {
    page = x.page;
    copy = x.copy;
    at = slice_get-append_left xs (c ∷ []) x.page (slice_get_within xs x.page x.copy x.at) ∙ x.at;
    harvest = x.harvest;
    dirty = x.dirty;
  }

  -- a further copy with dirty words adds its harvest
  pub harvested_interval_more : (r : PageChanges) → ¬ ContentsAreClean c.page → IsCarriedHarvest (length xs) c.page r
      → AreHarvestsOfCopies (xs ++ c ∷ []) (rs ++ r ∷ [])
  harvested_interval_more r dirty harvest = record { each = each; all = all; rising = rising }
    where
      last : Has (rs ++ r ∷ []) r
      last = (length rs, slice_get-last rs r)

      here : IsHarvestOfCopy (xs ++ c ∷ []) r
      here = record { page = length xs; copy = c; at = slice_get-last xs c; harvest = harvest; dirty = dirty }

      each : (x : PageChanges) → Has (rs ++ r ∷ []) x → IsHarvestOfCopy (xs ++ c ∷ []) x
      each x has = elim (slice_push_cases rs r has.0 x has.1) [
        | inl old ↦ harvested_interval_record_longer x (hs.each x (has.0, old.1))
        | inr new ↦ subst (IsHarvestOfCopy (xs ++ c ∷ [])) new.1 here
      ]

      all : (n : ℕ) (d : PageReplica) → slice_get (xs ++ c ∷ []) n ≡ Some d → ¬ ContentsAreClean d.page
          → (x : PageChanges) × Has (rs ++ r ∷ []) x × (x.page ≡ n)
      all n d at some = elim (slice_push_cases xs c n d at) [
        | inl old ↦
            (let x = hs.all n d old.1 some in
            (x.0, (joined_list_has-append rs (r ∷ []) x.0).1 (inl x.1), x.2))
        | inr new ↦ (r, last, harvest.page_is ∙ sym new.0)
      ]

      rising : SentIntervalPagesRise (rs ++ r ∷ [])
      rising = joined_list_in_order-append (λ (a b : PageChanges). a.page < b.page) rs (r ∷ []) hs.rising
          (joined_list_in_order_single (λ (a b : PageChanges). a.page < b.page) r)
          (λ a b has has_last.
          let x = hs.each a has in
          let below = slice_get_within xs x.page x.copy x.at in
          let is = x.harvest.page_is in
          let own = harvest.page_is in
          let same : b ≡ r = elim (slice_push_cases [] r has_last.0 b has_last.1) [
            | inl old ↦ absurd (none-some b old.1)
            | inr new ↦ sym new.1
          ] in
          let P : PageChanges → Type 0 = λ y. a.page < y.page in
          subst P (sym same) (omega arith))

module _ (m : Local) (sound : IsSound m) where
  -- the history with the open block
  abbrev harvested_interval_history : List Event
  harvested_interval_history = m.seen ++ m.block

  -- the number of the open interval
  abbrev number : ℕ
  number = event_count event_closes (m.seen ++ m.block) m.number

  -- what the open interval comes to in a page
  harvested_interval_page_content : (n : ℕ) (c : PageReplica) → slice_get m.copies n ≡ Some c
      → IsIntervalContent m.sizes harvested_interval_history m.number number n (harvest 0 c.page.words c.page.dirty)
  harvested_interval_page_content n c at =
      let dirty = (sound.copies.each n c at).dirty in
      dirty_page_content m.sizes harvested_interval_history m.number n c.page.words c.page.dirty sound.sizes.some_words dirty

  -- a copy has as many marks as words
  harvested_interval_copy_long : (n : ℕ) (c : PageReplica) → slice_get m.copies n ≡ Some c → length c.page.dirty ≡ length c.page.words
  harvested_interval_copy_long n c at =
      let r = sound.copies.each n c at in
      let f = λ (e : Event). block_write m.sizes n e.kind in
      let none = replicate m.sizes.words false in
      let marked = length-marked_writes f none (open_interval_contents harvested_interval_history m.number) ∙ length-replicate m.sizes.words false in
      let words = replica_long m.sizes m.seen m.block m.number n (sound.bases n) c r in
      ap length r.dirty.marks_are ∙ marked ∙ sym words

  -- each event so far is within the sizes
  harvested_interval_in_range : (i : ℕ) (e : Event) → EventAt harvested_interval_history i e → WellFormedKindInRange m.sizes e.kind
  harvested_interval_in_range i e at = elim (slice_append_cases m.seen m.block i e at) [
    | inl old ↦ (sound.well_formed i e old.1).in_range
    | inr new ↦ (sound.inner new.0 e new.2).in_range
  ]

  -- a page that the open interval stores in is not clean
  harvested_interval_stored_dirty : (n i : ℕ) (c : PageReplica) → slice_get m.copies n ≡ Some c
      → IntervalContentHas m.sizes harvested_interval_history m.number number n i
      → ¬ ContentsAreClean c.page
  harvested_interval_stored_dirty n i c at stores clean =
      let is = harvested_interval_page_content n c at in
      let nothing = ap (harvest 0 c.page.words) clean ∙ unmarked_harvests_nothing 0 c.page.words in
      let P : List (ℕ × ℕ) → Type 0 = λ ws. IsIntervalContent m.sizes harvested_interval_history m.number number n ws in
      store_contents_none m.sizes harvested_interval_history m.number number n i (subst P nothing is) stores

  -- the harvests of the copies with dirty words are the records of the open interval
  pub harvested_interval_contents : (rs : List PageChanges) → AreHarvestsOfCopies m.copies rs
      → AreIntervalContents m.sizes (m.seen ++ m.block) m.number (event_count event_closes (m.seen ++ m.block) m.number) rs
  harvested_interval_contents rs hs = record { each = each; some = some; all = all; rising = hs.rising }
    where
      each : (r : PageChanges) → Has rs r → IsIntervalContent m.sizes harvested_interval_history m.number number r.page r.words
      each r has =
          let x = hs.each r has in
          let P : ℕ → List (ℕ × ℕ) → Type 0 = λ n ws. IsIntervalContent m.sizes harvested_interval_history m.number number n ws in
          subst₂ P (sym x.harvest.page_is) (sym x.harvest.words_are) (harvested_interval_page_content x.page x.copy x.at)

      some : (r : PageChanges) → Has rs r → r.words ≢ []
      some r has none =
          let x = hs.each r has in
          let long = harvested_interval_copy_long x.page x.copy x.at in
          x.dirty (unmarked_harvest 0 x.copy.page.words x.copy.page.dirty long (sym x.harvest.words_are ∙ none))

      all : (n i : ℕ) → IntervalContentHas m.sizes harvested_interval_history m.number number n i → (r : PageChanges) × Has rs r × (r.page ≡ n)
      all n i stores = hs.all n copy found (harvested_interval_stored_dirty n i copy found stores)
        where
          copy : PageReplica
          copy = get_or m.copies n (blank_local_copy m.sizes)

          within : n < m.sizes.pages
          within =
              let a = harvested_interval_in_range i (event m.number (Store stores.0 stores.1)) stores.2 in
              let P : ℕ → Type 0 = λ k. k < m.sizes.pages in
              subst P stores.3 ((div-lt_iff_lt-mul sound.sizes.some_words).1 a)

          found : slice_get m.copies n ≡ Some copy
          found =
              let long = sound.copies.long in
              let inside = within in
              slice_get-get_or m.copies n (blank_local_copy m.sizes) (omega arith)
