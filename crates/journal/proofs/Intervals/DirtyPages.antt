-- What each call does to a page's dirty bits, and what they are harvested for.
use Rattle.std.proofs.Common.{ℕ, ◌≡◌, ◌≢◌, ◌<◌, ◌%◌, List, [], ◌∷◌, ◌++◌, Bool, true, false, cond, Option, Some, None, length, replicate, slice_get, ◌/◌, ◌==◌, mod-lt, true≢false, arith, refl, sym, ap, subst, ◌∙◌}
use Rattle.std.proofs.lemmas.Option.{none-some, some_pair_parts}
use Rattle.std.proofs.lemmas.List.{length-replicate}
use Rattle.journal.specs.declared.event.Event.{Event}
use Rattle.journal.specs.declared.event.Kind.{Kind}
use Rattle.journal.specs.declared.event.Kind.TheVariants.{Store}
use Rattle.journal.specs.Sizes.{Sizes}
use Rattle.journal.specs.Events.{EventAt, event_closes, event_count}
use Rattle.journal.specs.Blocks.{block_write}
use Rattle.journal.specs.IntervalContents.{open_interval_contents, IsIntervalContent}
use Rattle.journal.specs.Dirty.{IsDirty}
use Rattle.base.specs.LastWrite.{wrote, written}
use Rattle.base.specs.AppliedRecords.{mark_write, marked_writes, harvest, IsRecordOf}
use Rattle.base.proofs.LastWritten.{written-append, last_written_nothing, length-written}
use Rattle.base.proofs.MarkedWrites.{marked_writes-append, marked_writes_nothing, marked_write_within, marked_writes_harvest_is_record}
use Rattle.base.proofs.SliceSets.{slice_get-replicate_found}
use Rattle.journal.proofs.Intervals.OpenIntervals.{open_interval_block_others, open_interval_closing, open_interval_inner}
use Rattle.journal.proofs.Intervals.StoreContents.{store_contents_open}

-- at the start no word is dirty
pub dirty_page_start : (s : Sizes) (p n : ℕ) (page : List ℕ) → length page ≡ s.words
    → IsDirty s [] p n page (replicate s.words false)
dirty_page_start s p n page long = record { clean = page; long = long; page_is = refl; marks_are = refl }

-- others' events change no dirty bit, also under an open block
pub dirty_page_others : {s : Sizes} (j es block : List Event) {p n : ℕ} {page : List ℕ} {marks : List Bool}
    → ((k : ℕ) (e : Event) → EventAt es k e → e.processor ≢ p) → IsDirty s (j ++ block) p n page marks
    → IsDirty s ((j ++ es) ++ block) p n page marks
dirty_page_others j es block {p = p} away dirty =
    let same = open_interval_block_others j es block p away in
    record {
      clean = dirty.clean;
      long = dirty.long;
      page_is = rw same (dirty.page_is);
      marks_are = rw same (dirty.marks_are);
    }

-- an own event that closes no interval does what it stores, and marks it
pub dirty_page_push : {s : Sizes} {j : List Event} (e : Event) {p n : ℕ} {page : List ℕ} {marks : List Bool}
    → e.processor ≡ p → event_closes e.kind ≡ false → IsDirty s j p n page marks
    → IsDirty s (j ++ e ∷ []) p n (wrote page (block_write s n e.kind)) (mark_write marks (block_write s n e.kind))
dirty_page_push {s = s} {j = j} e {p = p} {n = n} mine inner dirty =
    let same = open_interval_inner j e p mine inner in
    record {
      clean = dirty.clean;
      long = dirty.long;
      page_is =
          rw same (ap (λ (ws : List ℕ). wrote ws (block_write s n e.kind)) dirty.page_is
          ∙ sym (written-append (λ (f : Event). block_write s n f.kind) dirty.clean (open_interval_contents j p) (e ∷ [])));
      marks_are =
          rw same (ap (λ (ms : List Bool). mark_write ms (block_write s n e.kind)) dirty.marks_are
          ∙ sym (marked_writes-append (λ (f : Event). block_write s n f.kind) (replicate s.words false) (open_interval_contents j p)
          (e ∷ [])));
    }

-- a closing event clears the marks
pub dirty_page_closing : {s : Sizes} {j : List Event} (e : Event) {p n : ℕ} {page : List ℕ} {marks : List Bool}
    → e.processor ≡ p → event_closes e.kind ≡ true → IsDirty s j p n page marks
    → IsDirty s (j ++ e ∷ []) p n page (replicate s.words false)
dirty_page_closing {s = s} {j = j} e {p = p} {n = n} {page = page} mine closes dirty =
    let same = open_interval_closing j e p mine closes in
    record {
      clean = page;
      long =
          ap length dirty.page_is ∙ length-written (λ (f : Event). block_write s n f.kind) dirty.clean (open_interval_contents j p)
          ∙ dirty.long;
      page_is = rw same;
      marks_are = rw same;
    }

-- p's open interval stored nothing in the page
abbrev HasNoDirtyPageStore : Sizes → List Event → ℕ → ℕ → Type 0
HasNoDirtyPageStore s j p n = (k : ℕ) (e : Event) → EventAt (open_interval_contents j p) k e → block_write s n e.kind ≡ None

-- so another page may stand in its place
dirty_page_fetched : (s : Sizes) (j : List Event) (p n : ℕ) (page : List ℕ) → length page ≡ s.words → HasNoDirtyPageStore s j p n
    → IsDirty s j p n page (replicate s.words false)
dirty_page_fetched s j p n page long nothing = record {
  clean = page;
  long = long;
  page_is = sym (last_written_nothing (λ (e : Event). block_write s n e.kind) page (open_interval_contents j p) nothing);
  marks_are = sym (marked_writes_nothing (λ (e : Event). block_write s n e.kind) (replicate s.words false) (open_interval_contents j p) nothing);
}

-- what is stored in a page lies within it
dirty_page_write_within : (s : Sizes) (n : ℕ) (k : Kind) (o v : ℕ) → 0 < s.words → block_write s n k ≡ Some (o, v) → o < s.words
dirty_page_write_within s n (Store a w) o v some h = go (a / s.words == n) h
  where
    go : (b : Bool) → ◌≡◌ {A = Option (ℕ × ℕ)} (cond b (Some (a % s.words, w)) None) (Some (o, v)) → o < s.words
    go true g = let e = (some_pair_parts (a % s.words) o w v g).0 in let below = mod-lt a some in omega arith
    go false g = absurd (none-some (o, v) g)
dirty_page_write_within s n _ o v some h = absurd (none-some (o, v) h)

-- a page without a dirty word had no store since
dirty_page_none_since : (s : Sizes) (j : List Event) (p n : ℕ) (page : List ℕ) → 0 < s.words
    → IsDirty s j p n page (replicate s.words false) → HasNoDirtyPageStore s j p n
dirty_page_none_since s j p n page some dirty k e at = go (block_write s n e.kind) refl
  where
    f : Event → Option (ℕ × ℕ)
    f x = block_write s n x.kind

    go : (o : Option (ℕ × ℕ)) → block_write s n e.kind ≡ o → block_write s n e.kind ≡ None
    go None h = h
    go (Some w) h =
        let inside : w.0 < length (replicate s.words false) =
        rw length-replicate (dirty_page_write_within s n e.kind w.0 w.1 some h) in
        let marked_there = marked_write_within f (replicate s.words false) (open_interval_contents j p) w.0 k w.1 e inside at h in
        absurd (true≢false (sym (slice_get-replicate_found s.words false true w.0
        (ap (λ (ms : List Bool). slice_get ms w.0) dirty.marks_are ∙ marked_there))))

-- so it may be replaced by another, as by a fetch
pub dirty_page_replaced : (s : Sizes) (j : List Event) (p n : ℕ) (page new : List ℕ) → 0 < s.words → length new ≡ s.words
    → IsDirty s j p n page (replicate s.words false) → IsDirty s j p n new (replicate s.words false)
dirty_page_replaced s j p n page new some long dirty =
    dirty_page_fetched s j p n new long (dirty_page_none_since s j p n page some dirty)

-- the harvest of the dirty words is what the open interval comes to in the page
pub dirty_page_content : (s : Sizes) (j : List Event) (p n : ℕ) (page : List ℕ) (marks : List Bool) → 0 < s.words
    → IsDirty s j p n page marks → IsIntervalContent s j p (event_count event_closes j p) n (harvest 0 page marks)
dirty_page_content s j p n page marks some dirty =
    let f : Event → Option (ℕ × ℕ) = λ e. block_write s n e.kind in
    let P : ℕ → Type 0 =
    λ words. IsRecordOf f (open_interval_contents j p)
    (harvest 0 (written f dirty.clean (open_interval_contents j p)) (marked_writes f (replicate words false) (open_interval_contents j p))) in
    let record_of =
    subst P dirty.long (marked_writes_harvest_is_record f dirty.clean (open_interval_contents j p)
    (λ e o v h. rw (dirty.long) (dirty_page_write_within s n e.kind o v some h)))
    in
    store_contents_open s j p n (harvest 0 page marks) (rw (dirty.page_is, dirty.marks_are) record_of)
