-- The records of an open interval, page by page.
use Rattle.std.proofs.Common.{◌≡◌, ℕ, zero, suc, ◌+◌, ◌*◌, ◌<◌, inl, inr, List, [], ◌∷◌, ◌++◌, length, Bool, true, false, Option, Some, None, Result, Ok, Err, IfOk, IfSome, IfNone, replicate, map, take, slice_get, subst, sym, refl, ap, ◌∙◌, arith, add-one}
use Rattle.std.specs.declared.alloc.AllocError.{AllocError}
use Rattle.std.proofs.lemmas.Bool.{cases_lt}
use Rattle.std.proofs.lemmas.List.{length-replicate, map-append}
use Rattle.std.proofs.Math.Nat.{div-lt_iff_lt-mul}
use Rattle.base.specs.InOrderOnce.{Has}
use Rattle.base.specs.LastWrite.{wrote, written}
use Rattle.base.specs.AppliedRecords.{mark_write, marked_writes, harvest}
use Rattle.base.proofs.SlicesAndCounts.{slice_take-suc_at, slice_push_cases}
use Rattle.base.proofs.JoinedLists.{joined_list_has-nil, joined_list_has-append, joined_list_has-cons, joined_list_in_order-nil, joined_list_in_order-append, joined_list_in_order_single}
use Rattle.base.proofs.LastWritten.{written-append, length-written}
use Rattle.base.proofs.MarkedWrites.{marked_writes-append, length-marked_writes}
use Rattle.journal.specs.declared.event.Event.{Event}
use Rattle.journal.specs.declared.event.Kind.TheVariants.{Store}
use Rattle.journal.specs.Sizes.{Sizes}
use Rattle.journal.specs.Events.{event_count, event_closes}
use Rattle.journal.specs.Blocks.{block_write}
use Rattle.journal.specs.IntervalContents.{open_interval_contents, IsIntervalContent}
use Rattle.journal.specs.WellFormed.{WellFormed}
use Rattle.journal.proofs.Intervals.DirtyPages.{dirty_page_content}
use Rattle.journal.proofs.Intervals.StoreContents.{store_contents_none}
use Rattle.page.specs.PageChanges.{PageChanges}
use Rattle.page.specs.Contents.{Contents, ContentsAreClean}
use Rattle.page.specs.CarriedHarvests.{IsCarriedHarvest}
use Rattle.book.specs.KeptIntervals.{AreIntervalContents}
use Rattle.test_memory.specs.Histories.Records.{StoresOpen, IsOpenRecord, IsOpenIn, AreOpenBelow}

-- what one more item writes and marks
pub written_next : {A : Type 0} (f : A → Option (ℕ × ℕ)) (page : List ℕ) (xs : List A) (i : ℕ) (x : A)
    → slice_get xs i ≡ Some x → written f page (take (suc i) xs) ≡ wrote (written f page (take i xs)) (f x)
written_next f page xs i x at = ap (written f page) (slice_take-suc_at xs i x at) ∙ written-append f page (take i xs) (x ∷ [])

pub marked_next : {A : Type 0} (f : A → Option (ℕ × ℕ)) (marks : List Bool) (xs : List A) (i : ℕ) (x : A)
    → slice_get xs i ≡ Some x → marked_writes f marks (take (suc i) xs) ≡ mark_write (marked_writes f marks (take i xs)) (f x)
marked_next f marks xs i x at = ap (marked_writes f marks) (slice_take-suc_at xs i x at) ∙ marked_writes-append f marks (take i xs) (x ∷ [])

-- no dirty word is harvested as none
harvest-clean : (i n : ℕ) (words : List ℕ) → harvest i words (replicate n false) ≡ []
harvest-clean i n [] = refl
harvest-clean i zero (w ∷ words) = refl
harvest-clean i (suc n) (w ∷ words) = harvest-clean (suc i) n words

harvest-nothing : (i : ℕ) (words : List ℕ) (marks : List Bool) → length words ≡ length marks
    → harvest i words marks ≡ [] → marks ≡ replicate (length words) false
harvest-nothing i [] [] long none = refl
harvest-nothing i [] (m ∷ marks) long none = absurd (omega arith)
harvest-nothing i (w ∷ words) [] long none = absurd (omega arith)
harvest-nothing i (w ∷ words) (true ∷ marks) long none = absurd cc
harvest-nothing i (w ∷ words) (false ∷ marks) long none =
    ap (λ ms. false ∷ ms) (harvest-nothing (suc i) words marks (omega arith) none)

-- a zero page after the stores of p's open interval
pub record IsStoredIn (s : Sizes) (n : ℕ) (events : List Event) (c : Contents) : Type 0 where
  pub words : c.words ≡ written (λ (e : Event). block_write s n e.kind) (replicate s.words 0) events
  pub dirty : c.dirty ≡ marked_writes (λ (e : Event). block_write s n e.kind) (replicate s.words false) events

-- has as many words and marks as a page
pub stored_long : (s : Sizes) (n : ℕ) (events : List Event) (c : Contents) → IsStoredIn s n events c
    → length c.words ≡ s.words
stored_long s n events c is =
    ap length is.words ∙ length-written (λ (e : Event). block_write s n e.kind) (replicate s.words 0) events
    ∙ length-replicate s.words 0

stored_marks : (s : Sizes) (n : ℕ) (events : List Event) (c : Contents) → IsStoredIn s n events c
    → length c.words ≡ length c.dirty
stored_marks s n events c is =
    stored_long s n events c is
    ∙ sym (ap length is.dirty ∙ length-marked_writes (λ (e : Event). block_write s n e.kind) (replicate s.words false) events
    ∙ length-replicate s.words false)

pub stored_start : (s : Sizes) (n : ℕ) (events : List Event) (c : Contents) → c.words ≡ replicate s.words 0
    → ContentsAreClean c → IsStoredIn s n (take 0 events) c
stored_start s n events c blank clean =
    record {
      words = blank;
      dirty = clean ∙ ap (λ ws. replicate (length ws) false) blank
          ∙ ap (λ m. replicate m false) (length-replicate s.words 0);
    }

-- one more event
pub stored_next : (s : Sizes) (n : ℕ) (events : List Event) (i : ℕ) (e : Event) (old new : Contents)
    → slice_get events i ≡ Some e → IsStoredIn s n (take i events) old
    → new.words ≡ wrote old.words (block_write s n e.kind) → new.dirty ≡ mark_write old.dirty (block_write s n e.kind)
    → IsStoredIn s n (take (i + 1) events) new
stored_next s n events i e old new at is words dirty = rw add-one (record {
  words = words ∙ ap (λ ws. wrote ws (block_write s n e.kind)) is.words
      ∙ sym (written_next (λ (f : Event). block_write s n f.kind) (replicate s.words 0) events i e at);
  dirty = dirty ∙ ap (λ ms. mark_write ms (block_write s n e.kind)) is.dirty
      ∙ sym (marked_next (λ (f : Event). block_write s n f.kind) (replicate s.words false) events i e at);
})

-- and its dirty words are what the interval comes to
stored_content : (s : Sizes) (h : List Event) (p n : ℕ) (events : List Event) (c : Contents) → 0 < s.words
    → open_interval_contents h p ≡ events → IsStoredIn s n events c
    → IsIntervalContent s h p (event_count event_closes h p) n (harvest 0 c.words c.dirty)
stored_content s h p n events c some is stored = dirty_page_content s h p n c.words c.dirty some (record {
  clean = replicate s.words 0;
  long = length-replicate s.words 0;
  page_is = rw is stored.words;
  marks_are = rw is stored.dirty;
})

-- so its harvest is the interval's record
pub stored_record : (s : Sizes) (h : List Event) (p n : ℕ) (events : List Event) (c : Contents)
    (r : Result (Option PageChanges) AllocError) → 0 < s.words → open_interval_contents h p ≡ events → IsStoredIn s n events c
    → (ContentsAreClean c → r ≡ Ok None) → IfOk r (λ o. IfNone o (ContentsAreClean c)) → IfOk r (λ o. IfSome o (IsCarriedHarvest n c))
    → IfOk r (λ o. IsOpenIn s h p n o)
stored_record s h p n events c (Ok None) some is stored clean none words =
    let content = stored_content s h p n events c some is stored in
    λ i x. store_contents_none s h p (event_count event_closes h p) n i
    (subst (λ ws. IsIntervalContent s h p (event_count event_closes h p) n ws)
    (ap (harvest 0 c.words) none ∙ harvest-clean 0 (length c.words) c.words) content) x
stored_record s h p n events c (Ok (Some r)) some is stored clean none words = (
  words.page_is,
  record {
    content = rw (words.page_is, words.words_are) (stored_content s h p n events c some is stored);
    some = λ nothing. absurd
        (let same =
        clean (harvest-nothing 0 c.words c.dirty (stored_marks s n events c stored)
        (sym words.words_are ∙ nothing)) in cc);
  },
)
stored_record s h p n events c (Err e) some is stored clean none words = tt

-- no page is below the first
pub open_none : (s : Sizes) (h : List Event) (p : ℕ) → AreOpenBelow s h p 0 []
open_none s h p = record {
  each = λ r has. absurd (joined_list_has-nil r has);
  below = λ r has. absurd (joined_list_has-nil r has);
  all = λ n i lt. absurd (omega arith);
  rising = joined_list_in_order-nil (λ (r q : PageChanges). r.page < q.page);
}

-- a page that the interval doesn't store to
pub open_skipped : (s : Sizes) (h : List Event) (p m : ℕ) (records : List PageChanges) → AreOpenBelow s h p m records
    → IsOpenIn s h p m None → AreOpenBelow s h p (m + 1) records
open_skipped s h p m records x none = record {
  each = x.each;
  below = λ r has. (let lt = x.below r has in omega arith);
  all = λ n i lt stores. elim (cases_lt n m) [
    | inl less ↦ x.all n i less stores
    | inr from ↦
        absurd (let is : n ≡ m = omega arith in
        none i (let P : ℕ → Type 0 = λ k. StoresOpen s h p k i in subst P is stores))
  ];
  rising = x.rising;
}

-- and one that it does
pub open_more : (s : Sizes) (h : List Event) (p m : ℕ) (records : List PageChanges) (r : PageChanges)
    → AreOpenBelow s h p m records → IsOpenIn s h p m (Some r) → AreOpenBelow s h p (m + 1) (records ++ r ∷ [])
open_more s h p m records r x now =
    record {
      each = each;
      below = below;
      all = all;
      rising = joined_list_in_order-append (λ (a b : PageChanges). a.page < b.page) records (r ∷ []) x.rising
          (joined_list_in_order_single (λ (a b : PageChanges). a.page < b.page) r) before;
    }
  where
    each : (q : PageChanges) → Has (records ++ r ∷ []) q → IsOpenRecord s h p q
    each q has = elim (slice_push_cases records r has.0 q has.1)
        [ inl old ↦ x.each q (has.0, old.1) | inr new ↦ subst (λ y. IsOpenRecord s h p y) new.1 now.1 ]

    below : (q : PageChanges) → Has (records ++ r ∷ []) q → q.page < m + 1
    below q has = elim (slice_push_cases records r has.0 q has.1) [
      | inl old ↦ (let lt = x.below q (has.0, old.1) in omega arith)
      | inr new ↦ (let is = ap (λ (y : PageChanges). y.page) new.1 in let at = now.0 in omega arith)
    ]

    all : (n i : ℕ) → n < m + 1 → StoresOpen s h p n i → (q : PageChanges) × Has (records ++ r ∷ []) q × (q.page ≡ n)
    all n i lt stores = elim (cases_lt n m) [
      | inl less ↦ (let y = x.all n i less stores in (y.0, (joined_list_has-append records (r ∷ []) y.0).1 (inl y.1), y.2))
      | inr from ↦ (r, (joined_list_has-append records (r ∷ []) r).1 (inr (0, refl)), (let at = now.0 in omega arith))
    ]

    before : (a b : PageChanges) → Has records a → Has (r ∷ []) b → a.page < b.page
    before a b old new =
        elim ((joined_list_has-cons r [] b).0 new) [
          | inl is ↦ (let lt = x.below a old in let same = ap (λ (y : PageChanges). y.page) is in let at = now.0 in
              omega arith)
          | inr none ↦ absurd (joined_list_has-nil b none)
        ]

-- the same of records that are shared
pub open_pushed : {X : Type 0} (value : X → PageChanges) (s : Sizes) (h : List Event) (p m : ℕ) (old new : List X)
    (x : X) (r : PageChanges) → AreOpenBelow s h p m (map value old) → IsOpenIn s h p m (Some r) → value x ≡ r
    → new ≡ old ++ x ∷ [] → AreOpenBelow s h p (m + 1) (map value new)
open_pushed value s h p m old new x r before now is pushed =
    subst (λ (rs : List PageChanges). AreOpenBelow s h p (m + 1) rs)
    (sym (ap (map value) pushed ∙ map-append value old (x ∷ []) ∙ ap (λ q. map value old ++ q ∷ []) is))
    (open_more s h p m (map value old) r before now)

-- all pages: what the interval comes to
pub open_contents : (s : Sizes) (h : List Event) (p : ℕ) (records : List PageChanges) → 0 < s.words → WellFormed s h
    → AreOpenBelow s h p s.pages records → AreIntervalContents s h p (event_count event_closes h p) records
open_contents s h p records some well x = record {
  each = λ r has. (x.each r has).content;
  all = λ n i stores. x.all n i (within n i stores) stores;
  some = λ r has. (x.each r has).some;
  rising = x.rising;
}
  where
    within : (n i : ℕ) → StoresOpen s h p n i → n < s.pages
    within n i stores =
        let e : Event = record { processor = p; kind = Store stores.0 stores.1 } in
        let range : stores.0 < s.pages * s.words = (well i e stores.2).in_range in
        subst (λ k. k < s.pages) stores.3 ((div-lt_iff_lt-mul some).1 range)
