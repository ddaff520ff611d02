-- A load or a store keeps a processor sound.
use Rattle.std.proofs.Common.{ℕ, ◌≡◌, ◌≢◌, ◌<◌, ◌/◌, ◌%◌, Bool, true, false, Some, None, List, [], ◌∷◌, ◌++◌, length, slice_get, slice_set, inl, inr, ne_eqb, refl, sym, ap, subst, subst₂, ◌∙◌, arith}
use Rattle.std.proofs.Math.Nat.{mod-lt}
use Rattle.std.proofs.lemmas.Bool.{cases_eq}
use Rattle.std.proofs.lemmas.List.{length_push, length-set}
use Rattle.journal.specs.declared.event.Event.{Event}
use Rattle.journal.specs.declared.event.Kind.{Kind}
use Rattle.journal.specs.declared.event.Kind.TheVariants.{Load, Store}
use Rattle.journal.specs.Events.{EventAt, event_takes, event_closes}
use Rattle.journal.specs.WellFormed.{WellFormedKindInRange}
use Rattle.journal.specs.Blocks.{block_write, BlockAnswers}
use Rattle.journal.specs.FetchesCountGaps.{BlockFetchesCountGaps}
use Rattle.journal.specs.DidEvent.{event}
use Rattle.journal.proofs.CopyOfPage.BlockLoads.{block_loads_push}
use Rattle.journal.proofs.CopyOfPage.UnderBlock.{valid_under_block_load}
use Rattle.journal.proofs.Intervals.StoreContents.{store_contents_write}
use Rattle.journal.proofs.Missing.GapsCounted.{gaps_counted_block_push}
use Rattle.base.specs.LastWrite.{wrote}
use Rattle.base.specs.AppliedRecords.{mark_write}
use Rattle.base.proofs.SlicesAndCounts.{slice_push_cases}
use Rattle.base.proofs.SliceSets.{slice_get-set_found, slice_get-set_other}
use Rattle.page.specs.declared.page.Access.TheVariants.{Valid, Invalid}
use Rattle.page.specs.Contents.{ContentsAreClean}
use Rattle.book.specs.AllowedCalls.{IsAllowedInnerCall}
use Rattle.book.specs.BookStamps.{EachStampedAt}
use Rattle.base.specs.Limits.{most_in_block}
use Rattle.cluster.specs.Copies.PageReplica.{PageReplica, IsPageReplica, page_replica_written_at}
use Rattle.cluster.specs.Copies.Local.{Local, local_noted}
use Rattle.cluster.specs.AccessDone.{access_done_by_store}
use Rattle.cluster.specs.ProcessorRefusals.{processor_refusal_of_access}
use Rattle.cluster.specs.Copies.Sound.{IsSound}
use Rattle.cluster.proofs.copies.Replicas.{replica_long, replica_pushed}
use Rattle.cluster.proofs.MayAccessAndFetch.{MayAccess, may_access}

pub noted_event_valid_is_not_invalid : Valid ≢ Invalid
noted_event_valid_is_not_invalid h = cc

-- the offset of an address lies in its page
pub noted_event_offset_in_page : (m : Local) (a : ℕ) (c : PageReplica) → slice_get m.copies (a / m.sizes.words) ≡ Some c → IsSound m
    → a % m.sizes.words < length c.page.words
noted_event_offset_in_page m a c at sound =
    rw (replica_long m.sizes m.seen m.block m.number (a / m.sizes.words) (sound.bases (a / m.sizes.words)) c
    (sound.copies.each (a / m.sizes.words) c at)) (mod-lt a sound.sizes.some_words)

-- the block with one more event of p, inside the sizes
pub noted_event_inner_pushed : (m : Local) (k : Kind) → event_takes k ≡ false → event_closes k ≡ false → WellFormedKindInRange m.sizes k
    → ((i : ℕ) (e : Event) → EventAt m.block i e → IsAllowedInnerCall m.sizes m.number e) → (i : ℕ) (e : Event)
    → EventAt (m.block ++ event m.number k ∷ []) i e → IsAllowedInnerCall m.sizes m.number e
noted_event_inner_pushed m k takes closes range inner i e at = elim (slice_push_cases m.block (event m.number k) i e at) [
  | inl h ↦ inner i e h.1
  | inr h ↦ subst (IsAllowedInnerCall m.sizes m.number) h.1 (record {
    mine = refl;
    takes = takes;
    closes = closes;
    in_range = range;
  })
]

-- an event of this kind may be noted in p's open block
abbrev pub MayNoteEvent : Local → Kind → Type 0
MayNoteEvent m k = record {
  takes : event_takes k ≡ false;
  closes : event_closes k ≡ false;
  range : WellFormedKindInRange m.sizes k;
  idle : m.awaits ≡ None;
  room : length m.block < most_in_block;
}

-- with that event in the block, what p did there, these copies and these marks are right
abbrev pub NotedEventStaysRight : Local → Kind → List PageReplica → List Bool → (ℕ → List ℕ) → Type 0
NotedEventStaysRight m k cs st bases = record {
  answers : BlockAnswers m.sizes m.seen (m.block ++ event m.number k ∷ []) m.number bases;
  counts : BlockFetchesCountGaps m.sizes m.seen (m.block ++ event m.number k ∷ []) m.number;
  copies : EachStampedAt m.sizes.pages (λ n c.
      IsPageReplica m.sizes m.seen (m.block ++ event m.number k ∷ []) m.number n (bases n) c) cs;
  marks : length st ≡ 64;
  clean : (n : ℕ) (c : PageReplica) → slice_get cs n ≡ Some c → slice_get st n ≡ Some false → ContentsAreClean c.page;
}

-- one more event of its open block keeps p sound, where its copies, its marks and what it did in the block stay right
pub noted_event_sound : (m : Local) (k : Kind) (cs : List PageReplica) (st : List Bool) (bases : ℕ → List ℕ) → IsSound m
    → MayNoteEvent m k → NotedEventStaysRight m k cs st bases → IsSound (record (local_noted m k) { copies = cs; stored = st })
noted_event_sound m k cs st bases sound may right = record {
  sizes = sound.sizes;
  mine = sound.mine;
  few = sound.few;
  well_formed = sound.well_formed;
  inner = noted_event_inner_pushed m k may.takes may.closes may.range sound.inner;
  short = let long = length_push m.block (event m.number k) in let less = may.room in omega arith;
  time = sound.time;
  bases = bases;
  answers = right.answers;
  counts = right.counts;
  copies = right.copies;
  marks = right.marks;
  clean = right.clean;
  held = sound.held;
  awaits = sound.awaits;
  quiet = λ waits. absurd (waits may.idle);
  unstored = λ waits. absurd (waits may.idle);
}

module _ (m : Local) (a v : ℕ) (c : PageReplica) (free : processor_refusal_of_access m a ≡ None)
    (at : slice_get m.copies (a / m.sizes.words) ≡ Some c) where
  may : MayAccess m a
  may = may_access m a free

  abbrev n : ℕ
  n = a / m.sizes.words

  noted_event_valid : c.page.access ≡ Valid
  noted_event_valid = let same : may.copy ≡ c = cc (may.at, at) in subst (λ (x : PageReplica). x.page.access ≡ Valid) same may.valid

  noting_event_may : (k : Kind) → event_takes k ≡ false → event_closes k ≡ false → WellFormedKindInRange m.sizes k → MayNoteEvent m k
  noting_event_may k takes closes range = record {
    takes = takes;
    closes = closes;
    range = range;
    idle = may.idle;
    room = may.room;
  }

  -- a load answers a word of a valid copy
  pub noted_event_loaded : slice_get c.page.words (a % m.sizes.words) ≡ Some v → IsSound m → IsSound (local_noted m (Load a v))
  noted_event_loaded word sound =
      noted_event_sound m (Load a v) m.copies m.stored sound.bases sound (noting_event_may (Load a v) refl refl may.within) (record {
        answers = valid_under_block_load a v refl
            ((sound.copies.each n c at).valid noted_event_valid).0 word sound.answers;
        counts = gaps_counted_block_push m.sizes m.seen m.block e m.number
            (λ x w r d is. absurd (cc (ap (λ (f : Event). f.kind) is))) sound.counts;
        copies = record { long = sound.copies.long; each = copies };
        marks = sound.marks;
        clean = sound.clean;
      })
    where
      e : Event
      e = event m.number (Load a v)

      copies : (i : ℕ) (d : PageReplica) → slice_get m.copies i ≡ Some d
          → IsPageReplica m.sizes m.seen (m.block ++ e ∷ []) m.number i (sound.bases i) d
      copies i d found = replica_pushed m.sizes m.seen m.block e m.number i (sound.bases i) d d refl refl (record {
        words = refl;
        dirty = refl;
        access = refl;
        missing = refl;
        unfetched = λ w r x is. absurd (cc);
        away =
            λ stale. (
              (λ here. let P : ℕ → Type 0 = λ k. slice_get m.copies k ≡ Some d in
                  let same : c ≡ d = cc (at, subst P (sym here) found) in
                  noted_event_valid_is_not_invalid (sym noted_event_valid ∙ ap (λ (x : PageReplica). x.page.access) same ∙ stale)),
              refl,
            );
      }) (sound.copies.each i d found)

  -- a store writes a word of a valid copy, and marks it and its page
  pub noted_event_stored_sound : IsSound m → IsSound (access_done_by_store m a v c)
  noted_event_stored_sound sound =
      noted_event_sound m (Store a v) (slice_set m.copies n d) (slice_set m.stored n true) sound.bases sound
      (noting_event_may (Store a v) refl refl may.within) (record {
        answers = block_loads_push m.sizes m.seen m.block e m.number sound.bases sound.answers
            (λ b w is. absurd (cc (ap (λ (f : Event). f.kind) is)));
        counts = gaps_counted_block_push m.sizes m.seen m.block e m.number
            (λ x w r d is. absurd (cc (ap (λ (f : Event). f.kind) is))) sound.counts;
        copies = record { long = length-set m.copies n d ∙ sound.copies.long; each = copies };
        marks = length-set m.stored n true ∙ sound.marks;
        clean = clean;
      })
    where
      e : Event
      e = event m.number (Store a v)

      d : PageReplica
      d = page_replica_written_at c (a % m.sizes.words) v

      here : IsPageReplica m.sizes m.seen (m.block ++ e ∷ []) m.number n (sound.bases n) d
      here = replica_pushed m.sizes m.seen m.block e m.number n (sound.bases n) c d refl refl (record {
        words = sym (ap (wrote c.page.words) (store_contents_write m.sizes n a v refl));
        dirty = sym (ap (mark_write c.page.dirty) (store_contents_write m.sizes n a v refl));
        access = refl;
        missing = refl;
        unfetched = λ w r x is. absurd (cc);
        away = λ stale. absurd (noted_event_valid_is_not_invalid (sym noted_event_valid ∙ stale));
      }) (sound.copies.each n c at)

      copies : (i : ℕ) (x : PageReplica) → slice_get (slice_set m.copies n d) i ≡ Some x
          → IsPageReplica m.sizes m.seen (m.block ++ e ∷ []) m.number i (sound.bases i) x
      copies i x found = elim (cases_eq i n) [
        | inl same ↦
            (let P : ℕ → Type 0 = λ k. slice_get (slice_set m.copies n d) k ≡ Some x in
            let is : d ≡ x = slice_get-set_found m.copies n d x (subst P same found) in
            let Q : ℕ → PageReplica → Type 0 =
            λ k y. IsPageReplica m.sizes m.seen (m.block ++ e ∷ []) m.number k (sound.bases k) y in
            subst₂ Q (sym same) is here)
        | inr other ↦ replica_pushed m.sizes m.seen m.block e m.number i (sound.bases i) x x refl refl (record {
          words = sym (ap (wrote x.page.words) (elsewhere i other));
          dirty = sym (ap (mark_write x.page.dirty) (elsewhere i other));
          access = refl;
          missing = refl;
          unfetched = λ w r x is. absurd (cc);
          away = λ stale. ((λ same. other (sym same)), elsewhere i other);
        }) (sound.copies.each i x (sym (slice_get-set_other m.copies n i d other) ∙ found))
      ]
        where
          elsewhere : (i : ℕ) → i ≢ n → block_write m.sizes i (Store a v) ≡ None
          elsewhere i other = rw (ne_eqb n i (λ same. other (sym same)))

      clean : (i : ℕ) (x : PageReplica) → slice_get (slice_set m.copies n d) i ≡ Some x
          → slice_get (slice_set m.stored n true) i ≡ Some false → ContentsAreClean x.page
      clean i x found unmarked = elim (cases_eq i n) [
        | inl same ↦
            (let P : ℕ → Type 0 = λ k. slice_get (slice_set m.stored n true) k ≡ Some false in
            let is : true ≡ false = slice_get-set_found m.stored n true false (subst P same unmarked) in
            absurd (cc))
        | inr other ↦ sound.clean i x (sym (slice_get-set_other m.copies n i d other) ∙ found)
            (sym (slice_get-set_other m.stored n i true other) ∙ unmarked)
      ]

-- the parts of a processor after a store
pub noted_event_store_done : {was m : Local} {page offset : ℕ} {y : PageReplica} {block : List Event} {marks : List Bool}
    (a v : ℕ) (x : PageReplica) → was ≡ m → page ≡ a / m.sizes.words → offset ≡ a % m.sizes.words → y ≡ page_replica_written_at x offset v
    → block ≡ was.block ++ event was.number (Store a v) ∷ [] → marks ≡ slice_set was.stored page true
    → record was { block = block; copies = slice_set was.copies page y; stored = marks } ≡ access_done_by_store m a v x
noted_event_store_done {m = m} a v x same page_is offset_is y_is block_is marks_are =
    rw (
      y_is,
      block_is,
      marks_are,
      page_is,
      offset_is,
    ) (ap (λ (l : Local). record l {
      block = l.block ++ event l.number (Store a v) ∷ [];
      copies = slice_set l.copies (a / m.sizes.words) (page_replica_written_at x (a % m.sizes.words) v);
      stored = slice_set l.stored (a / m.sizes.words) true;
    }) same)
