-- A closing event keeps a processor sound.
use Rattle.std.proofs.Common.{ℕ, ◌≡◌, ◌≤◌, true, false, Some, List, [], map, replicate, length, slice_get, refl, sym, ap, subst, subst₂, ◌∙◌}
use Rattle.std.proofs.lemmas.List.{length-map}
use Rattle.journal.specs.declared.event.Kind.{Kind}
use Rattle.journal.specs.DidEvent.{did}
use Rattle.journal.specs.Events.{event_closes}
use Rattle.journal.specs.WellFormed.{WellFormedKindInRange, WellFormed}
use Rattle.journal.proofs.CopyOfPage.UnderBlock.{valid_under_block_answers_start}
use Rattle.journal.proofs.Missing.GapsCounted.{gaps_counted_block_start}
use Rattle.turn.proofs.ListItems.{list_item_of_unmap}
use Rattle.page.specs.Contents.{ContentsAreClean}
use Rattle.book.proofs.Parts.LastEvents.{last_event_awaited_now}
use Rattle.book.proofs.Parts.Stamps.{stamp_closing}
use Rattle.cluster.specs.Copies.PageReplica.{PageReplica, IsPageReplica}
use Rattle.cluster.specs.Copies.Local.{Local}
use Rattle.cluster.specs.Copies.Sound.{IsSound, sound_most_seen}
use Rattle.cluster.specs.Copies.AfterNews.{copy_cleaned_after_news, closed_after_news}
use Rattle.cluster.proofs.copies.Replicas.{replica_closing_takes, replica_closed}
use Rattle.cluster.proofs.copies.LockMarks.{lock_marks_after_event}
use Rattle.cluster.proofs.copies.SoundHandingIn.{sound_handing_copied_words}

-- a processor that closed its interval, with no open block, is as sound as it was
pub sound_closing : (m : Local) (k : Kind) → IsSound m → m.block ≡ []
    → event_closes k ≡ true
    → WellFormedKindInRange m.sizes k
    → WellFormed m.sizes (did m.seen m.number k)
    → length (did m.seen m.number k) ≤ sound_most_seen
    → IsSound (closed_after_news m k)
sound_closing m k sound empty closes in_range well few = record {
  sizes = sound.sizes;
  mine = sound.mine;
  few = few;
  well_formed = well;
  inner = sound.inner;
  short = sound.short;
  time =
      let takes = replica_closing_takes k closes in
      stamp_closing m.sizes.processors m.seen m.number k m.time sound.mine takes closes sound.time;
  bases = bases;
  answers = rw empty (valid_under_block_answers_start m.sizes (did m.seen m.number k) m.number bases);
  counts = rw empty (gaps_counted_block_start m.sizes (did m.seen m.number k) m.number);
  copies = record { long = length-map m.copies copy_cleaned_after_news ∙ sound.copies.long; each = copies };
  marks = refl;
  clean = clean;
  held = lock_marks_after_event m.sizes.locks m.seen m.number k m.held sound.held;
  awaits = last_event_awaited_now m.seen m.number k;
  quiet = λ _. empty;
  unstored = λ _. refl;
}
  where
    bases : ℕ → List ℕ
    bases n = sound_handing_copied_words (slice_get m.copies n)

    copies : (n : ℕ) (d : PageReplica) → slice_get (map copy_cleaned_after_news m.copies) n ≡ Some d
        → IsPageReplica m.sizes (did m.seen m.number k) m.block m.number n (bases n) d
    copies n d at =
        let old = list_item_of_unmap copy_cleaned_after_news m.copies n d at in
        let c = old.0 in
        let was = rw empty at (sound.copies.each n c old.1) in
        let now = replica_closed m.sizes m.seen m.number n k (sound.bases n) c closes was in
        let P : List ℕ → PageReplica → Type 0 = λ b x. IsPageReplica m.sizes (did m.seen m.number k) [] m.number n b x in
        rw empty (subst₂ P (sym (ap sound_handing_copied_words old.1)) old.2 now)

    clean : (n : ℕ) (d : PageReplica) → slice_get (map copy_cleaned_after_news m.copies) n ≡ Some d
        → slice_get (replicate 64 false) n ≡ Some false
        → ContentsAreClean d.page
    clean n d at _ =
        let old = list_item_of_unmap copy_cleaned_after_news m.copies n d at in
        subst (λ (x : PageReplica). ContentsAreClean x.page) old.2 refl
