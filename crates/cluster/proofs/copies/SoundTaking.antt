-- A taking keeps a processor sound.
use Rattle.std.proofs.Common.{ℕ, ◌≡◌, ◌≢◌, ◌≤◌, true, false, Some, None, List, [], filter, length, get_or, slice_get, slice_index, refl, sym, ap, subst, ◌∙◌, arith}
use Rattle.std.proofs.lemmas.Option.{slice_get_within, slice_get-get_or}
use Rattle.journal.specs.declared.event.Event.{Event}
use Rattle.journal.specs.declared.event.Kind.{Kind}
use Rattle.journal.specs.DidEvent.{did}
use Rattle.journal.specs.Events.{event_takes}
use Rattle.journal.specs.WellFormed.{WellFormed}
use Rattle.journal.specs.Brings.{Brings}
use Rattle.journal.specs.MissingIntervals.{AreMissingIntervalsOfNotices}
use Rattle.journal.specs.Pasts.{InPast}
use Rattle.journal.proofs.CopyOfPage.UnderBlock.{valid_under_block_answers_start}
use Rattle.journal.proofs.Missing.GapsCounted.{gaps_counted_block_start}
use Rattle.base.proofs.SliceSets.{slice_get-replicate}
use Rattle.vtime.specs.TicksAndJoins.{join}
use Rattle.page.specs.Contents.{ContentsAreClean}
use Rattle.interval.specs.SentIntervals.{SentRecord}
use Rattle.interval.specs.KeptClosings.{is_kept_closing_of_page}
use Rattle.book.specs.PageNews.{news_of_page}
use Rattle.book.specs.BookStamps.{IsBookStamp, IsAwaitedByBookStamps}
use Rattle.book.proofs.Parts.LastEvents.{last_event_awaited_now}
use Rattle.book.proofs.Parts.Stamps.{stamp_taking}
use Rattle.cluster.specs.Copies.PageReplica.{PageReplica, IsPageReplica}
use Rattle.cluster.specs.Copies.Local.{Local}
use Rattle.cluster.specs.Copies.Sound.{IsSound, sound_most_seen}
use Rattle.cluster.specs.Copies.AfterNews.{IsAfterNews, AreAfterNews, AreSameCopiesAfterNews, taken_after_news}
use Rattle.cluster.proofs.copies.Taken.{taken_closes_none, taken_awaits_none, taken_news_clean, taken_news_same, taken_replica}
use Rattle.cluster.proofs.copies.LockMarks.{lock_marks_after_event}
use Rattle.cluster.proofs.copies.SoundHandingIn.{sound_handing_copied_words}

-- what comes to copies comes to those that are the same but for their room
pub sound_taking_after_same : (old mid new : List PageReplica) (sent : List SentRecord) → AreSameCopiesAfterNews old mid
    → AreAfterNews mid sent new
    → AreAfterNews old sent new
sound_taking_after_same old mid new sent same after = record { all = after.all ∙ same.all; each = each }
  where
    each : (n : ℕ) (c e : PageReplica) → slice_get old n ≡ Some c → slice_get new n ≡ Some e
        → IsAfterNews c (filter (is_kept_closing_of_page n) sent) e
    each n c e at to =
        let inside = slice_get_within new n e to in
        let all = after.all in
        let d = get_or mid n e in
        let found = slice_get-get_or mid n e (omega arith) in
        taken_news_same c d e (filter (is_kept_closing_of_page n) sent) (same.each n c d at found) (after.each n d e found to)

-- the copies of a processor that waits are clean
pub sound_taking_waits_clean : (m : Local) → IsSound m → m.awaits ≢ None → (n : ℕ) (c : PageReplica) → slice_get m.copies n ≡ Some c
    → ContentsAreClean c.page
sound_taking_waits_clean m sound waits n c at =
    let inside = slice_get_within m.copies n c at in
    let long = sound.copies.long in
    let pages = sound.sizes.pages in
    let none = slice_get-replicate 64 false n (omega arith) in
    sound.clean n c at (rw (sound.unstored waits) none)

-- the copy that the news came to
record WasCopyBeforeSoundTaking (m : Local) (sent : List SentRecord) (n : ℕ) (d : PageReplica) : Type 0 where
  copy : PageReplica
  at : slice_get m.copies n ≡ Some copy
  clean : ContentsAreClean copy.page
  news : IsAfterNews copy (filter (is_kept_closing_of_page n) sent) d

-- a processor that took what it waited for, with its news, is as sound as it was
pub sound_taking : (m : Local) (k : Kind) (u : List ℕ) (sent : List SentRecord) (copies : List PageReplica) → IsSound m
    → m.awaits ≢ None
    → event_takes k ≡ true
    → WellFormed m.sizes (did m.seen m.number k)
    → length (did m.seen m.number k) ≤ sound_most_seen
    → IsBookStamp m.sizes.processors m.seen (Brings m.seen m.number k) u
    → ((n : ℕ) → AreMissingIntervalsOfNotices m.sizes m.seen m.number n (slice_index m.time) (slice_index (join m.time u))
    (news_of_page n sent))
    → AreAfterNews m.copies sent copies
    → IsSound (taken_after_news m k u copies)
sound_taking m k u sent copies sound waits takes well few stamp news after = record {
  sizes = sound.sizes;
  mine = sound.mine;
  few = few;
  well_formed = well;
  inner = sound.inner;
  short = sound.short;
  time = time;
  bases = bases;
  answers = rw empty (valid_under_block_answers_start m.sizes now m.number bases);
  counts = rw empty (gaps_counted_block_start m.sizes now m.number);
  copies = record { long = after.all ∙ sound.copies.long; each = each };
  marks = sound.marks;
  clean = λ n d at _. let c = was n d at in taken_news_clean c.copy d (filter (is_kept_closing_of_page n) sent) c.news c.clean;
  held = lock_marks_after_event m.sizes.locks m.seen m.number k m.held sound.held;
  awaits = subst (IsAwaitedByBookStamps now m.number) (taken_awaits_none k takes) (last_event_awaited_now m.seen m.number k);
  quiet = λ still. absurd (still refl);
  unstored = λ still. absurd (still refl);
}
  where
    now : List Event
    now = did m.seen m.number k

    empty : m.block ≡ []
    empty = sound.quiet waits

    time : IsBookStamp m.sizes.processors now (InPast now m.number) (join m.time u)
    time = stamp_taking m.sizes.processors m.seen m.number k m.time u (taken_closes_none k takes) sound.time stamp

    bases : ℕ → List ℕ
    bases n = sound_handing_copied_words (slice_get copies n)

    was : (n : ℕ) (d : PageReplica) → slice_get copies n ≡ Some d → WasCopyBeforeSoundTaking m sent n d
    was n d at =
        let inside = slice_get_within copies n d at in
        let all = after.all in
        let found = slice_get-get_or m.copies n d (omega arith) in
        record {
          copy = get_or m.copies n d;
          at = found;
          clean = sound_taking_waits_clean m sound waits n (get_or m.copies n d) found;
          news = after.each n (get_or m.copies n d) d found at;
        }

    each : (n : ℕ) (d : PageReplica) → slice_get copies n ≡ Some d → IsPageReplica m.sizes now m.block m.number n (bases n) d
    each n d at =
        let c = was n d at in
        let old = rw empty at (sound.copies.each n c.copy c.at) in
        let t = slice_index m.time in
        let t' = slice_index (join m.time u) in
        let base = sound.bases n in
        let next = taken_replica m.sizes m.seen m.number n k t t' base c.copy takes sound.time.is time.is old in
        let P : List ℕ → Type 0 = λ b. IsPageReplica m.sizes now [] m.number n b d in
        rw empty (subst P (sym (ap sound_handing_copied_words at)) (next d (filter (is_kept_closing_of_page n) sent) (news n) c.clean c.news))
