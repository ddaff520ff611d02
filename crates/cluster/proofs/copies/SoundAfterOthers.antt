-- What others did meanwhile keeps a processor sound.
use Rattle.std.proofs.Common.{ℕ, ◌≡◌, ◌≢◌, ◌≤◌, ◌↔◌, Bool, true, Option, Some, List, ◌++◌, length, slice_get, slice_index}
use Rattle.journal.specs.declared.event.Event.{Event}
use Rattle.journal.specs.declared.event.Kind.{Kind}
use Rattle.journal.specs.Events.{EventAt}
use Rattle.journal.specs.WellFormed.{WellFormed, Holds}
use Rattle.journal.proofs.Journals.WellFormedStays.{well_formed_stays_last_longer, well_formed_stays_last_shorter}
use Rattle.journal.proofs.Journals.HoldsOfOthers.{holds_of_others}
use Rattle.journal.proofs.Times.PushedTimes.{pushed_time_others}
use Rattle.journal.proofs.CopyOfPage.BlockLoads.{block_loads_others}
use Rattle.journal.proofs.Missing.GapsCounted.{gaps_counted_block_others}
use Rattle.book.specs.BookStamps.{IsAwaitedByBookStamps}
use Rattle.cluster.specs.Copies.Local.{Local}
use Rattle.cluster.specs.Copies.Sound.{IsSound, sound_most_seen}
use Rattle.cluster.specs.Copies.AfterNews.{found_after_news}
use Rattle.cluster.proofs.copies.Replicas.{replica_others}

-- others' events leave what a processor waits for
pub sound_after_others_awaited : (h rest : List Event) (p : ℕ) (w : Option Kind)
    → ((k : ℕ) (e : Event) → EventAt rest k e → e.processor ≢ p)
    → IsAwaitedByBookStamps h p w
    → IsAwaitedByBookStamps (h ++ rest) p w
sound_after_others_awaited h rest p w away x = record {
  last = λ i a last. x.last i a (well_formed_stays_last_shorter h rest p i a away last);
  some = λ k is. let s = x.some k is in (s.0, s.1, well_formed_stays_last_longer h rest p s.0 s.1 away s.2);
}

-- a processor that finds the journal gone on by others' events is as sound as it was
pub sound_after_others_found : (m : Local) (rest : List Event) → IsSound m
    → ((k : ℕ) (e : Event) → EventAt rest k e → e.processor ≢ m.number)
    → WellFormed m.sizes (m.seen ++ rest)
    → length (m.seen ++ rest) ≤ sound_most_seen
    → IsSound (found_after_news m rest)
sound_after_others_found m rest sound away well few = record {
  sizes = sound.sizes;
  mine = sound.mine;
  few = few;
  well_formed = well;
  inner = sound.inner;
  short = sound.short;
  time = record {
    long = sound.time.long;
    is = pushed_time_others m.seen rest m.number (slice_index m.time) away sound.time.is;
  };
  bases = sound.bases;
  answers = block_loads_others m.sizes m.seen rest m.block m.number sound.bases away sound.answers;
  counts = gaps_counted_block_others m.sizes m.seen rest m.block m.number away sound.counts;
  copies = record {
    long = sound.copies.long;
    each = λ n c at.
        replica_others m.sizes m.seen rest m.block m.number n (sound.bases n) c away (sound.copies.each n c at);
  };
  marks = sound.marks;
  clean = sound.clean;
  held = record { long = sound.held.long; each = held };
  awaits = sound_after_others_awaited m.seen rest m.number m.awaits away sound.awaits;
  quiet = sound.quiet;
  unstored = sound.unstored;
}
  where
    held : (l : ℕ) (b : Bool) → slice_get m.held l ≡ Some b → (b ≡ true) ↔ Holds (m.seen ++ rest) m.number l
    held l b at =
        let old = sound.held.each l b at in
        let on = holds_of_others m.seen rest m.number l away in
        (λ is. on.1 (old.0 is), λ holds. old.1 (on.0 holds))

-- how often a processor has entered, and what was cut off, is no matter
pub sound_after_others_entered : (m : Local) (entries cut own_cut : ℕ) → IsSound m
    → IsSound (record m { entries = entries; cut = cut; own_cut = own_cut })
sound_after_others_entered m entries cut own_cut sound = record {
  sizes = sound.sizes;
  mine = sound.mine;
  few = sound.few;
  well_formed = sound.well_formed;
  inner = sound.inner;
  short = sound.short;
  time = sound.time;
  bases = sound.bases;
  answers = sound.answers;
  counts = sound.counts;
  copies = sound.copies;
  marks = sound.marks;
  clean = sound.clean;
  held = sound.held;
  awaits = sound.awaits;
  quiet = sound.quiet;
  unstored = sound.unstored;
}
