-- Handing its block in keeps a processor sound.
use Rattle.std.proofs.Common.{ℕ, ◌≡◌, ◌≤◌, ◌↔◌, Bool, true, true≢false, Option, Some, None, List, [], ◌++◌, length, slice_get, slice_index, refl, sym, ap, subst, ◌∙◌, append-nil, arith}
use Rattle.std.proofs.lemmas.Option.{none-some}
use Rattle.journal.specs.declared.event.Event.{Event}
use Rattle.journal.specs.declared.event.Kind.{Kind}
use Rattle.journal.specs.declared.event.Kind.TheVariants.{Acquire, Release}
use Rattle.journal.specs.DidEvent.{event}
use Rattle.journal.specs.Events.{EventAt}
use Rattle.journal.specs.WellFormed.{Does, WellFormed, Holds}
use Rattle.journal.specs.AwaitedNext.{AwaitsNothingNext}
use Rattle.journal.specs.Pasts.{InPast}
use Rattle.journal.proofs.OwnBlocks.{IsBlock}
use Rattle.journal.proofs.Journals.MayGoOn.{MayGoOnPlainAt, may_go_on_plain_block}
use Rattle.journal.proofs.Journals.HoldsOfOthers.{holds_over_others, holds_before_others}
use Rattle.journal.proofs.Times.BlockTime.{block_time}
use Rattle.journal.proofs.CopyOfPage.UnderBlock.{valid_under_block_answers_start}
use Rattle.journal.proofs.Missing.GapsCounted.{gaps_counted_block_start}
use Rattle.book.specs.BookStamps.{IsBookStamp, IsAwaitedByBookStamps}
use Rattle.cluster.specs.Copies.PageReplica.{PageReplica, IsPageReplica}
use Rattle.cluster.specs.Copies.Local.{Local}
use Rattle.cluster.specs.Copies.Sound.{IsSound, sound_most_seen}
use Rattle.cluster.specs.Copies.AfterNews.{handed_after_news}
use Rattle.cluster.proofs.copies.Replicas.{replica_handed}

-- the words of the copy, if there is one
abbrev pub sound_handing_copied_words : Option PageReplica → List ℕ
sound_handing_copied_words None = []
sound_handing_copied_words (Some c) = c.page.words

module _ (m : Local) (sound : IsSound m) where
  -- the open block is events of the processor that take nothing
  pub sound_handing_in_block : IsBlock m.number m.block
  sound_handing_in_block k e at = let inner = sound.inner k e at in (inner.mine, inner.takes)

  -- so it leaves the timestamp
  sound_handing_keeps_time : IsBookStamp m.sizes.processors (m.seen ++ m.block) (InPast (m.seen ++ m.block) m.number) m.time
  sound_handing_keeps_time = record {
    long = sound.time.long;
    is =
        let closes = λ (k : ℕ) (e : Event) (at : EventAt m.block k e). (sound.inner k e at).closes in
        block_time m.seen m.block m.number (slice_index m.time) sound_handing_in_block closes sound.time.is;
  }

  -- which locks are held
  sound_handing_keeps_held : (l : ℕ) (b : Bool) → slice_get m.held l ≡ Some b
      → (b ≡ true) ↔ Holds (m.seen ++ m.block) m.number l
  sound_handing_keeps_held l b at =
      let old = sound.held.each l b at in (
        (λ is. holds_over_others m.seen m.block m.number l release (old.0 is)),
        (λ holds. old.1 (holds_before_others m.seen m.block m.number l acquire holds)),
      )
    where
      release : (k : ℕ) → ¬ Does m.block k m.number (Release l)
      release k does = true≢false (sound.inner k (event m.number (Release l)) does).closes

      acquire : (k : ℕ) → ¬ Does m.block k m.number (Acquire l)
      acquire k does = true≢false (sound.inner k (event m.number (Acquire l)) does).takes

  -- and what is awaited
  sound_handing_keeps_awaits : IsAwaitedByBookStamps (m.seen ++ m.block) m.number m.awaits
  sound_handing_keeps_awaits = go m.awaits refl
    where
      go : (o : Option Kind) → m.awaits ≡ o → IsAwaitedByBookStamps (m.seen ++ m.block) m.number o
      go None none =
          let idle : AwaitsNothingNext m.seen m.number = λ i a last. sym (sound.awaits.last i a last) ∙ none in
          let still = may_go_on_plain_block m.sizes m.seen m.block m.number sound.mine sound.well_formed idle plain in
          record { last = λ i a last. sym (still.1 i a last); some = λ k is. absurd (none-some k is) }
        where
          plain : (k : ℕ) (e : Event) → EventAt m.block k e → MayGoOnPlainAt m.sizes m.number e
          plain k e at = let inner = sound.inner k e at in record {
            mine = inner.mine;
            takes = inner.takes;
            closes = inner.closes;
            in_range = inner.in_range;
          }
      go (Some k) some =
          let empty = sound.quiet (λ none. none-some k (sym none ∙ some)) in
          rw (empty, append-nil) (subst (IsAwaitedByBookStamps m.seen m.number) some sound.awaits)

  -- a processor that handed its block in is as sound as it was
  pub sound_handing_in : WellFormed m.sizes (m.seen ++ m.block)
      → length (m.seen ++ m.block) ≤ sound_most_seen
      → IsSound (handed_after_news m)
  sound_handing_in well few = record {
    sizes = sound.sizes;
    mine = sound.mine;
    few = few;
    well_formed = well;
    inner = λ k e at. absurd (none-some e at);
    short = omega arith;
    time = sound_handing_keeps_time;
    bases = bases;
    answers = valid_under_block_answers_start m.sizes (m.seen ++ m.block) m.number bases;
    counts = gaps_counted_block_start m.sizes (m.seen ++ m.block) m.number;
    copies = record { long = sound.copies.long; each = copies };
    marks = sound.marks;
    clean = sound.clean;
    held = record { long = sound.held.long; each = sound_handing_keeps_held };
    awaits = sound_handing_keeps_awaits;
    quiet = λ waits. refl;
    unstored = sound.unstored;
  }
    where
      bases : ℕ → List ℕ
      bases n = sound_handing_copied_words (slice_get m.copies n)

      copies : (n : ℕ) (c : PageReplica) → slice_get m.copies n ≡ Some c
          → IsPageReplica m.sizes (m.seen ++ m.block) [] m.number n (bases n) c
      copies n c at =
          let old = sound.copies.each n c at in
          let now = replica_handed m.sizes m.seen m.block m.number n (sound.bases n) c sound_handing_in_block old in
          subst (λ (b : List ℕ). IsPageReplica m.sizes (m.seen ++ m.block) [] m.number n b c) (sym (ap sound_handing_copied_words at)) now
