-- What holds of the histories that a cluster gives out.
use Rattle.std.proofs.Common.{ℕ, sym, ◌≡◌, ◌≤◌, ◌+◌, List, length, take, length-append, ap, ap₂, subst, ◌∙◌, arith}
use Rattle.std.proofs.Math.Seq.{take-append_seam}
use Rattle.journal.specs.declared.event.Event.{Event}
use Rattle.journal.specs.declared.event.Kind.TheVariants.{Load}
use Rattle.journal.specs.DidEvent.{event}
use Rattle.journal.specs.Sizes.{Sizes, addresses}
use Rattle.journal.specs.WellFormed.{WellFormed}
use Rattle.journal.specs.ExplainedAnswers.{Explained}
use Rattle.journal.specs.FetchesCountGaps.{FetchesCountGaps}
use Rattle.journal.specs.CopyAnswers.{AnswersCopies}
use Rattle.journal.specs.Log.{Log, LogHoldsRestOfHistory}
use Rattle.base.specs.Limits.{most_events}
use Rattle.cluster.specs.Copies.Sound.{sound_most_seen}
use Rattle.journal.proofs.Flat.FlatBeforeRace.{flat_before_race_up_to}
use Rattle.book.specs.BookState.{BookState}
use Rattle.book.specs.RepresentedHistory.{Represents}
use Rattle.cluster.specs.FaithfulJournals.{IsFaithful, IsJournalOf}

-- a history that is well formed and explained, whose fetches count their gaps, and whose loads answer copies
pub faithful_history : (s : Sizes) (h : List Event) → WellFormed s h → Explained h → FetchesCountGaps s h → AnswersCopies s h
    → IsFaithful s h
faithful_history s h well explained counted copied = record {
  well_formed = well;
  explained = explained;
  counted = counted;
  copied = copied;
  flat =
      λ k none.
      flat_before_race_up_to (addresses s) h k (λ i p a v does. (well i (event p (Load a v)) does).in_range) explained none;
}

-- a history that tells a book has the events cut off, and the journal's
pub faithful_history_told_long : (s : Sizes) (h : List Event) (b : BookState) → Represents s h b
    → length h ≡ b.journal.base.cut + length b.journal.events
faithful_history_told_long s h b told =
    let long = ap length told.holds.rest.history in
    let both = length-append told.holds.taken b.journal.events in
    let cut = told.holds.rest.base.after.cut in
    omega arith

-- so it is short
pub faithful_history_told_few : (s : Sizes) (h : List Event) (b : BookState) → Represents s h b → length b.journal.events ≤ most_events
    → length h ≤ sound_most_seen
faithful_history_told_few s h b told few = let long = faithful_history_told_long s h b told in let cut = told.holds.rest.few in omega arith

-- a journal like that of a book that the history tells
pub faithful_history_journal : (s : Sizes) (h : List Event) (b : BookState) (j : Log) (told : Represents s h b)
    → j ≡ record b.journal { room = j.room } → IsJournalOf s told.holds.taken h j
faithful_history_journal s h b j told same = record {
  processors = ap (λ (x : Log). x.processors) same ∙ told.sizes.processors;
  addresses_are = ap (λ (x : Log). x.addresses) same ∙ told.sizes.addresses;
  holds = subst (λ (l : Log). LogHoldsRestOfHistory l told.holds.taken h) (sym same) (record {
    history = told.holds.rest.history;
    base = told.holds.rest.base;
    few = told.holds.rest.few;
  });
}

-- what was cut off is its beginning
pub faithful_history_taken : (s : Sizes) (h : List Event) (b : BookState) (told : Represents s h b)
    → told.holds.taken ≡ take b.journal.base.cut h
faithful_history_taken s h b told =
    let cut = told.holds.rest.base.after.cut in
    let long : length told.holds.taken ≡ b.journal.base.cut = omega arith in
    sym (ap₂ (λ (n : ℕ) (xs : List Event). take n xs) (sym long) told.holds.rest.history
    ∙ take-append_seam told.holds.taken b.journal.events)
