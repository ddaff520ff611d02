use Rattle.std.proofs.Common.{◌≡◌, ℕ, [], ◌++◌, List, Option, Some, length, subst, sym, ap, ◌∙◌, arith}
use Rattle.std.specs.Prelude.{MatchOption}
use Rattle.std.specs.Global.{Vec}
use Rattle.std.proofs.lemmas.List.{with_items_is}
use Rattle.journal.specs.declared.event.Event.{Event}
use Rattle.lrc_check.specs.Traces.FedText.{FedText}
use Rattle.lrc_check.specs.Traces.Sizes.{trace_sizes_of}
use Rattle.lrc_pages.specs.declared.page_stream.PageStream.{PageStream}
use Rattle.lrc_pages.specs.declared.paged_history.PagedHistory.{PagedHistory}
use Rattle.lrc_pages.specs.PagedTraces.{ArePagedTraces, AreTracedEvents, paged_words}
use Rattle.lrc_pages.specs.PageStreams.{ArePagedByWords, HasPagesToRead}
use Rattle.lrc_pages.proofs.StreamedPages.{paged_trace, paged_traced}
use Rattle.lrc_pages.proofs.page_stream.PageStream.read.Goals as goal

-- the histories that there are were told what was let go of
told_front : (y : PageStream) (hs : Vec PagedHistory) (front : List Event) → HasPagesToRead front y → y.histories ≡ Some hs
    → ArePagedByWords y.words.items y.reader.sizes front hs
told_front y hs front read is =
    subst (λ (o : Option (Vec PagedHistory)). MatchOption o (front ≡ []) (ArePagedByWords y.words.items y.reader.sizes front)) is read.told

pub read_if_watched-requires : goal.read_if_watched-requires
read_if_watched-requires c =
    let y = c.begin.new.self in
    let hs = c.in-Some.histories in
    let front = c.requires.0 in
    let read = c.in_ok-begin.ensures.begun front c.requires.1 in
    let paged = told_front y hs front read c.in-Some.is in (
      trace_sizes_of paged.known,
      front,
      subst (ArePagedTraces (trace_sizes_of paged.known) front) (sym c.deref_mut.ensures.value) paged.told,
      subst (AreTracedEvents (trace_sizes_of paged.known)) (sym c.events.ensures) (paged_traced (trace_sizes_of paged.known) front y.reader.events
          (paged_trace paged.known y.reader.sizes y.reader.gone front y.reader.events paged.sizes_are read.trace)),
    )

pub returns-in_ok-read_if_watched-clause-told : goal.returns-in_ok-read_if_watched-clause-told
returns-in_ok-read_if_watched-clause-told c = λ front was.
    let x = c.args.self.now in
    let y = c.begin.new.self in
    let hs = c.in-Some.histories in
    let read = c.in_ok-begin.ensures.begun front was in
    let paged = told_front y hs front read c.in-Some.is in
    let s = trace_sizes_of paged.known in
    let events = c.events.ensures ∙ ap (λ (f : FedText). f.events) c.begin.ensures.reader in
    let new = c.read_if_watched.new.histories in
    let ok = hs.ok.0 in
    let value = ap (λ (xs : List PagedHistory). length xs) c.deref_mut.ensures.value in
    let long : length new ≡ hs.len = omega (arith, c.read_if_watched.auto.histories, value, ok) in
    let same = with_items_is hs new long in
    let now = c.in_ok-read_if_watched.ensures.told s front (subst (ArePagedTraces s front) (sym c.deref_mut.ensures.value) paged.told) in
    record {
      known = paged.known;
      sizes_are = ap (λ (f : FedText). f.sizes) (sym c.begin.ensures.reader) ∙ paged.sizes_are;
      words_are = ap paged_words same ∙ c.in_ok-read_if_watched.ensures.words ∙ ap paged_words c.deref_mut.ensures.value ∙ paged.words_are
          ∙ ap (λ (v : Vec ℕ). v.items) c.begin.ensures.words;
      told = subst (ArePagedTraces s (front ++ x.reader.events)) (sym same) (subst (λ es. ArePagedTraces s (front ++ es) new) events now);
    }
