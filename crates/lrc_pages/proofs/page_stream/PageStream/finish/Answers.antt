use Rattle.std.proofs.Common.{◌≡◌, ℕ, ◌++◌, List, Option, Some, subst, sym, ap, ◌∙◌}
use Rattle.std.specs.Prelude.{None}
use Rattle.std.specs.Global.{Vec}
use Rattle.std.proofs.lemmas.Option.{none-some, same_Some}
use Rattle.journal.specs.declared.event.Event.{Event}
use Rattle.lrc_check.specs.declared.traces.trace.TraceSizes.{TraceSizes}
use Rattle.lrc_check.specs.Traces.Sizes.{trace_sizes_of}
use Rattle.lrc_pages.specs.declared.page_stream.PageStream.{PageStream}
use Rattle.lrc_pages.specs.declared.paged_history.PagedHistory.{PagedHistory}
use Rattle.lrc_pages.specs.PagedTraces.{ArePagedTraces, ArePageRows, paged_words}
use Rattle.lrc_pages.specs.PageStreams.{ArePagedIfBegun, IsPageStreamOf}
use Rattle.lrc_pages.proofs.page_stream.PageStream.finish.Goals as goal

-- what is known of the histories, which are these or none
paged_are : (x : PageStream) (o : Option (Vec PagedHistory)) (bytes : List ℕ) (front : List Event) (told : List ℕ) → IsPageStreamOf bytes front told x
    → x.histories ≡ o → ArePagedIfBegun x.words.items x.reader.sizes (front ++ x.reader.events) o
paged_are x o bytes front told stream is = subst (ArePagedIfBegun x.words.items x.reader.sizes (front ++ x.reader.events)) is stream.paged

pub page_rows-requires : goal.page_rows-requires
page_rows-requires c =
    let x = c.args.self.now in
    let was = c.requires.1 in
    let paged = paged_are x (Some c.in-Some.histories) c.requires.0 was.0 was.1 was.2 c.in-Some.is in
    let s = trace_sizes_of paged.known in
    let j = was.0 ++ x.reader.events in
    (s, j, subst (ArePagedTraces s j) (sym c.deref.ensures.value) paged.told)

pub returns-in_ok-page_rows-in-Some-clause-found : goal.returns-in_ok-page_rows-in-Some-clause-found
returns-in_ok-page_rows-in-Some-clause-found c = λ bytes was.
    let x = c.args.self.now in
    let whole = c.in_ok-end.ensures.whole bytes was.0 was.1 was.2.read in
    let paged = paged_are x (Some c.in-Some.histories) bytes was.0 was.1 was.2 c.in-Some.is in
    let s = trace_sizes_of paged.known in
    let j = was.0 ++ x.reader.events in
    let rows = c.in_ok-page_rows-in-Some.field-0.items in
    let are = c.in_ok-page_rows-in-Some.ensures s j (subst (ArePagedTraces s j) (sym c.deref.ensures.value) paged.told) in
    record {
      sizes = trace_sizes_of whole.sizes;
      events = j;
      trace = whole.trace;
      text_is = whole.text;
      rows_are = subst (λ (t : TraceSizes). ArePageRows x.most (trace_sizes_of t) j x.words.items rows)
          (same_Some paged.known whole.sizes (sym paged.sizes_are ∙ whole.known))
          (subst (λ ws. ArePageRows x.most s j ws rows) (ap paged_words c.deref.ensures.value ∙ paged.words_are) are);
    }

pub returns-in-None-clause-found : goal.returns-in-None-clause-found
returns-in-None-clause-found c = λ bytes was.
    let x = c.args.self.now in
    let whole = c.in_ok-end.ensures.whole bytes was.0 was.1 was.2.read in
    let none = paged_are x None bytes was.0 was.1 was.2 c.in-None.is in
    absurd (none-some whole.sizes (sym none.0 ∙ whole.known))
