use Rattle.std.proofs.Common.{◌≡◌, ℕ, ◌++◌, List, subst, sym}
use Rattle.std.specs.Prelude.{Result, Ok, Err, IfErr}
use Rattle.std.specs.Result.{IsErrAnd}
use Rattle.std.specs.Global.{Vec}
use Rattle.std.proofs.lemmas.Result.{on_ok_weaker}
use Rattle.journal.specs.declared.event.Event.{Event}
use Rattle.lrc_check.specs.Traces.Begun.{AreTraceSizesKept}
use Rattle.lrc_check.specs.Traces.FedText.{FedText, HasReadFedText, IsFedTextOf}
use Rattle.lrc_pages.specs.declared.page_stream.PageStream.{PageStream}
use Rattle.lrc_pages.specs.PageStreams.{ArePagedIfBegun, HasPagesToRead, IsPageStreamOf}
use Rattle.lrc_pages.proofs.StreamedPages.{paged_kept}
use Rattle.lrc_pages.proofs.page_stream.PageStream.feed.Goals as goal

-- of an error that says so it is said
if_err : {A E : Type 0} (r : Result A E) (P Q : E → Type 0) → ((e : E) → P e → Q e) → IsErrAnd r P → IfErr r Q
if_err (Ok a) P Q f p = tt
if_err (Err e) P Q f p = f e p

-- after the piece was read, what was at hand before is let go of
to_read : (x : PageStream) (left reader : FedText) (bytes : List ℕ) (front : List Event) (labels : List ℕ) → IsPageStreamOf bytes front labels x
    → left.sizes ≡ x.reader.sizes → AreTraceSizesKept left.sizes reader.sizes → (more : List ℕ)
    → HasReadFedText (bytes ++ more) (front ++ x.reader.events) reader → HasPagesToRead (front ++ x.reader.events) (record x { reader = reader })
to_read x left reader bytes front labels stream same kept more read = record {
  trace = read.trace;
  told = paged_kept x.words.items x.reader.sizes reader.sizes (front ++ x.reader.events) x.histories
      (subst (λ o. AreTraceSizesKept o reader.sizes) same kept) stream.paged;
}

pub returns-in_err-feed-clause-refused : goal.returns-in_err-feed-clause-refused
returns-in_err-feed-clause-refused c =
    if_err c.from_residual.result _ _ (λ fault given found bytes was.
    c.in_err-feed.ensures.only (given found) bytes (was.0 ++ c.args.self.now.reader.events) (was.1 ++ c.args.self.now.reader.labels)
    (c.let_go.ensures.fed bytes was.0 was.1 was.2.read)) c.from_residual.ensures.1

pub read-requires : goal.read-requires
read-requires c =
    let x = c.args.self.now in
    let bytes = c.requires.0 in
    let was = c.requires.1 in
    let front = was.0 ++ x.reader.events in
    let fed = c.let_go.ensures.fed bytes was.0 was.1 was.2.read in (
      front,
      to_read x c.let_go.new.self c.feed.new.self bytes was.0 was.1 was.2 c.let_go.ensures.sizes c.feed.ensures.sizes c.args.piece.now
          (c.feed.ensures.read bytes front (was.1 ++ x.reader.labels) fed),
    )

pub returns-clause-stream : goal.returns-clause-stream
returns-clause-stream c =
    on_ok_weaker c.read.result (λ told bytes was. (
    let x = c.args.self.now in
    let y = c.read.new.self in
    let reader = c.feed.new.self in
    let piece = c.args.piece.now in
    let front = was.0 ++ x.reader.events in
    let labels = was.1 ++ x.reader.labels in
    let fed = c.let_go.ensures.fed bytes was.0 was.1 was.2.read in
    let read = to_read x c.let_go.new.self reader bytes was.0 was.1 was.2 c.let_go.ensures.sizes c.feed.ensures.sizes piece
    (c.feed.ensures.read bytes front labels fed) in
    let paged = told front read in (
      front,
      labels,
      record {
        read = subst (IsFedTextOf (bytes ++ piece) front labels) (sym c.read.ensures.reader) (c.in_ok-feed.ensures.fed bytes front labels fed);
        paged = subst (λ (v : Vec ℕ). ArePagedIfBegun v.items y.reader.sizes (front ++ y.reader.events) y.histories) (sym c.read.ensures.words)
            (subst (λ (f : FedText). ArePagedIfBegun x.words.items f.sizes (front ++ f.events) y.histories) (sym c.read.ensures.reader) paged);
      },
    ))) c.read.ensures.told
