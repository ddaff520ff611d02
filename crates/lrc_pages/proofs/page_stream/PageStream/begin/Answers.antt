use Rattle.std.proofs.Common.{◌≡◌, [], List, Option, Some, subst, sym, refl, ap, ◌∙◌, false}
use Rattle.std.specs.Prelude.{None, MatchOption, is_some, not}
use Rattle.std.specs.Global.{Vec}
use Rattle.journal.specs.declared.event.Event.{Event}
use Rattle.judge.specs.JudgedSizes.{AreStreamedSizes}
use Rattle.lrc_check.specs.Traces.Sizes.{trace_sizes_of}
use Rattle.lrc_pages.specs.declared.page_stream.PageStream.{PageStream}
use Rattle.lrc_pages.specs.declared.paged_history.PagedHistory.{PagedHistory}
use Rattle.lrc_pages.specs.PagedTraces.{ArePagedTraces}
use Rattle.lrc_pages.specs.PageStreams.{ArePagedByWords, HasPagesToRead}
use Rattle.lrc_pages.proofs.StreamedPages.{paged_trace}
use Rattle.lrc_pages.proofs.page_stream.PageStream.begin.Goals as goal

-- without histories nothing was told
nothing_told : (x : PageStream) (front : List Event) → HasPagesToRead front x → x.histories ≡ None → front ≡ []
nothing_told x front read none =
    subst (λ (o : Option (Vec PagedHistory)). MatchOption o (front ≡ []) (ArePagedByWords x.words.items x.reader.sizes front)) none read.told

no_histories : (o : Option (Vec PagedHistory)) → is_some o ≡ false → o ≡ None
no_histories None is = refl
no_histories (Some h) is = absurd cc

pub begun_on_pages-requires : goal.begun_on_pages-requires
begun_on_pages-requires c =
    subst AreStreamedSizes (sym c.page_stream_sizes.ensures)
    (paged_trace c.in-Some.sizes c.args.self.now.reader.sizes _ c.requires.0 _ (sym c.sizes.ensures ∙ c.in-Some.is) c.requires.1.trace).sizes.streamed

pub returns-in_ok-histories-clause-begun : goal.returns-in_ok-histories-clause-begun
returns-in_ok-histories-clause-begun c = λ front read.
    let x = c.args.self.now in
    let none = nothing_told x front read (no_histories x.histories (c.is_none.ensures ∙ ap not c.if-is_none.true)) in
    record {
      trace = read.trace;
      told = subst (λ o. MatchOption o (front ≡ []) (ArePagedByWords x.words.items x.reader.sizes front)) (sym c.replace.ensures.after) record {
        known = c.in-Some.sizes;
        sizes_are = sym c.sizes.ensures ∙ c.in-Some.is;
        words_are = c.in_ok-histories.ensures.words ∙ c.deref.ensures.value;
        told = subst (λ j. ArePagedTraces (trace_sizes_of c.in-Some.sizes) j c.in_ok-histories.histories.items) (sym none)
            (subst (λ s. ArePagedTraces s [] c.in_ok-histories.histories.items) c.page_stream_sizes.ensures c.in_ok-histories.ensures.told);
      };
    }
