use Rattle.std.proofs.Common.{◌∙◌, List, inl, inr, refl, subst, sym, arith}
use Rattle.std.proofs.lemmas.Bool.{cases_eq, false≢true}
use Rattle.journal.specs.declared.event.Event.{Event}
use Rattle.journal.specs.EventsInRange.{EventProcessorsInRange}
use Rattle.judge.specs.FetchGaps.{TellsFetchGaps}
use Rattle.judge.specs.JudgedSizes.{judged_sizes_of}
use Rattle.judge.specs.declared.gaps.Gaps.{Gaps}
use Rattle.causes.specs.Notices.{HasNoticeOf}
use Rattle.causes.proofs.DueSpans.{IsDueSpanOfFetch}
use Rattle.causes.proofs.StaleCopies.{stale_by, stale_has}
use Rattle.causes.proofs.stale_and_dirty_pages.is_stale_page.Goals as goal

-- a history that is told has at most sixteen processors
low : (j : List Event) (g : Gaps) → TellsFetchGaps j g → EventProcessorsInRange 16 j
low j g tells i e at =
    let lt = tells.processors i e at in let few = tells.long.sizes.processors in omega arith

pub loop-writer-init : goal.loop-writer-init
loop-writer-init c = λ j q tells lt. absurd (omega arith)

pub loop-writer-preserved : goal.loop-writer-preserved
loop-writer-preserved c = λ j q tells lt has. elim (cases_eq q c.loop-writer.writer) [
  | inl is ↦
      false≢true (sym c.if-has_notice_of.false
      ∙ (c.has_notice_of.ensures j tells).1
      (subst (λ w. HasNoticeOf (judged_sizes_of c.args.gaps.now.sizes) j c.span_of_fetch-span.result c.args.page w) is has))
  | inr isnt ↦ c.loop-writer.invariant j q tells (omega arith) has
]

pub returns-then-has_notice_of : goal.returns-then-has_notice_of
returns-then-has_notice_of c = λ j tells.
    let is = c.span_of_fetch-span.ensures in
    let is_span : IsDueSpanOfFetch (judged_sizes_of c.args.gaps.now.sizes) j c.args.reader c.args.page c.span_of_fetch-span.result =
    record { reader = is.reader; first = is.first; end = is.end; from = is.from j tells; to = is.to j tells } in (
      λ yes. stale_by c.loop-writer.writer is_span ((c.has_notice_of.ensures j tells).0 c.if-has_notice_of.true),
      λ stale. refl,
    )

pub returns : goal.returns
returns c = λ j tells.
    let is = c.span_of_fetch-span.ensures in
    let is_span : IsDueSpanOfFetch (judged_sizes_of c.args.gaps.now.sizes) j c.args.reader c.args.page c.span_of_fetch-span.result =
    record { reader = is.reader; first = is.first; end = is.end; from = is.from j tells; to = is.to j tells } in (
      λ yes. absurd (false≢true yes),
      λ stale.
          absurd (let x = stale_has is_span (low j c.args.gaps.now tells) stale in
          let end = c.loop-writer-test.false in
          let under = x.1 in
          c.loop-writer.invariant j x.0 tells (omega arith) x.2),
    )
