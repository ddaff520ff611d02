use Rattle.std.proofs.Common.{slice_index}
use Rattle.std.proofs.lemmas.Bool.{lt-ltb, ltb-true}
use Rattle.judge.specs.JudgedSizes.{judged_sizes_of}
use Rattle.causes.proofs.NoticeRows.{notice_row_counted}
use Rattle.causes.proofs.notices.has_notice_of.Goals as goal

pub returns-then-writer-span : goal.returns-then-writer-span
returns-then-writer-span c = λ j tells.
    let q = c.args.writer in
    let span = c.args.span.now in
    let both =
    notice_row_counted (judged_sizes_of c.args.gaps.now.sizes) j c.args.page q (slice_index span.from q) (slice_index span.to q)
    c.records.result (c.records.ensures j tells) in (
      λ yes. (c.if-writer-span.true, both.0 (ltb-true 0 c.records.result yes)),
      λ has. lt-ltb 0 c.records.result (both.1 has.1),
    )
