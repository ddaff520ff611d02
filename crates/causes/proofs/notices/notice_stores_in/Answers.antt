use Rattle.std.proofs.lemmas.Bool.{lt-ltb, ltb-true}
use Rattle.judge.specs.JudgedSizes.{judged_sizes_of}
use Rattle.causes.proofs.NoticeRows.{notice_row_of_one}
use Rattle.causes.proofs.notices.notice_stores_in.Goals as goal

pub returns : goal.returns
returns c = λ j tells.
    let both =
    notice_row_of_one (judged_sizes_of c.args.gaps.now.sizes) j c.args.page c.args.by c.args.interval c.records.result
    (c.records.ensures j tells) in (
      λ yes. both.0 (ltb-true 0 c.records.result yes),
      λ stores. lt-ltb 0 c.records.result (both.1 stores),
    )
