use Rattle.std.proofs.Common.{◌∙◌, ◌+◌, refl, subst, sym, arith}
use Rattle.std.specs.Global.{Vec}
use Rattle.std.proofs.lemmas.Bool.{false≢true}
use Rattle.judge.specs.JudgedSizes.{judged_sizes_of}
use Rattle.judge.specs.GapTally.{gap_tally_place_of}
use Rattle.causes.specs.declared.notices.WriteNotice.{WriteNotice}
use Rattle.causes.specs.Notices.{NoticesBelow}
use Rattle.causes.proofs.NoticeRows.{notice_row_from, notice_row_next, notice_row_quiet, notices_row_done, notices_row_none}
use Rattle.causes.proofs.notices.add_notices_of_writer.Goals as goal
use Rattle.causes.proofs.notices.add_notices_of_writer.Goals.{then-notice_stores_in+in_ok-push, else-notice_stores_in}

pub loop-interval-init : goal.loop-interval-init
loop-interval-init c = λ j tells before.
    notice_row_from c.args.page c.args.writer c.requires.writer before

pub loop-interval-preserved : goal.loop-interval-preserved
loop-interval-preserved c = λ j tells before.
    let s = judged_sizes_of c.args.gaps.now.sizes in
    let span = c.args.span.now in
    let n = c.args.page in
    let q = c.args.writer in
    let m = c.loop-interval.interval in
    let are = c.loop-interval.invariant j tells before in
    let row = gap_tally_place_of n q in
    elim c.if-notice_stores_in.branch [
      | then-notice_stores_in+in_ok-push w ↦
          (let stored = (w.if-notice_stores_in.ensures j tells).0 refl in
          let apart = ((c.has_notice_of.ensures j tells).0 c.if-not-has_notice_of.false).0 in
          let from = c.loop-interval.auto.interval in
          let below = c.loop-interval-test.true in
          let x : WriteNotice = record { page = n; writer = q; interval = m } in
          subst (λ (v : Vec WriteNotice). NoticesBelow s j span row (m + 1) v.items) (sym w.notices-is)
          (subst (NoticesBelow s j span row (m + 1)) (sym w.in_ok-push.ensures.items)
          (notice_row_next x (record {
            low = c.requires.writer;
            apart = apart;
            from = c.requires.from;
            to = c.requires.to;
            stored = stored;
            least = omega arith;
            below = omega arith;
          }) are)))
      | else-notice_stores_in w ↦
          subst (λ (v : Vec WriteNotice). NoticesBelow s j span row (m + 1) v.items) (sym w.notices-is)
          (notice_row_quiet n q c.requires.writer
          (λ stored. false≢true ((w.if-notice_stores_in.ensures j tells).1 stored)) are)
    ]

pub returns-then-not-has_notice_of : goal.returns-then-not-has_notice_of
returns-then-not-has_notice_of c = λ j tells before.
    notices_row_none c.args.page c.args.writer c.requires.writer (λ has. false≢true (sym c.if-not-has_notice_of.true ∙ (c.has_notice_of.ensures j tells).1 has)) before

pub returns : goal.returns
returns c = λ j tells before.
    let end = c.loop-interval-test.false in
    notices_row_done c.args.page c.args.writer c.requires.writer (omega arith) (c.loop-interval.invariant j tells before)
