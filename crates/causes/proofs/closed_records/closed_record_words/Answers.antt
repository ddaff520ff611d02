use Rattle.std.proofs.Common.{◌+◌, ℕ, subst, sym}
use Rattle.std.specs.Global.{Vec}
use Rattle.causes.specs.ClosedRecords.{AreClosedRecordWordsBelow}
use Rattle.causes.proofs.RecordRows.{record_row_words_next, record_row_words_quiet}
use Rattle.causes.proofs.closed_records.closed_record_words.Goals as goal
use Rattle.causes.proofs.closed_records.closed_record_words.Goals.{in-Some+in_ok-push, in_default}

pub loop-offset-preserved : goal.loop-offset-preserved
loop-offset-preserved c =
    let j = c.args.events.now in
    let q = c.args.by in
    let m = c.args.interval in
    let a = c.args.first in
    let n = c.loop-offset.offset in
    let old = c.loop-offset.words.items in
    let are = c.loop-offset.invariant in
    elim c.match-closed_record_value.branch [
      | in-Some+in_ok-push w ↦
          subst (λ (v : Vec (ℕ × ℕ)). AreClosedRecordWordsBelow j q m a (n + 1) v.items) (sym w.words-is)
          (subst (AreClosedRecordWordsBelow j q m a (n + 1)) (sym w.in_ok-push.ensures.items)
          (record_row_words_next j q m a n w.in-Some.value old w.in-Some.ensures are))
      | in_default w ↦
          subst (λ (v : Vec (ℕ × ℕ)). AreClosedRecordWordsBelow j q m a (n + 1) v.items) (sym w.words-is)
          (record_row_words_quiet j q m a n old (w.in_default.ensures) are)
    ]
