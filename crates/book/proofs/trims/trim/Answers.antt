use Rattle.std.proofs.Common.{◌≡◌, ℕ, List, suc, ◌+◌, ◌<◌, ◌≤◌, length, Some, slice_get, slice_index_or, ap, ◌∙◌, sym, arith}
use Rattle.std.proofs.lemmas.Option.{get_or_from_slice_get, slice_get-get_or}
use Rattle.interval.specs.KeptClosings.{KeptClosings, kept_closings_trimmed_below}
use Rattle.book.specs.Transitions.{transition_trimmed_by}
use Rattle.book.specs.AllowedCalls.{AllowsTrimOfCall}
use Rattle.book.proofs.Parts.BookIntervals.{length-transition_trimmed_by}
use Rattle.book.proofs.Parts.TightTrims.{IsSparedByTightTrim, tight_trim_spared}
use Rattle.book.proofs.trims.trim.Goals.{then-has_risen, else-has_risen+else-owner-processor}
use Rattle.book.proofs.trims.trim.Goals as goal

pub trim-requires : goal.trim-requires
trim-requires c =
    let same = ap (λ (x : KeptClosings). length x.first) c.loop-owner.invariant
    ∙ length-transition_trimmed_by c.args.closed.now c.args.times.now c.loop-owner.owner in
    let owners = c.requires.owners in
    omega arith

-- of another owner, whose entry stands as it was, nothing is left to trim
spared : (c : KeptClosings) (times : List (List ℕ)) (p owner one two : ℕ) (before own : List ℕ)
    → AllowsTrimOfCall c times p before → owner < length times → own ≡ slice_index_or times p own
    → slice_get own owner ≡ Some one → slice_get before owner ≡ Some two → one ≤ two → ¬ (owner ≡ p)
    → transition_trimmed_by c times owner ≡ transition_trimmed_by c times (owner + 1)
spared c times p owner one two before own may lt is now old le apart =
    let within = may.within in
    let owners = may.owners in
    let at = slice_get-get_or times p own within ∙ ap (λ (t : List ℕ). Some t) (sym is) in
    let entry = get_or_from_slice_get own owner one 0 now in
    let was = get_or_from_slice_get before owner two 0 old in
    let more : 1 < length times = omega arith in
    let next : suc owner ≡ owner + 1 = omega arith in
    let spares : IsSparedByTightTrim c times owner = record {
      p = p;
      old = before;
      new = own;
      at = at;
      le = omega arith;
      tight = may.tight more;
    } in
    sym (tight_trim_spared spares (omega arith) may.from)
    ∙ ap (λ (m : ℕ). transition_trimmed_by c times m) next

pub loop-owner-preserved : goal.loop-owner-preserved
loop-owner-preserved c =
    let next : suc c.loop-owner.owner ≡ c.loop-owner.owner + 1 = omega arith in
    elim c.if-has_risen.branch [
      | then-has_risen w ↦
          w.closed-is ∙ w.trim.ensures.value
          ∙ ap (λ (x : KeptClosings). kept_closings_trimmed_below x c.loop-owner.owner w.least.result) c.loop-owner.invariant
          ∙ ap (λ (n : ℕ). kept_closings_trimmed_below (transition_trimmed_by c.args.closed.now c.args.times.now c.loop-owner.owner)
          c.loop-owner.owner n) w.least.ensures
          ∙ ap (λ (m : ℕ). transition_trimmed_by c.args.closed.now c.args.times.now m) next
      | else-has_risen+else-owner-processor w ↦ w.closed-is ∙ c.loop-owner.invariant
          ∙ spared c.args.closed.now c.args.times.now c.args.processor c.loop-owner.owner c.entry-in-loop-owner.result
          c.entry.result c.args.before.now c.index-times-processor.result c.requires c.loop-owner-test.true
          c.index-times-processor.is c.entry-in-loop-owner.ensures c.entry.ensures w.if-has_risen.false w.if-owner-processor.false
    ]
