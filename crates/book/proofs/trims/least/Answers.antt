use Rattle.std.proofs.Common.{◌≡◌, ℕ, List, [], length, take, fold, slice_get, slice_index, slice_index_or, min, suc, ◌+◌, ◌<◌, Some, ap, ◌∙◌, sym, arith}
use Rattle.std.proofs.lemmas.Option.{get_or_from_slice_get, slice_get-get_or}
use Rattle.std.proofs.lemmas.List.Sums.{fold_push}
use Rattle.base.proofs.SlicesAndCounts.{slice_take-suc_at}
use Rattle.book.specs.Transitions.{transition_lesser}
use Rattle.book.proofs.trims.least.Goals as goal

-- one more timestamp is looked at
one_more : (times : List (List ℕ)) (q n i entry least : ℕ) (t : List ℕ) → i < length times
    → t ≡ slice_index_or times i t → slice_get t q ≡ Some entry → least ≡ fold (transition_lesser q) n (take i times)
    → min least entry ≡ fold (transition_lesser q) n (take (i + 1) times)
one_more times q n i entry least t lt is at so_far =
    let here = slice_get-get_or times i t lt ∙ ap (λ (x : List ℕ). Some x) (sym is) in
    let front = slice_take-suc_at times i t here in
    let e : i + 1 ≡ suc i = omega arith in
    let one = sym (get_or_from_slice_get t q entry 0 at) in
    ap (λ m. min m entry) so_far ∙ ap (λ m. min (fold (transition_lesser q) n (take i times)) m) one
    ∙ sym (fold_push (transition_lesser q) n (take i times) t)
    ∙ ap (λ (ts : List (List ℕ)). fold (transition_lesser q) n ts) (sym front ∙ ap (λ m. take m times) (sym e))

pub loop-time-preserved : goal.loop-time-preserved
loop-time-preserved c =
    c.min-least.ensures
    ∙ one_more c.args.times.now c.args.q (slice_index (slice_index_or c.args.times.now 0 []) c.args.q)
    c.loop-time.time-index c.entry.result c.loop-time.least c.time-item.result c.loop-time-test.true c.time-item.is
    c.entry.ensures c.loop-time.invariant
