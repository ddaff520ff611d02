use Rattle.std.proofs.Common.{◌≡◌, ◌<◌, ℕ, slice_index, slice_index_or, vec_len, arith}
use Rattle.std.specs.Global.{Vec}
use Rattle.std.proofs.lemmas.List.{get_or_read}
use Rattle.judge.specs.JudgedSizes.{judged_sizes_of}
use Rattle.judge.proofs.Verdicts.{verdict_departs, verdict_not_arrived}
use Rattle.judge.proofs.frontier.Frontier.not_departed.Goals as goal

-- the count that is read
read : (counts : Vec ℕ) (q x n : ℕ) → vec_len counts ≡ n → q < n → x ≡ slice_index_or counts.items q x → x ≡ slice_index counts.items q
read counts q x n long lt is = get_or_read counts.items q x (omega (arith, long, counts.ok.0, lt)) is 0

pub returns-then-index-departures : goal.returns-then-index-departures
returns-then-index-departures c = λ j tells turn waits lax.
    let front = c.args.self.now in
    let n = front.sizes.processors in
    let p = c.args.processor in
    let s = judged_sizes_of front.sizes in
    let q = c.loop-other.other in
    let below = c.loop-other-test.true in
    let departed = read front.departures p c.index-departures.result.now n tells.long_departures c.requires.processor c.index-departures.ensures in
    let arrived = read front.arrivals q c.index.result.now n tells.long_arrivals below c.index.ensures in
    let few = c.if-index-departures.true in
    let mine = tells.departures p in
    let theirs = tells.arrivals q in
    verdict_not_arrived lax s j p q turn waits below (omega arith)
    (λ r lt. (let past = c.loop-other.invariant r lt in let others = tells.arrivals r in omega arith))

pub returns : goal.returns
returns c = λ j tells turn waits lax.
    let front = c.args.self.now in
    let p = c.args.processor in
    let departed = read front.departures p c.index-departures.result.now front.sizes.processors tells.long_departures c.requires.processor
    c.index-departures.ensures in
    let mine = tells.departures p in
    let over = c.loop-other-test.false in
    verdict_departs lax (judged_sizes_of front.sizes) j p turn waits
    (λ r lt. (let past = c.loop-other.invariant r (omega arith) in let arrived = tells.arrivals r in omega arith))
