use Rattle.std.proofs.Common.{◌≡◌, ◌∙◌, add-one, ap, length, length-take, Err, refl, subst, take, arith}
use Rattle.std.proofs.Math.Seq.{take-length}
use Rattle.std.proofs.lemmas.Option.{none-some, slice_get_read}
use Rattle.base.proofs.SlicesAndCounts.{slice_take-suc_at}
use Rattle.seats.specs.ToldFaults.{IsToldFault}
use Rattle.seats.proofs.fault.told_fault.Goals as goal

pub loop-processor-init : goal.loop-processor-init
loop-processor-init g c = λ p f came. absurd (none-some (Err f) came)

pub loop-processor-preserved : goal.loop-processor-preserved
loop-processor-preserved g c =
    let xs = c.args.ends.now in
    let k = c.loop-processor.processor in
    let at = slice_get_read xs (length xs) k c.index-ends-processor.result refl c.loop-processor-test.true c.index-ends-processor.is in
    let long : length (take k xs) ≡ k = omega (arith, length-take k xs, c.loop-processor-test.true) in
    rw (add-one, slice_take-suc_at xs k c.index-ends-processor.result at)
    (c.told_with-told.ensures (take k xs) long c.loop-processor.invariant)

pub returns : goal.returns
returns g c =
    let xs = c.args.ends.now in
    let end = c.loop-processor.auto.processor-end in
    let last : c.loop-processor.processor ≡ length xs = omega (arith, c.loop-processor-test.false) in
    let whole = ap (λ n. take n xs) last ∙ take-length xs in
    subst (λ ys. IsToldFault ys c.loop-processor.told) whole c.loop-processor.invariant
