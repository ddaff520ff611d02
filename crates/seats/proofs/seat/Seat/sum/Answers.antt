use Rattle.std.proofs.Common.{rules, ◌≡◌, ◌+◌, ◌<◌, [], ◌∷◌, ◌++◌, get_or, length, suc, ap, take, ◌∙◌, arith, ℕ, List, subst, sym}
use Rattle.std.proofs.lemmas.Grind.{common_steps}
use Rattle.std.proofs.lemmas.Option.{slice_get-get_or}
use Rattle.base.proofs.SlicesAndCounts.{slice_take-suc_at}
use Rattle.seats.proofs.SeatActing.{seat_acting_faulted}
use Rattle.seats.proofs.SummedLoads.{summed_in_part, summed_push}
use Rattle.std.proofs.lemmas.Result.{err_from_is_err_and}
use Rattle.seats.specs.SeatCallFaults.{HasSeatCallFaultIn}
use Rattle.seats.specs.Acting.{loads_at}
use Rattle.seats.proofs.ActingFaults.{acting_fault_sum}
use Rattle.seats.proofs.SeatFaults.{seat_fault_told}
use Rattle.seats.proofs.seat.Seat.sum.Goals as goal

pub returns-in_err-word-clause-err : goal.returns-in_err-word-clause-err
returns-in_err-word-clause-err g c =
    let i = c.loop-address.address-index in
    let less : i < length c.args.addresses.now = first_of (search rules, grind (arith, common_steps)) in
    seat_acting_faulted c.from_residual.result
    (summed_in_part c.args.addresses.now i less c.loop-address.invariant.summed c.in_err-word.ensures.err)

pub loop-address-preserved : goal.loop-address-preserved
loop-address-preserved g c =
    let i = c.loop-address.address-index in
    let all = c.args.addresses.now in
    let less : i < length all = first_of (search rules, grind (arith, common_steps)) in
    let a = get_or all i 0 in
    let more : take (i + 1) all ≡ take i all ++ a ∷ [] =
    ap (λ n. take n all) (let e : i + 1 ≡ suc i = omega arith in e) ∙ slice_take-suc_at all i a (slice_get-get_or all i 0 less) in
    record {
      summed = rw more (summed_push a c.in_ok-word.word c.loop-address.invariant.summed c.in_ok-word.ensures.ok);
      awaits = c.in_ok-word.ensures.ok.inside.awaits_is ∙ c.loop-address.invariant.awaits;
    }

pub returns-in_err-word-clause-fault : goal.returns-in_err-word-clause-fault
returns-in_err-word-clause-fault g c =
    let i = c.loop-address.address-index in
    let less : i < length c.args.addresses.now = first_of (search rules, grind (arith, common_steps)) in
    let told = err_from_is_err_and c.from_residual.result c.from_residual.ensures.1 in
    seat_fault_told _ c.from_residual.result told.0 told.1 (subst (λ f. (words : List ℕ) × (length words ≡ length c.args.addresses.now) × HasSeatCallFaultIn g.S.Sitting.at c.args.self.now c.load.new.self (loads_at c.args.addresses.now words) f) (sym told.2)
    (acting_fault_sum c.args.addresses.now i less c.loop-address.invariant.summed c.in_err-word.ensures.fault))
