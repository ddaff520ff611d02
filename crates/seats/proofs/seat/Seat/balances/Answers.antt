use Rattle.std.proofs.Common.{◌++◌, ◌==◌, refl, ℕ, ◌≡◌, List, length, subst, sym}
use Rattle.journal.specs.declared.event.Kind.TheVariants.{Ask}
use Rattle.seats.specs.Acting.{loads_at}
use Rattle.seats.specs.BalanceFacts.{HasWeighed}
use Rattle.std.proofs.lemmas.Result.{err_from_is_err_and}
use Rattle.seats.specs.SeatCallFaults.{HasSeatCallFaultIn}
use Rattle.seats.specs.Tenures.{tenure_of_lock}
use Rattle.seats.proofs.ActingFaults.{acting_fault_first, acting_fault_front, acting_fault_held, acting_fault_then, acting_fault_unreleased}
use Rattle.seats.proofs.SeatFaults.{seat_fault_told, seat_fault_no_answer}
use Rattle.seats.proofs.seat.Seat.balances.Given.{Over}
use Rattle.seats.proofs.SeatActing.{seat_acted_tenure, seat_acted_then, seat_acting_faulted, seat_acted_in_part_asked, seat_acted_in_part_front, seat_acted_in_part_held, seat_acted_in_part_then, seat_acted_in_part_unreleased}
use Rattle.seats.proofs.WeighedSides.{weighed_adds_nothing, weighed_found_kept}
use Rattle.seats.proofs.seat.Seat.balances.Goals as goal

pub returns-in_err-lock-clause-err : goal.returns-in_err-lock-clause-err
returns-in_err-lock-clause-err g c =
    let loads = loads_at c.args.left.now c.args.left.now ++ loads_at c.args.right.now c.args.right.now in
    seat_acting_faulted c.from_residual.result
    (c.args.left.now, c.args.right.now, refl, refl, seat_acted_in_part_asked c.args.lock loads c.in_err-lock.ensures.err)

pub returns-in_err-lefts-clause-err : goal.returns-in_err-lefts-clause-err
returns-in_err-lefts-clause-err g c =
    let part = c.in_err-lefts.ensures.err in
    let rest = loads_at c.args.right.now c.args.right.now in
    seat_acting_faulted c.from_residual-in_err-lefts.result (
      part.0,
      c.args.right.now,
      part.1,
      refl,
      seat_acted_in_part_held c.args.lock (loads_at c.args.left.now part.0 ++ rest) c.in_ok-lock.ensures.ok (seat_acted_in_part_front rest part.2),
    )

pub returns-in_err-rights-clause-err : goal.returns-in_err-rights-clause-err
returns-in_err-rights-clause-err g c =
    let lefts = c.in_ok-lefts.ensures.ok in
    let part = c.in_err-rights.ensures.err in
    let first = loads_at c.args.left.now lefts.words in
    seat_acting_faulted c.from_residual-in_err-rights.result (
      lefts.words,
      part.0,
      lefts.long,
      part.1,
      seat_acted_in_part_held c.args.lock (first ++ loads_at c.args.right.now part.0) c.in_ok-lock.ensures.ok
          (seat_acted_in_part_then first lefts.acted part.2),
    )

pub returns-in_err-unlock-clause-err : goal.returns-in_err-unlock-clause-err
returns-in_err-unlock-clause-err g c =
    let lefts = c.in_ok-lefts.ensures.ok in
    let rights = c.in_ok-rights.ensures.ok in
    let first = loads_at c.args.left.now lefts.words in
    let second = loads_at c.args.right.now rights.words in
    seat_acting_faulted c.from_residual-in_err-unlock.result (
      lefts.words,
      rights.words,
      lefts.long,
      rights.long,
      seat_acted_in_part_unreleased c.args.lock (first ++ second) c.in_ok-lock.ensures.ok (seat_acted_then first second lefts.acted rights.acted)
          c.in_err-unlock.ensures.err,
    )

-- all of it
weighed : (g : Over) (c : goal.In_ok-unlock g) → HasWeighed c.args.lock c.args.left.now c.args.right.now c.args.self.now c.unlock.new.self
    (c.in_ok-lefts.lefts == c.in_ok-rights.rights)
weighed g c =
    let lefts = c.in_ok-lefts.ensures.ok in
    let rights = c.in_ok-rights.ensures.ok in
    let first = loads_at c.args.left.now lefts.words in
    let second = loads_at c.args.right.now rights.words in
    record {
      lefts = lefts.words;
      rights = rights.words;
      left_long = lefts.long;
      right_long = rights.long;
      acted = seat_acted_tenure c.args.lock (first ++ second) c.in_ok-lock.ensures.ok (seat_acted_then first second lefts.acted rights.acted)
          c.in_ok-unlock.ensures.ok;
      even_is = rw (lefts.sum, rights.sum) refl;
    }

pub returns-clause-ok : goal.returns-clause-ok
returns-clause-ok g c = weighed g c

pub returns-clause-sum : goal.returns-clause-sum
returns-clause-sum g c l a n was = weighed_adds_nothing (weighed g c) was

pub returns-clause-balance : goal.returns-clause-balance
returns-clause-balance g c was = weighed_found_kept (weighed g c) was

pub returns-in_err-lock-clause-fault : goal.returns-in_err-lock-clause-fault
returns-in_err-lock-clause-fault g c =
    let told = err_from_is_err_and c.from_residual.result c.from_residual.ensures.1 in
    seat_fault_told _ c.from_residual.result told.0 told.1 (subst (λ f. (lefts rights : List ℕ) × (length lefts ≡ length c.args.left.now) × (length rights ≡ length c.args.right.now) × HasSeatCallFaultIn g.S.Sitting.at c.args.self.now c.lock.new.self (tenure_of_lock c.args.lock (loads_at c.args.left.now lefts ++ loads_at c.args.right.now rights)) f) (sym told.2)
    (c.args.left.now, c.args.right.now, refl, refl, acting_fault_first (Ask c.args.lock) _ c.in_err-lock.ensures.fault))

pub returns-in_err-lefts-clause-fault : goal.returns-in_err-lefts-clause-fault
returns-in_err-lefts-clause-fault g c =
    let told = err_from_is_err_and c.from_residual-in_err-lefts.result c.from_residual-in_err-lefts.ensures.1 in
    seat_fault_told _ c.from_residual-in_err-lefts.result told.0 told.1 (subst (λ f. (lefts rights : List ℕ) × (length lefts ≡ length c.args.left.now) × (length rights ≡ length c.args.right.now) × HasSeatCallFaultIn g.S.Sitting.at c.args.self.now c.sum.new.self (tenure_of_lock c.args.lock (loads_at c.args.left.now lefts ++ loads_at c.args.right.now rights)) f) (sym told.2) (
      c.in_err-lefts.ensures.fault.0,
      c.args.right.now,
      c.in_err-lefts.ensures.fault.1,
      refl,
      acting_fault_held c.args.lock _ c.in_ok-lock.ensures.ok
          (acting_fault_front (loads_at c.args.right.now c.args.right.now) c.in_err-lefts.ensures.fault.2),
    ))

pub returns-in_err-rights-clause-fault : goal.returns-in_err-rights-clause-fault
returns-in_err-rights-clause-fault g c =
    let told = err_from_is_err_and c.from_residual-in_err-rights.result c.from_residual-in_err-rights.ensures.1 in
    seat_fault_told _ c.from_residual-in_err-rights.result told.0 told.1 (subst (λ f. (lefts rights : List ℕ) × (length lefts ≡ length c.args.left.now) × (length rights ≡ length c.args.right.now) × HasSeatCallFaultIn g.S.Sitting.at c.args.self.now c.sum-2.new.self (tenure_of_lock c.args.lock (loads_at c.args.left.now lefts ++ loads_at c.args.right.now rights)) f) (sym told.2) (
      c.in_ok-lefts.ensures.ok.words,
      c.in_err-rights.ensures.fault.0,
      c.in_ok-lefts.ensures.ok.long,
      c.in_err-rights.ensures.fault.1,
      acting_fault_held c.args.lock _ c.in_ok-lock.ensures.ok
          (acting_fault_then (loads_at c.args.left.now c.in_ok-lefts.ensures.ok.words) c.in_ok-lefts.ensures.ok.acted c.in_err-rights.ensures.fault.2),
    ))

pub returns-in_err-unlock-clause-fault : goal.returns-in_err-unlock-clause-fault
returns-in_err-unlock-clause-fault g c =
    let told = err_from_is_err_and c.from_residual-in_err-unlock.result c.from_residual-in_err-unlock.ensures.1 in
    seat_fault_told _ c.from_residual-in_err-unlock.result told.0 told.1 (subst (λ f. (lefts rights : List ℕ) × (length lefts ≡ length c.args.left.now) × (length rights ≡ length c.args.right.now) × HasSeatCallFaultIn g.S.Sitting.at c.args.self.now c.unlock.new.self (tenure_of_lock c.args.lock (loads_at c.args.left.now lefts ++ loads_at c.args.right.now rights)) f) (sym told.2) (
      c.in_ok-lefts.ensures.ok.words,
      c.in_ok-rights.ensures.ok.words,
      c.in_ok-lefts.ensures.ok.long,
      c.in_ok-rights.ensures.ok.long,
      acting_fault_unreleased c.args.lock _ c.in_ok-lock.ensures.ok
          (seat_acted_then (loads_at c.args.left.now c.in_ok-lefts.ensures.ok.words) (loads_at c.args.right.now c.in_ok-rights.ensures.ok.words)
          c.in_ok-lefts.ensures.ok.acted c.in_ok-rights.ensures.ok.acted) c.in_err-unlock.ensures.fault,
    ))

pub returns-in_err-lefts-clause-balance : goal.returns-in_err-lefts-clause-balance
returns-in_err-lefts-clause-balance g c =
    seat_fault_no_answer _ _ c.from_residual-in_err-lefts.result c.from_residual-in_err-lefts.ensures.1

pub returns-in_err-lefts-clause-idle : goal.returns-in_err-lefts-clause-idle
returns-in_err-lefts-clause-idle g c =
    seat_fault_no_answer _ _ c.from_residual-in_err-lefts.result c.from_residual-in_err-lefts.ensures.1

pub returns-in_err-lefts-clause-ok : goal.returns-in_err-lefts-clause-ok
returns-in_err-lefts-clause-ok g c =
    seat_fault_no_answer _ _ c.from_residual-in_err-lefts.result c.from_residual-in_err-lefts.ensures.1

pub returns-in_err-lefts-clause-sum : goal.returns-in_err-lefts-clause-sum
returns-in_err-lefts-clause-sum g c =
    seat_fault_no_answer _ _ c.from_residual-in_err-lefts.result c.from_residual-in_err-lefts.ensures.1

pub returns-in_err-lock-clause-balance : goal.returns-in_err-lock-clause-balance
returns-in_err-lock-clause-balance g c = seat_fault_no_answer _ _ c.from_residual.result c.from_residual.ensures.1

pub returns-in_err-lock-clause-idle : goal.returns-in_err-lock-clause-idle
returns-in_err-lock-clause-idle g c = seat_fault_no_answer _ _ c.from_residual.result c.from_residual.ensures.1

pub returns-in_err-lock-clause-ok : goal.returns-in_err-lock-clause-ok
returns-in_err-lock-clause-ok g c = seat_fault_no_answer _ _ c.from_residual.result c.from_residual.ensures.1

pub returns-in_err-lock-clause-sum : goal.returns-in_err-lock-clause-sum
returns-in_err-lock-clause-sum g c = seat_fault_no_answer _ _ c.from_residual.result c.from_residual.ensures.1

pub returns-in_err-rights-clause-balance : goal.returns-in_err-rights-clause-balance
returns-in_err-rights-clause-balance g c =
    seat_fault_no_answer _ _ c.from_residual-in_err-rights.result c.from_residual-in_err-rights.ensures.1

pub returns-in_err-rights-clause-idle : goal.returns-in_err-rights-clause-idle
returns-in_err-rights-clause-idle g c =
    seat_fault_no_answer _ _ c.from_residual-in_err-rights.result c.from_residual-in_err-rights.ensures.1

pub returns-in_err-rights-clause-ok : goal.returns-in_err-rights-clause-ok
returns-in_err-rights-clause-ok g c =
    seat_fault_no_answer _ _ c.from_residual-in_err-rights.result c.from_residual-in_err-rights.ensures.1

pub returns-in_err-rights-clause-sum : goal.returns-in_err-rights-clause-sum
returns-in_err-rights-clause-sum g c =
    seat_fault_no_answer _ _ c.from_residual-in_err-rights.result c.from_residual-in_err-rights.ensures.1

pub returns-in_err-unlock-clause-balance : goal.returns-in_err-unlock-clause-balance
returns-in_err-unlock-clause-balance g c =
    seat_fault_no_answer _ _ c.from_residual-in_err-unlock.result c.from_residual-in_err-unlock.ensures.1

pub returns-in_err-unlock-clause-idle : goal.returns-in_err-unlock-clause-idle
returns-in_err-unlock-clause-idle g c =
    seat_fault_no_answer _ _ c.from_residual-in_err-unlock.result c.from_residual-in_err-unlock.ensures.1

pub returns-in_err-unlock-clause-ok : goal.returns-in_err-unlock-clause-ok
returns-in_err-unlock-clause-ok g c =
    seat_fault_no_answer _ _ c.from_residual-in_err-unlock.result c.from_residual-in_err-unlock.ensures.1

pub returns-in_err-unlock-clause-sum : goal.returns-in_err-unlock-clause-sum
returns-in_err-unlock-clause-sum g c =
    seat_fault_no_answer _ _ c.from_residual-in_err-unlock.result c.from_residual-in_err-unlock.ensures.1
