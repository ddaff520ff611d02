use Rattle.std.proofs.Common.{◌++◌, ℕ, subst, sym}
use Rattle.journal.specs.declared.event.Kind.TheVariants.{Ask}
use Rattle.seats.specs.Acting.{HasActed}
use Rattle.seats.specs.Tenures.{tenure_of_lock}
use Rattle.seats.specs.WordTallies.{word_tally_adding}
use Rattle.std.proofs.lemmas.Result.{err_from_is_err_and}
use Rattle.seats.specs.SeatCallFaults.{HasSeatCallFaultIn}
use Rattle.seats.proofs.ActingFaults.{acting_fault_first, acting_fault_front, acting_fault_held, acting_fault_then, acting_fault_unreleased}
use Rattle.seats.proofs.SeatFaults.{seat_fault_told, seat_fault_no_answer}
use Rattle.seats.proofs.seat.Seat.add_two.Given.{Over}
use Rattle.seats.proofs.SeatActing.{seat_acted_tenure, seat_acted_then, seat_acting_faulted, seat_acted_in_part_asked, seat_acted_in_part_front, seat_acted_in_part_held, seat_acted_in_part_then, seat_acted_in_part_unreleased}
use Rattle.seats.proofs.BalancedTenures.{balanced_tenure_adds_two_in_all, balanced_tenure_of_two}
use Rattle.seats.proofs.seat.Seat.add_two.Goals as goal

pub returns-in_err-lock-clause-err : goal.returns-in_err-lock-clause-err
returns-in_err-lock-clause-err g c =
    seat_acting_faulted c.from_residual.result (
      0,
      0,
      seat_acted_in_part_asked c.args.lock (word_tally_adding c.args.first.0 0 c.args.first.1
          ++ word_tally_adding c.args.second.0 0 c.args.second.1) c.in_err-lock.ensures.err,
    )

pub returns-in_err-increase-clause-err : goal.returns-in_err-increase-clause-err
returns-in_err-increase-clause-err g c =
    let part = c.in_err-increase.ensures.err in
    let rest = word_tally_adding c.args.second.0 0 c.args.second.1 in
    seat_acting_faulted c.from_residual-in_err-increase.result (
      part.0,
      0,
      seat_acted_in_part_held c.args.lock
          (word_tally_adding c.args.first.0 part.0 c.args.first.1 ++ rest) c.in_ok-lock.ensures.ok (seat_acted_in_part_front rest part.1),
    )

pub returns-in_err-increase-2-clause-err : goal.returns-in_err-increase-2-clause-err
returns-in_err-increase-2-clause-err g c =
    let word = c.in_ok-increase.field-0 in
    let first = word_tally_adding c.args.first.0 word c.args.first.1 in
    let part = c.in_err-increase-2.ensures.err in
    seat_acting_faulted c.from_residual-in_err-increase-2.result (
      word,
      part.0,
      seat_acted_in_part_held c.args.lock
          (first ++ word_tally_adding c.args.second.0 part.0 c.args.second.1) c.in_ok-lock.ensures.ok
          (seat_acted_in_part_then first c.in_ok-increase.ensures.ok part.1),
    )

pub returns-in_err-unlock-clause-err : goal.returns-in_err-unlock-clause-err
returns-in_err-unlock-clause-err g c =
    let v = c.in_ok-increase.field-0 in
    let w = c.in_ok-increase-2.field-0 in
    let first = word_tally_adding c.args.first.0 v c.args.first.1 in
    let second = word_tally_adding c.args.second.0 w c.args.second.1 in
    seat_acting_faulted c.from_residual-in_err-unlock.result (
      v,
      w,
      seat_acted_in_part_unreleased c.args.lock (first ++ second) c.in_ok-lock.ensures.ok
          (seat_acted_then first second c.in_ok-increase.ensures.ok c.in_ok-increase-2.ensures.ok) c.in_err-unlock.ensures.err,
    )

-- all of it
whole : (g : Over) (c : goal.In_ok-unlock g) → HasActed c.args.self.now c.unlock.new.self (tenure_of_lock c.args.lock
    (word_tally_adding c.args.first.0 c.in_ok-increase.field-0 c.args.first.1 ++ word_tally_adding c.args.second.0 c.in_ok-increase-2.field-0 c.args.second.1))
whole g c =
    let first = word_tally_adding c.args.first.0 c.in_ok-increase.field-0 c.args.first.1 in
    let second = word_tally_adding c.args.second.0 c.in_ok-increase-2.field-0 c.args.second.1 in
    seat_acted_tenure c.args.lock (first ++ second) c.in_ok-lock.ensures.ok
    (seat_acted_then first second c.in_ok-increase.ensures.ok c.in_ok-increase-2.ensures.ok) c.in_ok-unlock.ensures.ok

pub returns-clause-ok : goal.returns-clause-ok
returns-clause-ok g c = (c.in_ok-increase.field-0, c.in_ok-increase-2.field-0, whole g c)

pub returns-clause-sum : goal.returns-clause-sum
returns-clause-sum g c l a n was =
    balanced_tenure_adds_two_in_all c.args.first.0 c.in_ok-increase.field-0 c.args.first.1 c.args.second.0 c.in_ok-increase-2.field-0 c.args.second.1 a
    c.args.lock (whole g c) was

pub returns-clause-balance : goal.returns-clause-balance
returns-clause-balance g c left right keeps was =
    balanced_tenure_of_two c.args.first.0 c.in_ok-increase.field-0 c.args.first.1 c.args.second.0 c.in_ok-increase-2.field-0 c.args.second.1
    c.args.lock (whole g c) keeps was

pub returns-clause-outside : goal.returns-clause-outside
returns-clause-outside g c e due =
    let refused = (c.in_ok-lock.ensures.outside e due).0 in
    absurd (cc)

pub returns-in_err-lock-clause-fault : goal.returns-in_err-lock-clause-fault
returns-in_err-lock-clause-fault g c =
    let told = err_from_is_err_and c.from_residual.result c.from_residual.ensures.1 in
    seat_fault_told _ c.from_residual.result told.0 told.1 (subst (λ f. (v w : ℕ) × HasSeatCallFaultIn g.S.Sitting.at c.args.self.now c.lock.new.self (tenure_of_lock c.args.lock (word_tally_adding c.args.first.0 v c.args.first.1 ++ word_tally_adding c.args.second.0 w c.args.second.1)) f) (sym told.2)
    (0, 0, acting_fault_first (Ask c.args.lock) _ c.in_err-lock.ensures.fault))

pub returns-in_err-increase-clause-fault : goal.returns-in_err-increase-clause-fault
returns-in_err-increase-clause-fault g c =
    let told = err_from_is_err_and c.from_residual-in_err-increase.result c.from_residual-in_err-increase.ensures.1 in
    seat_fault_told _ c.from_residual-in_err-increase.result told.0 told.1 (subst (λ f. (v w : ℕ) × HasSeatCallFaultIn g.S.Sitting.at c.args.self.now c.increase.new.self (tenure_of_lock c.args.lock (word_tally_adding c.args.first.0 v c.args.first.1 ++ word_tally_adding c.args.second.0 w c.args.second.1)) f) (sym told.2) (
      c.in_err-increase.ensures.fault.0,
      0,
      acting_fault_held c.args.lock _ c.in_ok-lock.ensures.ok
          (acting_fault_front (word_tally_adding c.args.second.0 0 c.args.second.1) c.in_err-increase.ensures.fault.1),
    ))

pub returns-in_err-increase-2-clause-fault : goal.returns-in_err-increase-2-clause-fault
returns-in_err-increase-2-clause-fault g c =
    let told = err_from_is_err_and c.from_residual-in_err-increase-2.result c.from_residual-in_err-increase-2.ensures.1 in
    seat_fault_told _ c.from_residual-in_err-increase-2.result told.0 told.1 (subst (λ f. (v w : ℕ) × HasSeatCallFaultIn g.S.Sitting.at c.args.self.now c.increase-2.new.self (tenure_of_lock c.args.lock (word_tally_adding c.args.first.0 v c.args.first.1 ++ word_tally_adding c.args.second.0 w c.args.second.1)) f) (sym told.2) (
      c.in_ok-increase.field-0,
      c.in_err-increase-2.ensures.fault.0,
      acting_fault_held c.args.lock _ c.in_ok-lock.ensures.ok
          (acting_fault_then (word_tally_adding c.args.first.0 c.in_ok-increase.field-0 c.args.first.1) c.in_ok-increase.ensures.ok
          c.in_err-increase-2.ensures.fault.1),
    ))

pub returns-in_err-unlock-clause-fault : goal.returns-in_err-unlock-clause-fault
returns-in_err-unlock-clause-fault g c =
    let told = err_from_is_err_and c.from_residual-in_err-unlock.result c.from_residual-in_err-unlock.ensures.1 in
    seat_fault_told _ c.from_residual-in_err-unlock.result told.0 told.1 (subst (λ f. (v w : ℕ) × HasSeatCallFaultIn g.S.Sitting.at c.args.self.now c.unlock.new.self (tenure_of_lock c.args.lock (word_tally_adding c.args.first.0 v c.args.first.1 ++ word_tally_adding c.args.second.0 w c.args.second.1)) f) (sym told.2) (
      c.in_ok-increase.field-0,
      c.in_ok-increase-2.field-0,
      acting_fault_unreleased c.args.lock _ c.in_ok-lock.ensures.ok
          (seat_acted_then (word_tally_adding c.args.first.0 c.in_ok-increase.field-0 c.args.first.1)
          (word_tally_adding c.args.second.0 c.in_ok-increase-2.field-0 c.args.second.1) c.in_ok-increase.ensures.ok c.in_ok-increase-2.ensures.ok)
          c.in_err-unlock.ensures.fault,
    ))

pub returns-in_err-increase-2-clause-balance : goal.returns-in_err-increase-2-clause-balance
returns-in_err-increase-2-clause-balance g c =
    seat_fault_no_answer _ _ c.from_residual-in_err-increase-2.result c.from_residual-in_err-increase-2.ensures.1

pub returns-in_err-increase-2-clause-idle : goal.returns-in_err-increase-2-clause-idle
returns-in_err-increase-2-clause-idle g c =
    seat_fault_no_answer _ _ c.from_residual-in_err-increase-2.result c.from_residual-in_err-increase-2.ensures.1

pub returns-in_err-increase-2-clause-ok : goal.returns-in_err-increase-2-clause-ok
returns-in_err-increase-2-clause-ok g c =
    seat_fault_no_answer _ _ c.from_residual-in_err-increase-2.result c.from_residual-in_err-increase-2.ensures.1

pub returns-in_err-increase-2-clause-sum : goal.returns-in_err-increase-2-clause-sum
returns-in_err-increase-2-clause-sum g c =
    seat_fault_no_answer _ _ c.from_residual-in_err-increase-2.result c.from_residual-in_err-increase-2.ensures.1

pub returns-in_err-increase-clause-balance : goal.returns-in_err-increase-clause-balance
returns-in_err-increase-clause-balance g c =
    seat_fault_no_answer _ _ c.from_residual-in_err-increase.result c.from_residual-in_err-increase.ensures.1

pub returns-in_err-increase-clause-idle : goal.returns-in_err-increase-clause-idle
returns-in_err-increase-clause-idle g c =
    seat_fault_no_answer _ _ c.from_residual-in_err-increase.result c.from_residual-in_err-increase.ensures.1

pub returns-in_err-increase-clause-ok : goal.returns-in_err-increase-clause-ok
returns-in_err-increase-clause-ok g c =
    seat_fault_no_answer _ _ c.from_residual-in_err-increase.result c.from_residual-in_err-increase.ensures.1

pub returns-in_err-increase-clause-sum : goal.returns-in_err-increase-clause-sum
returns-in_err-increase-clause-sum g c =
    seat_fault_no_answer _ _ c.from_residual-in_err-increase.result c.from_residual-in_err-increase.ensures.1

pub returns-in_err-lock-clause-balance : goal.returns-in_err-lock-clause-balance
returns-in_err-lock-clause-balance g c = seat_fault_no_answer _ _ c.from_residual.result c.from_residual.ensures.1

pub returns-in_err-lock-clause-idle : goal.returns-in_err-lock-clause-idle
returns-in_err-lock-clause-idle g c = seat_fault_no_answer _ _ c.from_residual.result c.from_residual.ensures.1

pub returns-in_err-lock-clause-ok : goal.returns-in_err-lock-clause-ok
returns-in_err-lock-clause-ok g c = seat_fault_no_answer _ _ c.from_residual.result c.from_residual.ensures.1

pub returns-in_err-lock-clause-sum : goal.returns-in_err-lock-clause-sum
returns-in_err-lock-clause-sum g c = seat_fault_no_answer _ _ c.from_residual.result c.from_residual.ensures.1

pub returns-in_err-unlock-clause-balance : goal.returns-in_err-unlock-clause-balance
returns-in_err-unlock-clause-balance g c =
    seat_fault_no_answer _ _ c.from_residual-in_err-unlock.result c.from_residual-in_err-unlock.ensures.1

pub returns-in_err-unlock-clause-idle : goal.returns-in_err-unlock-clause-idle
returns-in_err-unlock-clause-idle g c =
    seat_fault_no_answer _ _ c.from_residual-in_err-unlock.result c.from_residual-in_err-unlock.ensures.1

pub returns-in_err-unlock-clause-ok : goal.returns-in_err-unlock-clause-ok
returns-in_err-unlock-clause-ok g c =
    seat_fault_no_answer _ _ c.from_residual-in_err-unlock.result c.from_residual-in_err-unlock.ensures.1

pub returns-in_err-unlock-clause-sum : goal.returns-in_err-unlock-clause-sum
returns-in_err-unlock-clause-sum g c =
    seat_fault_no_answer _ _ c.from_residual-in_err-unlock.result c.from_residual-in_err-unlock.ensures.1
