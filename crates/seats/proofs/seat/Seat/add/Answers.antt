use Rattle.std.proofs.Common.{ℕ, subst, sym, arith}
use Rattle.journal.specs.declared.event.Kind.TheVariants.{Ask}
use Rattle.seats.specs.Tenures.{tenure_of_lock}
use Rattle.seats.specs.WordTallies.{word_tally_adding}
use Rattle.seats.proofs.SeatActing.{seat_acted_tenure, seat_acted_added, seat_acting_faulted, seat_acted_in_part_asked, seat_acted_in_part_held, seat_acted_in_part_unreleased}
use Rattle.seats.proofs.AddedTallies.{added_tally_by_tenure}
use Rattle.std.proofs.lemmas.Result.{err_from_is_err_and}
use Rattle.std.proofs.lemmas.Grind.{common_steps}
use Rattle.seats.specs.SeatCallFaults.{HasSeatCallFaultIn}
use Rattle.seats.proofs.ActingFaults.{acting_fault_first, acting_fault_held, acting_fault_unreleased}
use Rattle.seats.proofs.SeatFaults.{seat_fault_told, seat_fault_no_answer}
use Rattle.seats.proofs.seat.Seat.add.Goals as goal

pub returns-in_err-lock-clause-err : goal.returns-in_err-lock-clause-err
returns-in_err-lock-clause-err g c =
    seat_acting_faulted c.from_residual.result
    (0, seat_acted_in_part_asked c.args.lock (word_tally_adding c.args.address 0 c.args.number) c.in_err-lock.ensures.err)

pub returns-in_err-word-clause-err : goal.returns-in_err-word-clause-err
returns-in_err-word-clause-err g c =
    let part = c.in_err-word.ensures.err in
    seat_acting_faulted c.from_residual-in_err-word.result
    (part.0, seat_acted_in_part_held c.args.lock (word_tally_adding c.args.address part.0 c.args.number) c.in_ok-lock.ensures.ok part.1)

pub returns-in_err-unlock-clause-err : goal.returns-in_err-unlock-clause-err
returns-in_err-unlock-clause-err g c =
    let word = c.in_ok-word.word in
    seat_acting_faulted c.from_residual-in_err-unlock.result (
      word,
      seat_acted_in_part_unreleased c.args.lock (word_tally_adding c.args.address word c.args.number)
          c.in_ok-lock.ensures.ok c.in_ok-word.ensures.ok c.in_err-unlock.ensures.err,
    )

pub returns-clause-sum : goal.returns-clause-sum
returns-clause-sum g c l a n was =
    let deeds = word_tally_adding c.args.address c.in_ok-word.word c.args.number in
    seat_acted_added (tenure_of_lock c.args.lock deeds)
    (seat_acted_tenure c.args.lock deeds c.in_ok-lock.ensures.ok c.in_ok-word.ensures.ok c.in_ok-unlock.ensures.ok)
    (added_tally_by_tenure l a c.args.lock c.args.address c.in_ok-word.word c.args.number) was

pub returns-in_err-lock-clause-fault : goal.returns-in_err-lock-clause-fault
returns-in_err-lock-clause-fault g c =
    let told = err_from_is_err_and c.from_residual.result c.from_residual.ensures.1 in
    seat_fault_told _ c.from_residual.result told.0 told.1 (subst (λ f. (v : ℕ) × HasSeatCallFaultIn g.S.Sitting.at c.args.self.now c.lock.new.self (tenure_of_lock c.args.lock (word_tally_adding c.args.address v c.args.number)) f) (sym told.2)
    (0, acting_fault_first (Ask c.args.lock) _ c.in_err-lock.ensures.fault))

pub returns-in_err-word-clause-fault : goal.returns-in_err-word-clause-fault
returns-in_err-word-clause-fault g c =
    let told = err_from_is_err_and c.from_residual-in_err-word.result c.from_residual-in_err-word.ensures.1 in
    seat_fault_told _ c.from_residual-in_err-word.result told.0 told.1 (subst (λ f. (v : ℕ) × HasSeatCallFaultIn g.S.Sitting.at c.args.self.now c.increase.new.self (tenure_of_lock c.args.lock (word_tally_adding c.args.address v c.args.number)) f) (sym told.2) (
      c.in_err-word.ensures.fault.0,
      acting_fault_held c.args.lock (word_tally_adding c.args.address c.in_err-word.ensures.fault.0 c.args.number) c.in_ok-lock.ensures.ok
          c.in_err-word.ensures.fault.1,
    ))

pub returns-in_err-unlock-clause-fault : goal.returns-in_err-unlock-clause-fault
returns-in_err-unlock-clause-fault g c =
    let told = err_from_is_err_and c.from_residual-in_err-unlock.result c.from_residual-in_err-unlock.ensures.1 in
    seat_fault_told _ c.from_residual-in_err-unlock.result told.0 told.1 (subst (λ f. (v : ℕ) × HasSeatCallFaultIn g.S.Sitting.at c.args.self.now c.unlock.new.self (tenure_of_lock c.args.lock (word_tally_adding c.args.address v c.args.number)) f) (sym told.2) (
      c.in_ok-word.word,
      acting_fault_unreleased c.args.lock (word_tally_adding c.args.address c.in_ok-word.word c.args.number) c.in_ok-lock.ensures.ok
          c.in_ok-word.ensures.ok c.in_err-unlock.ensures.fault,
    ))

pub returns-in_err-lock-clause-idle : goal.returns-in_err-lock-clause-idle
returns-in_err-lock-clause-idle g c = seat_fault_no_answer _ _ c.from_residual.result c.from_residual.ensures.1

pub returns-in_err-lock-clause-ok : goal.returns-in_err-lock-clause-ok
returns-in_err-lock-clause-ok g c = seat_fault_no_answer _ _ c.from_residual.result c.from_residual.ensures.1

pub returns-in_err-lock-clause-sum : goal.returns-in_err-lock-clause-sum
returns-in_err-lock-clause-sum g c = seat_fault_no_answer _ _ c.from_residual.result c.from_residual.ensures.1

pub returns-in_err-unlock-clause-idle : goal.returns-in_err-unlock-clause-idle
returns-in_err-unlock-clause-idle g c =
    seat_fault_no_answer _ _ c.from_residual-in_err-unlock.result c.from_residual-in_err-unlock.ensures.1

pub returns-in_err-unlock-clause-ok : goal.returns-in_err-unlock-clause-ok
returns-in_err-unlock-clause-ok g c =
    seat_fault_no_answer _ _ c.from_residual-in_err-unlock.result c.from_residual-in_err-unlock.ensures.1

pub returns-in_err-unlock-clause-sum : goal.returns-in_err-unlock-clause-sum
returns-in_err-unlock-clause-sum g c =
    seat_fault_no_answer _ _ c.from_residual-in_err-unlock.result c.from_residual-in_err-unlock.ensures.1

pub returns-in_err-word-clause-idle : goal.returns-in_err-word-clause-idle
returns-in_err-word-clause-idle g c =
    seat_fault_no_answer _ _ c.from_residual-in_err-word.result c.from_residual-in_err-word.ensures.1

pub returns-in_err-word-clause-ok : goal.returns-in_err-word-clause-ok
returns-in_err-word-clause-ok g c =
    seat_fault_no_answer _ _ c.from_residual-in_err-word.result c.from_residual-in_err-word.ensures.1

pub returns-in_err-word-clause-sum : goal.returns-in_err-word-clause-sum
returns-in_err-word-clause-sum g c =
    seat_fault_no_answer _ _ c.from_residual-in_err-word.result c.from_residual-in_err-word.ensures.1

pub returns-clause-ok : goal.returns-clause-ok
returns-clause-ok g c = grind (arith, common_steps)
