use Rattle.std.proofs.Common.{[], length, ap, ◌∙◌, arith, ℕ, ◌≡◌, ◌⊎◌, List, inl, inr, refl, subst, sym}
use Rattle.std.proofs.lemmas.List.{length_push}
use Rattle.seats.proofs.SeatActing.{seat_acted_nothing, seat_acting_faulted, seat_acted_loads_more, seat_acted_loads_none}
use Rattle.std.proofs.lemmas.Result.{err_from_is_err_and}
use Rattle.seats.specs.SeatCallFaults.{HasSeatCallFaultIn}
use Rattle.book.specs.declared.refused.Refused.TheVariants.{NoMemory}
use Rattle.seats.specs.declared.fault.SeatFault.TheVariants.{Refused}
use Rattle.seats.specs.Acting.{acting_loads_from}
use Rattle.seats.proofs.ActingFaults.{acting_fault_loads}
use Rattle.seats.proofs.SeatFaults.{seat_fault_told, seat_fault_no_answer}
use Rattle.seats.proofs.seat.Seat.words.Goals as goal

pub returns-in_err-words-clause-err : goal.returns-in_err-words-clause-err
returns-in_err-words-clause-err g c = seat_acting_faulted c.from_residual.result ([], seat_acted_nothing c.args.self.now)

pub returns-in_err-word-clause-err : goal.returns-in_err-word-clause-err
returns-in_err-word-clause-err g c =
    let words = c.loop-address.words.items in
    seat_acting_faulted c.from_residual-in_err-word.result
    (words, seat_acted_loads_none c.args.from words c.loop-address.invariant.acted c.in_err-word.ensures.err)

pub loop-address-preserved : goal.loop-address-preserved
loop-address-preserved g c =
    let inv = c.loop-address.invariant in
    let words = c.loop-address.words in
    let pushed = c.push_reserved.ensures in
    let long = inv.long in
    let was = words.ok.0 in
    let new = c.push_reserved.new.self.ok.0 in
    let more = length_push words.items c.in_ok-word.word in
    let both = ap length pushed.items in
    record {
      acted = rw pushed.items (seat_acted_loads_more c.args.from c.loop-address.address c.in_ok-word.word words.items (omega arith) inv.acted
          c.in_ok-word.ensures.ok);
      long = omega arith;
      room = let room = inv.room in let same = pushed.capacity in omega arith;
      awaits = c.in_ok-word.ensures.ok.inside.awaits_is ∙ inv.awaits;
    }

pub returns-in_err-words-clause-fault : goal.returns-in_err-words-clause-fault
returns-in_err-words-clause-fault g c =
    let told = err_from_is_err_and c.from_residual.result c.from_residual.ensures.1 in
    seat_fault_told _ c.from_residual.result told.0 told.1 (inl (told.2, refl))

pub returns-in_err-word-clause-fault : goal.returns-in_err-word-clause-fault
returns-in_err-word-clause-fault g c =
    let told = err_from_is_err_and c.from_residual-in_err-word.result c.from_residual-in_err-word.ensures.1 in
    seat_fault_told _ c.from_residual-in_err-word.result told.0 told.1 (subst (λ f. ((f ≡ Refused NoMemory) × (c.load.new.self ≡ c.args.self.now)) ⊎ ((words : List ℕ) × HasSeatCallFaultIn g.S.Sitting.at c.args.self.now c.load.new.self (acting_loads_from c.args.from words) f)) (sym told.2)
    (inr (acting_fault_loads c.args.from c.loop-address.address c.loop-address.words.items
    (let was = c.loop-address.words.ok.0 in let long = c.loop-address.invariant.long in omega arith)
    c.loop-address.invariant.acted c.in_err-word.ensures.fault)))

pub returns-in_err-word-clause-all : goal.returns-in_err-word-clause-all
returns-in_err-word-clause-all g c =
    seat_fault_no_answer _ _ c.from_residual-in_err-word.result c.from_residual-in_err-word.ensures.1

pub returns-in_err-word-clause-ok : goal.returns-in_err-word-clause-ok
returns-in_err-word-clause-ok g c =
    seat_fault_no_answer _ _ c.from_residual-in_err-word.result c.from_residual-in_err-word.ensures.1

pub returns-in_err-words-clause-all : goal.returns-in_err-words-clause-all
returns-in_err-words-clause-all g c = seat_fault_no_answer _ _ c.from_residual.result c.from_residual.ensures.1

pub returns-in_err-words-clause-ok : goal.returns-in_err-words-clause-ok
returns-in_err-words-clause-ok g c = seat_fault_no_answer _ _ c.from_residual.result c.from_residual.ensures.1
