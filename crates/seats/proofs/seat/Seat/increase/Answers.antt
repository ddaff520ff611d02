use Rattle.std.proofs.Common.{[], ◌∷◌, refl, ℕ, subst, sym, ◌∙◌, arith}
use Rattle.journal.specs.declared.event.Kind.TheVariants.{Load, Store}
use Rattle.seats.specs.WordTallies.{word_tally_adding}
use Rattle.seats.proofs.SeatActing.{seat_acted_access, seat_acted_adding, seat_acted_nothing, seat_acted_then, seat_acted_added, seat_acting_faulted, seat_acted_in_part_none}
use Rattle.seats.proofs.AddedTallies.{added_tally_by}
use Rattle.std.proofs.lemmas.Result.{err_from_is_err_and}
use Rattle.std.proofs.lemmas.Grind.{common_steps}
use Rattle.seats.specs.SeatCallFaults.{HasSeatCallFaultIn}
use Rattle.seats.proofs.ActingFaults.{acting_fault_first, acting_fault_next, acting_fault_second}
use Rattle.seats.proofs.SeatFaults.{seat_fault_told, seat_fault_no_answer}
use Rattle.seats.proofs.seat.Seat.increase.Goals as goal

pub returns-then-not-may_access-clause-err : goal.returns-then-not-may_access-clause-err
returns-then-not-may_access-clause-err g c = (0, seat_acted_in_part_none _ _ (seat_acted_nothing c.args.self.now))

pub returns-in_err-word-clause-err : goal.returns-in_err-word-clause-err
returns-in_err-word-clause-err g c =
    seat_acting_faulted c.from_residual.result (0, seat_acted_in_part_none _ _ (seat_acted_access [] c.in_err-word.ensures.err refl refl))

pub returns-in_err-store-clause-err : goal.returns-in_err-store-clause-err
returns-in_err-store-clause-err g c =
    let load = Load c.args.address c.in_ok-word.word ∷ [] in
    seat_acting_faulted c.from_residual-in_err-store.result (
      c.in_ok-word.word,
      record {
        done = load;
        next = Store c.args.address _;
        later = [];
        all = refl;
        acted = seat_acted_then load [] (seat_acted_access load c.in_ok-word.ensures.ok refl refl)
            (seat_acted_access [] c.in_err-store.ensures.err refl refl);
      },
    )

pub returns-clause-sum : goal.returns-clause-sum
returns-clause-sum g c l a n was =
    let at = c.args.address in
    let word = c.in_ok-word.word in
    seat_acted_added (word_tally_adding at word c.args.number)
    (seat_acted_adding at word _ c.args.number refl c.in_ok-word.ensures.ok c.in_ok-store.ensures.ok)
    (added_tally_by l a at word c.args.number) was

pub returns-then-not-may_access-clause-fault : goal.returns-then-not-may_access-clause-fault
returns-then-not-may_access-clause-fault g c = (
  0,
  acting_fault_second (Load c.args.address 0) (Store c.args.address _) []
      (refl, sym c.may_access.ensures ∙ c.if-not-may_access.true, refl),
)

pub returns-in_err-word-clause-fault : goal.returns-in_err-word-clause-fault
returns-in_err-word-clause-fault g c =
    let told = err_from_is_err_and c.from_residual.result c.from_residual.ensures.1 in
    seat_fault_told _ c.from_residual.result told.0 told.1 (subst (λ f. (v : ℕ) × HasSeatCallFaultIn g.S.Sitting.at c.args.self.now c.load.new.self (word_tally_adding c.args.address v c.args.number) f) (sym told.2)
    (0, acting_fault_first (Load c.args.address 0) (Store c.args.address _ ∷ []) c.in_err-word.ensures.fault))

pub returns-in_err-store-clause-fault : goal.returns-in_err-store-clause-fault
returns-in_err-store-clause-fault g c =
    let told = err_from_is_err_and c.from_residual-in_err-store.result c.from_residual-in_err-store.ensures.1 in
    seat_fault_told _ c.from_residual-in_err-store.result told.0 told.1 (subst (λ f. (v : ℕ) × HasSeatCallFaultIn g.S.Sitting.at c.args.self.now c.store.new.self (word_tally_adding c.args.address v c.args.number) f) (sym told.2) (
      c.in_ok-word.word,
      acting_fault_next (Load c.args.address c.in_ok-word.word ∷ []) (Store c.args.address _) []
          (seat_acted_access (Load c.args.address c.in_ok-word.word ∷ []) c.in_ok-word.ensures.ok refl refl) c.in_err-store.ensures.fault,
    ))

pub returns-in_err-store-clause-ok : goal.returns-in_err-store-clause-ok
returns-in_err-store-clause-ok g c =
    seat_fault_no_answer _ _ c.from_residual-in_err-store.result c.from_residual-in_err-store.ensures.1

pub returns-in_err-store-clause-sum : goal.returns-in_err-store-clause-sum
returns-in_err-store-clause-sum g c =
    seat_fault_no_answer _ _ c.from_residual-in_err-store.result c.from_residual-in_err-store.ensures.1

pub returns-in_err-word-clause-ok : goal.returns-in_err-word-clause-ok
returns-in_err-word-clause-ok g c = seat_fault_no_answer _ _ c.from_residual.result c.from_residual.ensures.1

pub returns-in_err-word-clause-sum : goal.returns-in_err-word-clause-sum
returns-in_err-word-clause-sum g c = seat_fault_no_answer _ _ c.from_residual.result c.from_residual.ensures.1

pub returns-clause-ok : goal.returns-clause-ok
returns-clause-ok g c = grind (arith, common_steps)
