use Rattle.std.proofs.Common.{ℕ, [], ◌∷◌, ◌++◌, Some, Err, subst, sym}
use Rattle.seats.specs.declared.fault.ProcessorFault.{ProcessorFault}
use Rattle.seats.specs.ToldFaults.{IsToldFault, told_fault_then}
use Rattle.seats.proofs.ToldFaults.{told_fault_after_end, told_fault_after_fault}
use Rattle.seats.proofs.fault.told_with.Goals as goal

pub returns-in-Ok : goal.returns-in-Ok
returns-in-Ok g c = λ ends long is. rw c.in-Ok.is (told_fault_after_end ends _ c.args.told is)

pub returns-in-Err : goal.returns-in-Err
returns-in-Err g c = λ ends long is.
    let fault = c.in-Err.fault in
    let P : ProcessorFault → Type 0 = λ told. IsToldFault (ends ++ Err fault ∷ []) (Some told) in
    let Q : ℕ → Type 0 = λ k. IsToldFault (ends ++ Err fault ∷ []) (Some (told_fault_then c.args.told (record { processor = k; fault = fault }))) in
    rw c.in-Err.is (subst P (sym c.told_of_two.ensures) (subst Q long (told_fault_after_fault ends fault c.args.told is)))
