-- What the faults of a seat's calls tell.
use Rattle.std.proofs.Common.{ℕ, Bool, true, false, ◌≡◌, ◌≢◌, ◌+◌, ◌⊎◌, inl, inr, Option, Some, None, Result, Ok, Err, OnErr, List, IfOk, IsErrAnd, cond, length, refl, sym, ap, subst, ◌∙◌}
use Rattle.std.specs.Prelude.{IfErr, nat_le}
use Rattle.std.specs.Result.{result_err}
use Rattle.std.proofs.lemmas.Option.{same_Some}
use Rattle.base.specs.Limits.{most_in_block}
use Rattle.journal.specs.declared.event.Event.{Event}
use Rattle.journal.specs.declared.event.Kind.{Kind}
use Rattle.book.specs.declared.refused.Refused.{Refused}
use Rattle.book.specs.declared.refused.Refused.TheVariants.{NoMemory, NotYet, SeatSpent}
use Rattle.cluster.specs.Copies.Local.{Local}
use Rattle.cluster.specs.ProcessorCalls.{IsProcessorCall, ProcessorCallWaitsForNothing}
use Rattle.cluster.specs.ClosingCalls.{IsClosingCall}
use Rattle.cluster.specs.ProcessorRefusals.{processor_refusal_is_spent, processor_refusal_of_flush, processor_refusal_of_take, processor_refusal_or_spent}
use Rattle.cluster.specs.ReadyAccess.{IsFullBlockHanded, IsReadyAccess}
use Rattle.cluster.specs.TakingCalls.{IsTakingCall}
use Rattle.cluster.specs.WaitingCalls.{IsWaitingCall}
use Rattle.cluster.specs.declared.waited.Waited.{Waited}
use Rattle.cluster.specs.declared.waited.Waited.TheVariants.{MayHaveCome, Stuck, Deserted}
use Rattle.cluster.specs.declared.cluster.accessing.WordAccess.{WordAccess}
use Rattle.seats.specs.declared.fault.SeatFault.{SeatFault}
use Rattle.seats.specs.SeatCalls.{IsSeatCallBegun, IsSeatCallUndone}
use Rattle.seats.specs.SeatCallFaults.{IsSeatCallAccessRefusal, IsSeatCallEnteringFault, IsSeatCallFault, IsSeatCallFlushFault, IsSeatCallWaitFault, IsSeatCallWaitTold}
use Rattle.seats.proofs.SeatAccess.{seat_access_undone_refused}

-- a call that faults has no answer, and so all that is said of its answer holds
pub seat_fault_no_answer : {A E : Type 0} (P : A → Type 0) (Q : E → Type 0) (r : Result A E) → IsErrAnd r Q → IfOk r P
seat_fault_no_answer P Q (Ok x) told = absurd told
seat_fault_no_answer P Q (Err e) told = tt

-- a flush is refused at once if the entries are spent alone
pub seat_fault_spent : (m : Local) (e : Refused) → processor_refusal_of_flush m ≡ Some e → (e ≡ SeatSpent) × (processor_refusal_is_spent m ≡ true)
seat_fault_spent m e due = by (processor_refusal_is_spent m) refl due
  where
    by : (b : Bool) → processor_refusal_is_spent m ≡ b → cond b (Some SeatSpent) None ≡ Some e → (e ≡ SeatSpent) × (processor_refusal_is_spent m ≡ true)
    by true is some = (sym (same_Some SeatSpent e some), is)
    by false is some = absurd (cc)

-- and that can't be made of any call
pub seat_fault_spent_entering : (many : ℕ) (m n : Local) (e : Refused) → processor_refusal_of_flush m ≡ Some e → n ≡ m → IsSeatCallEnteringFault many n e
seat_fault_spent_entering many m n e due same =
    let spent = seat_fault_spent m e due in
    subst (λ x. IsSeatCallEnteringFault many n x) (sym spent.0) (ap processor_refusal_is_spent same ∙ spent.1)

-- a call that entered, or couldn't, and didn't come too early
pub seat_fault_entering : {first : Option Refused} {many : ℕ} {absent : Local → Type 0} {done : Local → Local → Type 0} {added : List Event}
    (m n : Local) (e : Refused) → IsProcessorCall first many absent done added m n (Some e) → first ≡ None → e ≢ NotYet
    → IsSeatCallEnteringFault many n e
seat_fault_entering {many = many} m n e call none late = elim (call.err e none refl) [
  | inl inside ↦ elim inside.why [
    | inl early ↦ absurd (late early)
    | inr other ↦ elim other [
      | inl full ↦ subst (λ x. IsSeatCallEnteringFault many n x) (sym full) ((inside.full (λ gone. late (inside.not_yet.1 gone))).0 full)
      | inr memory ↦ subst (λ x. IsSeatCallEnteringFault many n x) (sym memory) tt
    ]
  ]
  | inr unmade ↦ subst (λ x. IsSeatCallEnteringFault many n x) (sym unmade.0) tt
]

-- a call that waits for nothing never comes too early
pub seat_fault_never_early : {first : Option Refused} {many : ℕ} {done : Local → Local → Type 0} {added : List Event} (m n : Local) (e : Refused)
    → IsProcessorCall first many ProcessorCallWaitsForNothing done added m n (Some e) → first ≡ None → e ≢ NotYet
seat_fault_never_early m n e call none early = elim (call.err e none refl) [
  | inl inside ↦ inside.not_yet.0 early
  | inr unmade ↦ (let two : NotYet ≡ NoMemory = sym early ∙ unmade.0 in cc)
]

-- a full block that couldn't be handed in
seat_fault_flush : (m n : Local) (e : Refused) → IsFullBlockHanded m n (Some e) → IsSeatCallFlushFault n e
seat_fault_flush m n e (full, call) = (
  ap (λ es. nat_le most_in_block (length es)) block ∙ full,
  subst (λ many. IsSeatCallEnteringFault many n e) (ap length (sym block)) (by (processor_refusal_of_flush m) refl),
)
  where
    block : n.block ≡ m.block
    block = (seat_access_undone_refused m n e call).block_is

    by : (o : Option Refused) → processor_refusal_of_flush m ≡ o → IsSeatCallEnteringFault (length m.block) n e
    by (Some d) due =
        let out = call.outside d due in
        seat_fault_spent_entering (length m.block) m n e (due ∙ sym out.0) out.1
    by None free = seat_fault_entering m n e call free (seat_fault_never_early m n e call free)

-- an access that was refused
pub seat_fault_access : (m n : Local) (a : ℕ) (x : WordAccess) (r : Result ℕ Refused) → IsReadyAccess m a x n r
    → IfErr r (IsSeatCallAccessRefusal m a n)
seat_fault_access m n a x (Ok v) made = tt
seat_fault_access m n a x (Err e) (inl once) = inl once
seat_fault_access m n a x (Err e) (inr late) = inr (late.1.at_once, seat_fault_flush late.0 n e late.2)

-- a call that closes the interval and was refused
pub seat_fault_undone : {A : Type 0} (test : Option Refused) (k : Kind) (l m : Local) (r : Result A Refused) {e : Refused} → r ≡ Err e
    → IsClosingCall test k l m (result_err r)
    → (processor_refusal_or_spent test l ≡ Some e) ⊎ IsSeatCallEnteringFault (length l.block + 1) m e
seat_fault_undone {A} test k l m r {e} is call = by (processor_refusal_or_spent test l) refl
  where
    made : IsClosingCall test k l m (Some e)
    made = subst (λ (y : Result A Refused). IsClosingCall test k l m (result_err y)) is call

    by : (f : Option Refused) → processor_refusal_or_spent test l ≡ f
        → (processor_refusal_or_spent test l ≡ Some e) ⊎ IsSeatCallEnteringFault (length l.block + 1) m e
    by (Some d) due = inl (due ∙ sym (made.outside d due).0)
    by None free = inr (seat_fault_entering l m e made free (seat_fault_never_early l m e made free))

-- of whoever waits, a take isn't refused at once but as the entries are spent
seat_fault_take_spent : (m : Local) → m.awaits ≢ None → processor_refusal_or_spent (processor_refusal_of_take m) m ≡ processor_refusal_of_flush m
seat_fault_take_spent m waits = by m.awaits refl
  where
    by : (o : Option Kind) → m.awaits ≡ o → processor_refusal_or_spent (processor_refusal_of_take m) m ≡ processor_refusal_of_flush m
    by (Some k) is = rw is refl
    by None is = absurd (waits is)

-- a take that was refused otherwise than as it came too early
pub seat_fault_take : {A : Type 0} (m n : Local) (r : Result A Refused) {e : Refused} → r ≡ Err e → m.awaits ≢ None → e ≢ NotYet
    → IsTakingCall m n (result_err r) → IsSeatCallEnteringFault 1 n e
seat_fault_take {A} m n r {e} is waits late call = by (processor_refusal_of_flush m) refl
  where
    made : IsTakingCall m n (Some e)
    made = subst (λ (y : Result A Refused). IsTakingCall m n (result_err y)) is call

    by : (f : Option Refused) → processor_refusal_of_flush m ≡ f → IsSeatCallEnteringFault 1 n e
    by (Some d) due =
        let out = made.outside d (seat_fault_take_spent m waits ∙ due) in
        seat_fault_spent_entering 1 m n e (due ∙ sym out.0) out.1
    by None free = seat_fault_entering m n e made (seat_fault_take_spent m waits ∙ free) late

-- what a wait came to
pub seat_fault_wait : (m n : Local) (answer : Result Waited Refused) (f : SeatFault) → m.awaits ≢ None → IsWaitingCall m n answer
    → IsSeatCallWaitTold answer f → IsSeatCallWaitFault n f
seat_fault_wait m n (Ok MayHaveCome) f waits call told = absurd told
seat_fault_wait m n (Ok Stuck) f waits call told = subst (IsSeatCallWaitFault n) (sym told) (call.stuck refl)
seat_fault_wait m n (Ok Deserted) f waits call told = subst (IsSeatCallWaitFault n) (sym told) (call.deserted refl)
seat_fault_wait m n (Err e) f waits call told = subst (IsSeatCallWaitFault n) (sym told) (by (processor_refusal_of_flush m) refl)
  where
    by : (o : Option Refused) → processor_refusal_of_flush m ≡ o → IsSeatCallEnteringFault 1 n e
    by (Some d) due =
        let out = call.outside waits d due in
        let same : Err e ≡ Err d = out.0 in
        seat_fault_spent_entering 1 m n e (due ∙ ap Some (let back : d ≡ e = cc in back)) out.1
    by None free = let no : false ≡ true = (call.looked waits free).ok in absurd (cc)

pub seat_fault_waits : {A : Type 0} (m n : Local) (answer : Result Waited Refused) (r : Result A SeatFault) → m.awaits ≢ None
    → IsWaitingCall m n answer → IfErr r (IsSeatCallWaitTold answer) → IfErr r (IsSeatCallWaitFault n)
seat_fault_waits m n answer (Ok x) waits call told = tt
seat_fault_waits m n answer (Err f) waits call told = seat_fault_wait m n answer f waits call told

-- the call was made, and waits still, or was refused
pub seat_fault_left_by : {B : Type 0} (l n : Local) (k : Kind) (q : Result B SeatFault) → OnErr q (IsSeatCallBegun l n k)
    → IfErr q (IsSeatCallWaitFault n) → IfErr q (IsSeatCallFault l n k)
seat_fault_left_by l n k (Ok y) begun told = tt
seat_fault_left_by l n k (Err f) begun told = inr (begun, told)

-- whoever waited, and has done nothing, waits still
pub seat_fault_awaits : (m n : Local) → m.awaits ≢ None → IsSeatCallUndone m n → n.awaits ≢ None
seat_fault_awaits m n waits undone none = waits (sym undone.inside.awaits_is ∙ none)

-- a fault that is told
pub seat_fault_told : {A : Type 0} (P : SeatFault → Type 0) (r : Result A SeatFault) (f : SeatFault) → r ≡ Err f → P f → IfErr r P
seat_fault_told {A} P r f is holds = subst (λ (q : Result A SeatFault). IfErr q P) (sym is) holds
