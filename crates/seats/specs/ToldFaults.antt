-- Which of several processors' faults a run tells.
use Rattle.std.specs.Prelude.{ℕ, ◌≡◌, ◌≢◌, ◌⊎◌, ◌≤◌, Bool, true, false, cond, Option, Some, None, List, Result, Err, slice_get}
use Rattle.seats.specs.declared.fault.ProcessorFault.{ProcessorFault}
use Rattle.seats.specs.declared.fault.SeatFault.{SeatFault}
use Rattle.seats.specs.declared.fault.SeatFault.TheVariants.{Deserted, Stuck}

-- whether a wait was in vain
abbrev pub is_vain_wait : SeatFault → Bool
is_vain_wait Stuck = true
is_vain_wait Deserted = true
is_vain_wait _ = false

-- which of two is told: the earlier one, unless that alone is a vain wait
abbrev pub told_fault_then : Option ProcessorFault → ProcessorFault → ProcessorFault
told_fault_then None later = later
told_fault_then (Some first) later = cond (is_vain_wait first.fault) (cond (is_vain_wait later.fault) first later) first

module _ {X : Type 0} where
  -- processor p came to this fault
  abbrev pub CameToFault : List (Result X SeatFault) → ℕ → SeatFault → Type 0
  CameToFault outcomes p f = slice_get outcomes p ≡ Some (Err f)

  -- none came to a vain wait, or none came to another fault
  abbrev pub NoneFaultedSo : List (Result X SeatFault) → Bool → Type 0
  NoneFaultedSo outcomes vain = (p : ℕ) (f : SeatFault) → CameToFault outcomes p f → is_vain_wait f ≢ vain

  -- the least processor of those that came to a vain wait, or of those that came to another fault
  pub record IsLeastToFault (outcomes : List (Result X SeatFault)) (vain : Bool) (told : ProcessorFault) : Type 0 where
    pub came : CameToFault outcomes told.processor told.fault
    pub so : is_vain_wait told.fault ≡ vain
    pub least : (p : ℕ) (f : SeatFault) → CameToFault outcomes p f → is_vain_wait f ≡ vain → told.processor ≤ p

  -- all came to their ends
  abbrev pub NoneFaulted : List (Result X SeatFault) → Type 0
  NoneFaulted outcomes = (p : ℕ) (f : SeatFault) → CameToFault outcomes p f → ⊥

  -- the fault of the least that came to another fault than a vain wait; if there is none, of the least that came to that;
  -- None if all came to their ends
  abbrev pub IsToldFault : List (Result X SeatFault) → Option ProcessorFault → Type 0
  IsToldFault outcomes None = NoneFaulted outcomes
  IsToldFault outcomes (Some told) =
      IsLeastToFault outcomes false told ⊎ (NoneFaultedSo outcomes false × IsLeastToFault outcomes true told)
