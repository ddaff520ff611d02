-- Which of several processors' faults a run tells.
use Rattle.std.specs.Prelude.{ℕ, ◌≡◌, ◌≢◌, ◌⊎◌, ◌≤◌, Bool, true, false, Some, List, Result, Err, slice_get}
use Rattle.conformance.specs.declared.cause.Cause.{Cause}
use Rattle.conformance.specs.declared.cause.Cause.TheVariants.{Stuck}
use Rattle.conformance.specs.declared.cause.RunFault.{RunFault}

-- whether it only waited too long
abbrev pub is_failed_outcome_stuck : Cause → Bool
is_failed_outcome_stuck Stuck = true
is_failed_outcome_stuck _ = false

-- this processor went no further, and why
abbrev pub FailedOutcome : {X : Type 0} → List (Result X Cause) → ℕ → Cause → Type 0
FailedOutcome outcomes p cause = slice_get outcomes p ≡ Some (Err cause)

-- none did
abbrev pub NoOutcomeFailed : {X : Type 0} → List (Result X Cause) → Type 0
NoOutcomeFailed outcomes = (p : ℕ) (cause : Cause) → FailedOutcome outcomes p cause → ⊥

-- none did of those that are stuck, or of those that aren't
abbrev pub NoOutcomeFailedSo : {X : Type 0} → List (Result X Cause) → Bool → Type 0
NoOutcomeFailedSo outcomes stuck = (p : ℕ) (cause : Cause) → FailedOutcome outcomes p cause → is_failed_outcome_stuck cause ≢ stuck

-- the least of them
pub record IsFirstFailedOutcome {X : Type 0} (outcomes : List (Result X Cause)) (stuck : Bool) (f : RunFault) : Type 0 where
  pub failed : FailedOutcome outcomes f.processor f.cause
  pub so : is_failed_outcome_stuck f.cause ≡ stuck
  pub least : (p : ℕ) (cause : Cause) → FailedOutcome outcomes p cause → is_failed_outcome_stuck cause ≡ stuck → f.processor ≤ p

-- the least processor's that isn't stuck; if there is none, the least's that is
abbrev pub IsFaultOfFailedOutcome : {X : Type 0} → List (Result X Cause) → RunFault → Type 0
IsFaultOfFailedOutcome outcomes f = IsFirstFailedOutcome outcomes false f ⊎ (NoOutcomeFailedSo outcomes false × IsFirstFailedOutcome outcomes true f)
