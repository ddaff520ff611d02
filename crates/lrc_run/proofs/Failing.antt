-- Faults among outcomes, found one by one; and what is taken of outcomes that are none.
use Rattle.std.proofs.Common.{ℕ, ◌≡◌, ◌≢◌, ◌+◌, ◌<◌, inl, inr, Bool, List, [], ◌∷◌, ◌++◌, Result, Ok, Err, length, map, refl, sym, ap, subst, ◌∙◌, arith}
use Rattle.std.specs.Result.{IfOk}
use Rattle.std.proofs.lemmas.Bool.{cases_lt}
use Rattle.std.proofs.lemmas.List.{map-append}
use Rattle.conformance.specs.declared.cause.Cause.{Cause}
use Rattle.lrc_run.specs.FailedOutcomes.{is_failed_outcome_stuck, FailedOutcome, IsFirstFailedOutcome}

-- none below a place failed so
abbrev pub NoneFailingBelow : {X : Type 0} → List (Result X Cause) → Bool → ℕ → Type 0
NoneFailingBelow outcomes stuck k = (p : ℕ) (cause : Cause) → p < k → FailedOutcome outcomes p cause → is_failed_outcome_stuck cause ≢ stuck

pub failing_none_more : {X : Type 0} (outcomes : List (Result X Cause)) (stuck : Bool) (k : ℕ) → NoneFailingBelow outcomes stuck k
    → ((cause : Cause) → FailedOutcome outcomes k cause → is_failed_outcome_stuck cause ≢ stuck) → NoneFailingBelow outcomes stuck (k + 1)
failing_none_more outcomes stuck k below here p cause less failed = elim (cases_lt p k) [
  | inl lower ↦ below p cause lower failed
  | inr not ↦ here cause (subst (λ q. FailedOutcome outcomes q cause) (omega arith) failed)
]

pub failing_first_so : {X : Type 0} (outcomes : List (Result X Cause)) (stuck : Bool) (k : ℕ) (cause : Cause)
    → NoneFailingBelow outcomes stuck k → FailedOutcome outcomes k cause → is_failed_outcome_stuck cause ≡ stuck
    → IsFirstFailedOutcome outcomes stuck (record { processor = k; cause = cause })
failing_first_so outcomes stuck k cause below failed so = record {
  failed = failed;
  so = so;
  least = λ p other fails is. elim (cases_lt p k)
      [ inl lower ↦ absurd (below p other lower fails is) | inr not ↦ not ];
}

-- one outcome more that is no fault
pub failing_taken_more : {X : Type 0} (all : List X) (outcomes : List (Result X Cause)) (x : X) (outcome : Result X Cause)
    → map Ok all ≡ outcomes → outcome ≡ Ok x → map Ok (all ++ x ∷ []) ≡ outcomes ++ outcome ∷ []
failing_taken_more all outcomes x outcome same is = map-append Ok all (x ∷ []) ∙ ap (λ os. os ++ Ok x ∷ []) same
    ∙ ap (λ o. outcomes ++ o ∷ []) (sym is)

-- nothing is left of a list without a length
pub failing_none_left : {A : Type 0} (xs : List A) → length xs ≡ 0 → xs ≡ []
failing_none_left [] none = refl
failing_none_left (x ∷ xs) none = absurd (omega arith)

-- what holds of an answer holds of it in weaker words
pub failing_ok_as : {A E : Type 0} (r : Result A E) (P Q : A → Type 0) → ((x : A) → P x → Q x) → IfOk r P → IfOk r Q
failing_ok_as (Ok x) P Q less holds = less x holds
failing_ok_as (Err e) P Q less holds = tt

-- what holds whatever is answered
pub failing_ok_whatever : {A E P : Type 0} (r : Result A E) → P → IfOk r (λ _. P)
failing_ok_whatever (Ok x) holds = holds
failing_ok_whatever (Err e) holds = tt
