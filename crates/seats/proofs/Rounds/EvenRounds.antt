-- Even and odd rounds.
use Rattle.std.proofs.Common.{ℕ, ◌≡◌, ◌≢◌, ◌%◌, ◌⊎◌, inl, inr, true, false, zero, suc, refl, ap, arith}
use Rattle.std.specs.Prelude.{not}
use Rattle.seats.specs.GridPairs.{is_even}

even_round_cases : (n : ℕ) → ((n % 2 ≡ 0) × (is_even n ≡ true)) ⊎ ((n % 2 ≡ 1) × (is_even n ≡ false))
even_round_cases zero = inl (refl, refl)
even_round_cases (suc n) = elim (even_round_cases n) [
  | inl even ↦ inr (let was = even.0 in omega (arith, was), ap not even.1)
  | inr odd ↦ inl (let was = odd.0 in omega (arith, was), ap not odd.1)
]

pub even_round_is : (n : ℕ) → n % 2 ≡ 0 → is_even n ≡ true
even_round_is n none = elim (even_round_cases n) [ inl even ↦ even.1 | inr odd ↦ absurd (let one = odd.0 in omega (arith, one, none)) ]

pub even_round_is_not : (n : ℕ) → n % 2 ≢ 0 → is_even n ≡ false
even_round_is_not n some = elim (even_round_cases n) [ inl even ↦ absurd (some even.0) | inr odd ↦ odd.1 ]
