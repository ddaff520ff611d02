-- What the bank's lock keeps, and what a run comes to.
use Rattle.std.specs.Prelude.{ℕ, ◌≡◌, ◌%◌, ◌^◌, Bool, true, Some, [], ◌∷◌, List, slice_get}
use Rattle.journal.specs.declared.event.Kind.{Kind}
use Rattle.journal.specs.Log.{Log}
use Rattle.seats.specs.BalanceFacts.{balance_fact, sum_at}
use Rattle.seats.specs.GuardedRuns.{IsGuardedRun}
use Rattle.seats.specs.Tables.{GuardTables}
use Rattle.seats.specs.Tenures.{IsBetweenTenures, KeptFact, ReadsKept}
use Rattle.seats.specs.WordTallies.{AddsUpTo}

-- the accounts, at addresses 0 and 1, come to what was paid in, which is at 2
abbrev pub bank_fact : KeptFact
bank_fact = balance_fact 0 (0 ∷ 1 ∷ []) (2 ∷ [])

-- each tenure preserved that, and by all of them so many coins were paid in
pub record HasPaid (n : ℕ) (ks : List Kind) : Type 0 where
  pub between : IsBetweenTenures bank_fact ks
  pub paid : AddsUpTo 0 2 n ks

-- so a processor did with 250 coins; and supposing that the others preserve the balance, too, it found the bank balanced
abbrev pub HasBanked : ℕ → List Kind → Bool → Type 0
HasBanked p ks balanced = HasPaid 250 ks × (ReadsKept bank_fact ks → balanced ≡ true)

-- a run of four, of which all replies are those of one flat memory; at its end the accounts come to what they paid in, and each
-- found the bank balanced
pub record IsBankRun (memory : List ℕ) (answers : List Bool) (j : Log) : Type 0 where
  pub layout : GuardTables
  pub ran : IsGuardedRun layout HasBanked (record { processors = 4; pages = 1; words = 3; locks = 1; flags = 0 }) answers memory j
  pub sum : sum_at memory (0 ∷ 1 ∷ []) % 2 ^ 32 ≡ 1000
  pub balanced : (p : ℕ) (b : Bool) → slice_get answers p ≡ Some b → b ≡ true
