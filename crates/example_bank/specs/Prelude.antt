-- The words that contracts name, passed on from one place. Declares nothing.
pub use Rattle.example_bank.specs.Accounts.{HasBanked, HasPaid, IsBankRun, bank_fact}
