-- What the keeper of a count says.
use Rattle.std.specs.Prelude.{◌≡◌, ℕ, ◌^◌, ◌<◌, ◌≤◌, List, length, sum, All, Bool, MatchBool}
use Rattle.turn.specs.declared.chair.ChairToken.{ChairToken}
use Rattle.turn.specs.Chairs.{ChairLockId, lock, chair_view, entries, IsChairOutside, IsSameChair}

-- the count is the sum of what the chairs have added, which is small
pub record IsTallied (count : ℕ) (views : List ℕ) : Type 0 where
  pub summed : count ≡ sum views
  pub few : length views ≤ 2 ^ 16
  pub small : All (λ v. v ≤ 2 ^ 32) views

module _ {B : Type 0} where
  -- a chair of the lock that never entered and added nothing
  abbrev pub IsNew : ChairLockId → ChairToken B ℕ → Type 0
  IsNew l c = (lock c ≡ l) × IsChairOutside c × (chair_view c ≡ 0) × (entries c ≡ 0)

  -- the chair after a thread added that many times, or couldn't since a chair enters at most `limit` times
  abbrev pub HasAdded : ℕ → ℕ → ChairToken B ℕ → ChairToken B ℕ → Bool → Type 0
  HasAdded limit times old new done = IsSameChair old new × IsChairOutside new
      × MatchBool done ((chair_view new ≡ times) × (times ≤ limit)) (limit < times)
