-- The values that a load may answer, as they are collected.
use Rattle.std.specs.Prelude.{ℕ, ◌≡◌, ◌↔◌, ◌⊎◌, List}
use Rattle.base.specs.InOrderOnce.{Has, IsOnce}
use Rattle.judge.specs.declared.flat_memory.FlatStore.{FlatStore}

-- a value is among the new ones if it was among the old ones, or is this one; if they were there once, they still are
pub record HasAllowedAnswerMore (old new : List ℕ) (value : ℕ) : Type 0 where
  pub each : (x : ℕ) → Has new x ↔ (Has old x ⊎ (x ≡ value))
  pub once : IsOnce old → IsOnce new

-- one of these stores is of this value
pub record IsAllowedAnswerOf (stores : List FlatStore) (value : ℕ) : Type 0 where
  pub store : FlatStore
  pub has : Has stores store
  pub is : store.value ≡ value

-- these are the values of these stores, each once
pub record AreAllowedAnswersOf (stores : List FlatStore) (answers : List ℕ) : Type 0 where
  pub each : (x : ℕ) → Has answers x ↔ IsAllowedAnswerOf stores x
  pub once : IsOnce answers
