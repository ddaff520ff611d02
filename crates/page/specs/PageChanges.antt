-- What an interval's stores come to in one page.
use Rattle.std.specs.Prelude.{ℕ, ◌<◌, List}
use Rattle.base.specs.InOrderOnce.{InOrder}

-- a page, and the offsets and values of the words that were stored in it
pub record PageChanges : Type 0 where
  pub page : ℕ
  pub words : List (ℕ × ℕ)

-- the offsets rise, so each of them stands once
abbrev pub ArePageChangesRising : List (ℕ × ℕ) → Type 0
ArePageChangesRising words = InOrder (λ (x y : ℕ × ℕ). x.0 < y.0) words
