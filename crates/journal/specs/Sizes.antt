-- The sizes of a cluster.
use Rattle.std.specs.Prelude.{ℕ, ◌*◌}

-- a page has `words` words
pub record Sizes : Type 0 where
  pub processors : ℕ
  pub pages : ℕ
  pub words : ℕ
  pub locks : ℕ
  pub flags : ℕ

-- how many addresses there are
abbrev pub addresses : Sizes → ℕ
addresses s = s.pages * s.words
