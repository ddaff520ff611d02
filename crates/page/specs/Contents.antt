-- A processor's copy of a page.
use Rattle.std.specs.Prelude.{ℕ, ◌≡◌, Bool, false, List, length, replicate}
use Rattle.page.specs.declared.page.Access.{Access}

-- the words, for each whether it is dirty, and whether the copy may be used
pub record Contents : Type 0 where
  pub words : List ℕ
  pub dirty : List Bool
  pub access : Access

-- no word is dirty
abbrev pub ContentsAreClean : Contents → Type 0
ContentsAreClean p = p.dirty ≡ replicate (length p.words) false
