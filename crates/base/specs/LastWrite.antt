-- Words that are written into a list, one after another.
use Rattle.std.specs.Prelude.{ℕ, ◌≡◌, ◌≢◌, ◌<◌, Option, Some, None, List, [], ◌∷◌, slice_get, slice_set}

-- the words after a write, if there is one, of a place and its value
abbrev pub wrote : List ℕ → Option (ℕ × ℕ) → List ℕ
wrote words None = words
wrote words (Some p) = slice_set words p.0 p.1

-- the words after what the items write, in turn
abbrev pub written : {A : Type 0} → (A → Option (ℕ × ℕ)) → List ℕ → List A → List ℕ
written f words [] = words
written f words (x ∷ xs) = written f (wrote words (f x)) xs

-- the last item that writes at place o writes v there
pub record LastWrite {A : Type 0} (f : A → Option (ℕ × ℕ)) (xs : List A) (o v : ℕ) : Type 0 where
  pub place : ℕ
  pub item : A
  pub at : slice_get xs place ≡ Some item
  pub writes : f item ≡ Some (o, v)
  pub last : (k : ℕ) (y : A) (u : ℕ) → place < k → slice_get xs k ≡ Some y → f y ≢ Some (o, u)
