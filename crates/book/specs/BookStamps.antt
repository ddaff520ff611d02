-- Timestamps as lists of entries, and what holds of each item of a list.
use Rattle.std.specs.Prelude.{ℕ, ◌≡◌, Option, Some, List, length, slice_get, slice_index}
use Rattle.journal.specs.declared.event.Event.{Event}
use Rattle.journal.specs.declared.event.Kind.{Kind}
use Rattle.journal.specs.Times.{IsTimeIn}
use Rattle.journal.specs.WellFormed.{LastIs}
use Rattle.journal.specs.AwaitedNext.{awaited_next}

-- the list has n items, and each is what it has to be at its place
pub record EachStampedAt {A : Type 0} (n : ℕ) (R : ℕ → A → Type 0) (xs : List A) : Type 0 where
  pub long : length xs ≡ n
  pub each : (i : ℕ) (x : A) → slice_get xs i ≡ Some x → R i x

-- the timestamp of n processors that counts the intervals closed at these places
pub record IsBookStamp (n : ℕ) (h : List Event) (among : ℕ → Type 0) (t : List ℕ) : Type 0 where
  pub long : length t ≡ n
  pub is : IsTimeIn h among (slice_index t)

-- what p waits for, if it does
pub record IsAwaitedByBookStamps (h : List Event) (p : ℕ) (w : Option Kind) : Type 0 where
  pub last : (i : ℕ) (a : Kind) → LastIs h p i a → w ≡ awaited_next a
  pub some : (k : Kind) → w ≡ Some k → (i : ℕ) × (a : Kind) × LastIs h p i a
