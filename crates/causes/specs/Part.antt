-- Parts of a history.
use Rattle.std.specs.Prelude.{ℕ, ◌≡◌, ◌<◌, ◌≤◌, IfSome, Some, true, slice_get}
use Rattle.causes.specs.declared.part.Part.{Part}

-- the part has p's event at place k
pub record IsInPart (x : Part) (k p : ℕ) : Type 0 where
  pub shown : slice_get x.processors p ≡ Some true
  pub from : x.first ≤ k
  pub to : IfSome x.end (λ n. k < n)
