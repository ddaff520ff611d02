-- Vector timestamps: how many of each processor's closing events a past has.
use Rattle.std.specs.Prelude.{ℕ, ◌<◌, ◌≤◌, ◌↔◌, IsTrue, List}
use Rattle.journal.specs.declared.event.Event.{Event}
use Rattle.journal.specs.declared.event.Kind.{Kind}
use Rattle.journal.specs.Events.{event_count, event_interval_at, event_closes}
use Rattle.journal.specs.WellFormed.{Does}
use Rattle.journal.specs.Pasts.{InPast}

-- q closes an interval at place i
pub record ClosesAt (j : List Event) (q i : ℕ) : Type 0 where
  pub kind : Kind
  pub does : Does j i q kind
  pub closes : IsTrue (event_closes kind)

-- of each processor q, the closing events among these places are the first t q ones
pub record IsTimeIn (j : List Event) (among : ℕ → Type 0) (t : ℕ → ℕ) : Type 0 where
  pub covers : (q i : ℕ) → ClosesAt j q i → among i ↔ (event_interval_at j q i < t q)
  pub within : (q : ℕ) → t q ≤ event_count event_closes j q

-- the timestamp of processor p (t is slice_index of its entries)
abbrev pub IsTimeOf : List Event → ℕ → (ℕ → ℕ) → Type 0
IsTimeOf j p t = IsTimeIn j (InPast j p) t
