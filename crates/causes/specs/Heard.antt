-- What one processor has heard of another's events.
use Rattle.std.specs.Prelude.{ℕ, ◌≤◌, List, Option, MatchOption}
use Rattle.journal.specs.declared.event.Event.{Event}
use Rattle.journal.specs.declared.event.Kind.{Kind}
use Rattle.journal.specs.HappensBeforeEdges.{HappensBefore}
use Rattle.journal.specs.WellFormed.{Does}

-- no event of q happens before place k
abbrev pub HeardNothing : List Event → ℕ → ℕ → Type 0
HeardNothing j q k = (m : ℕ) (a : Kind) → Does j m q a → ¬ HappensBefore j m k

-- q's event at place i happens before place k, and no later one of q does
pub record IsHeardAt (j : List Event) (q k i : ℕ) : Type 0 where
  pub kind : Kind
  pub does : Does j i q kind
  pub before : HappensBefore j i k
  pub last : (m : ℕ) (a : Kind) → Does j m q a → HappensBefore j m k → m ≤ i

-- the last event of q that happens before place k, where there is one
abbrev pub IsHeard : List Event → ℕ → ℕ → Option ℕ → Type 0
IsHeard j q k o = MatchOption o (HeardNothing j q k) (IsHeardAt j q k)
