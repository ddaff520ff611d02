-- A processor that sees what another one has seen.
use Rattle.std.specs.Prelude.{ℕ, ◌≡◌, ◌≢◌, List, ◌++◌}
use Rattle.journal.specs.declared.event.Event.{Event}
use Rattle.journal.specs.Events.{EventAt}
use Rattle.cluster.specs.Copies.Local.{Local, calls}
use Rattle.cluster.specs.Copies.AfterNews.{found_after_news}
use Rattle.cluster.specs.Covers.{HasCoverage, IsCoverAllowed}

-- it has seen what others did since it last looked, and so all that the other one has seen; nothing else has changed
pub record CatchesUp (old other new : Local) : Type 0 where
  pub rest : List Event
  pub away : (k : ℕ) (e : Event) → EventAt rest k e → e.processor ≢ old.number
  pub after : new ≡ found_after_news old rest
  pub beyond : (more : List Event) × (new.seen ≡ other.seen ++ more)
  pub calls_are : calls new ≡ calls old
  pub covers : HasCoverage new
  pub allowed : IsCoverAllowed new
