-- The events of other processors with an edge to an event.
use Rattle.std.specs.Prelude.{ℕ, ◌≡◌, ◌≢◌, List}
use Rattle.journal.specs.declared.event.Event.{Event}
use Rattle.journal.specs.declared.event.Kind.{Kind}
use Rattle.journal.specs.declared.event.Kind.TheVariants.{Acquire, Release, Arrive, Depart, Set, Await}
use Rattle.journal.specs.HappensBeforeEdges.{Edge}

-- an edge leads from place i to place k, and their events are of two processors
pub record EdgeFromOther (j : List Event) (i k : ℕ) : Type 0 where
  pub edge : Edge j i k
  pub apart : edge.from.processor ≢ edge.to.processor

-- an event of the first kind, before which its processor arrived so often, lets on one of the second, before which its
-- processor departed so often
abbrev pub EdgeLetsOn : Kind → ℕ → Kind → ℕ → Type 0
EdgeLetsOn from arrived (Acquire l) departed = from ≡ Release l
EdgeLetsOn from arrived (Await f) departed = from ≡ Set f
EdgeLetsOn from arrived Depart departed = (from ≡ Arrive) × (arrived ≡ departed)
EdgeLetsOn from arrived _ departed = ⊥
